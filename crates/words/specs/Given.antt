-- Lines that begin with a part, and what holds of the part and of what stands behind it. Assumes nothing.
use Rattle.std.specs.Prelude.{Bool, true, false, ◌&&◌, List, [], ◌∷◌, ◌++◌, ◌≡◌, ℕ, zero, suc, ◌^◌, ltb, length}

-- a part: its length, then its words
abbrev pub as_part : List ℕ → List ℕ
as_part ws = length ws ∷ ws

-- the line is a part and more words, of which P holds
pub record Part (P : List ℕ → List ℕ → Type 0) (line : List ℕ) : Type 0 where
  pub part : List ℕ
  pub rest : List ℕ
  pub words : line ≡ as_part part ++ rest
  pub holds : P part rest

-- so many words at most, and each fits 32 bits
unfoldable pub narrows : ℕ → List ℕ → Bool
narrows most [] = true
narrows zero (w ∷ ws) = false
narrows (suc most) (w ∷ ws) = ltb w (2 ^ 32) && narrows most ws

-- the line begins with a part that has room in so many slots of 32 bits, and P holds of it and of what is behind
abbrev pub Given : ℕ → (List ℕ → List ℕ → Type 0) → List ℕ → Type 0
Given most P = Part (λ ws rest. (narrows most ws ≡ true) × P ws rest)
