-- Rows read as arrays of ITEM words. Assumes nothing.
use mathlib.Core.List.{List, []}
use mathlib.Core.Path.{◌≡◌, refl, ap, ◌∙◌}
use Prim.Native.Nat.{ℕ, zero, suc, ◌+◌, ◌*◌, ◌/◌, ◌<◌}
use native.Mathlib.Omega.{arith}
use lib.ListN.{length, get_or, take, drop}
use lib.Seq.{get_or-take, get_or-drop, drop-drop}
use Rattle.std.specs.Simd.{first_chunks}
use Rattle.std.proofs.lemmas.List.{drop-take, take-take}
use Rattle.block.specs.Limits.{WORDS, ITEM}

at : (n k : ℕ) (ws : List ℕ) → k < n → get_or (first_chunks ITEM n ws) k [] ≡ take ITEM (drop (ITEM * k) ws)
at zero k ws l = absurd (omega arith)
at (suc n) zero ws l = refl
at (suc n) (suc k) ws l =
    at n k (drop ITEM ws) (omega arith)
    ∙ ap (λ (u : List ℕ). take ITEM u) (drop-drop (ITEM * k) ITEM ws ∙ ap (λ (m : ℕ). drop m ws) (let z : ITEM + ITEM * k ≡ ITEM * suc k = omega arith in z))

front : (xs : List ℕ) → take WORDS (drop 1 (take ITEM xs)) ≡ take WORDS (drop 1 xs)
front xs = ap (λ (u : List ℕ). take WORDS u) (drop-take 1 WORDS xs) ∙ take-take WORDS WORDS (drop 1 xs) (omega arith)

-- the arrays rows of the words ws
module _ (ws : List ℕ) (rows : List (List ℕ)) (is : rows ≡ first_chunks ITEM (length ws / ITEM) ws) (k : ℕ) (l : k < length ws / ITEM) where
  part : get_or rows k [] ≡ take ITEM (drop (ITEM * k) ws)
  part = ap (λ (u : List (List ℕ)). get_or u k []) is ∙ at (length ws / ITEM) k ws l

  -- the item of row k
  pub chunk-item : get_or (get_or rows k []) 0 0 ≡ get_or ws (ITEM * k) 0
  chunk-item =
      ap (λ (u : List ℕ). get_or u 0 0) part ∙ get_or-take ITEM (drop (ITEM * k) ws) 0 0 (omega arith)
      ∙ get_or-drop (ITEM * k) ws 0 0 ∙ ap (λ (m : ℕ). get_or ws m 0) (let z : ITEM * k + 0 ≡ ITEM * k = omega arith in z)

  -- and its context
  pub chunk-context : take WORDS (drop 1 (get_or rows k [])) ≡ take WORDS (drop (ITEM * k + 1) ws)
  chunk-context =
      ap (λ (u : List ℕ). take WORDS (drop 1 u)) part ∙ front (drop (ITEM * k) ws) ∙ ap (λ (u : List ℕ). take WORDS u) (drop-drop 1 (ITEM * k) ws)
