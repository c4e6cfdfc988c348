-- Lists of two or three numbers are equal when the numbers are. Assumes nothing.
use mathlib.Core.Bool.{true, false}
use mathlib.Core.List.{[], ◌∷◌}
use mathlib.Core.Logic.{◌↔◌}
use mathlib.Core.Path.{◌≡◌, ap}
use Prim.Native.Nat.{ℕ}
use lib.Dec.{eqb}
use lib.ListN.{get_or}
use borrow.Author.Tests.{eqb-true, eq-eqb}
use Rattle.words.proofs.Answers.{says-no}

module _ (a b n w : ℕ) where
  pub pair-not : (a ≡ n → ⊥) → (false ≡ true) ↔ (a ∷ b ∷ [] ≡ n ∷ w ∷ [])
  pair-not h = says-no (λ e. h (ap (λ l. get_or l 0 0) e))

  pub pair-by : a ≡ n → (eqb b w ≡ true) ↔ (a ∷ b ∷ [] ≡ n ∷ w ∷ [])
  pair-by h = (
    λ t. let y = eqb-true b w t in cc,
    λ e. eq-eqb b w (ap (λ l. get_or l 1 0) e),
  )

  module _ (c v : ℕ) where
    pub three : a ∷ b ∷ c ∷ [] ≡ n ∷ w ∷ v ∷ [] → (a ≡ n) × (b ≡ w) × (c ≡ v)
    three e = (ap (λ l. get_or l 0 0) e, ap (λ l. get_or l 1 0) e, ap (λ l. get_or l 2 0) e)

    -- the third one is left to compare
    pub third-by : a ∷ b ∷ [] ≡ n ∷ w ∷ [] → (eqb c v ≡ true) ↔ ((a ≡ n) × (b ≡ w) × (c ≡ v))
    third-by e = (
      λ t. (ap (λ l. get_or l 0 0) e, ap (λ l. get_or l 1 0) e, eqb-true c v t),
      λ s. eq-eqb c v s.2,
    )

    pub first_two : (a ≡ n) × (b ≡ w) × (c ≡ v) → a ∷ b ∷ [] ≡ n ∷ w ∷ []
    first_two s = let x = s.0 in let y = s.1 in cc
