-- Small functions on lists, answers that may be refusals, and a fold that stops at the first. Assumes nothing.
use Rattle.std.specs.Prelude.{Bool, true, false, ◌&&◌, List, [], ◌∷◌, ◌++◌, ℕ, zero, suc}
use Rattle.std.proofs.Math.Option.{Option, none, some}

module _ {A : Type 0} where
  unfoldable pub all : (A → Bool) → List A → Bool
  all f [] = true
  all f (x ∷ xs) = f x && all f xs

  -- f holds of every two different places
  unfoldable pub pairwise : (A → A → Bool) → List A → Bool
  pairwise f [] = true
  pairwise f (x ∷ xs) = all (f x) xs && pairwise f xs

  -- the first place where f holds, the list standing from place n on
  unfoldable pub find : (A → Bool) → ℕ → List A → Option ℕ
  find f n [] = none
  find f n (x ∷ xs) = elim (f x) [ true ↦ some n | false ↦ find f (suc n) xs ]

module _ {A B : Type 0} where
  -- the lists that f gives, one behind the other
  unfoldable pub each : (A → List B) → List A → List B
  each f [] = []
  each f (x ∷ xs) = f x ++ each f xs

-- an answer, or a refusal: its number and its values
pub data Answer (A : Type 0) : Type 0 where
  is : A → Answer A
  refused : List ℕ → Answer A

module _ {A B : Type 0} where
  -- a fold that stops at the first refusal
  unfoldable pub walk : (A → B → Answer A) → A → List B → Answer A
  walk f a [] = is a
  walk f a (x ∷ xs) = elim (f a x) [ is a' ↦ walk f a' xs | refused n ↦ refused n ]

module _ {A : Type 0} where
  -- the answer, unless a refusal of a number above 0 comes before it
  abbrev pub unless : ℕ → Answer A → Answer A
  unless zero a = a
  unless (suc n) a = refused (suc n ∷ [])

  -- what is left, where such a refusal changes nothing
  abbrev pub unchanged : ℕ → A → A → A
  unchanged zero before after = after
  unchanged (suc n) before after = before
