-- Every element of a list and those behind it. Assumes nothing.
use mathlib.Core.List.Memᴰ
use mathlib.Core.List.{List, [], ◌∷◌, ◌++◌, Memᴰ}
use mathlib.Core.Logic.{⊎_elim}
use mathlib.Core.Path.{refl}

module _ {A : Type 0} (R : A → A → Type 0) where
  abbrev pub Pairs : List A → Type 0
  Pairs [] = Unit {0}
  Pairs (x ∷ xs) = ((y : A) → Memᴰ y xs → R x y) × Pairs xs

  pub pairs-append : (xs ys : List A) → Pairs xs → Pairs ys → ((x y : A) → Memᴰ x xs → Memᴰ y ys → R x y) → Pairs (xs ++ ys)
  pairs-append [] ys h k c = k
  pairs-append (x ∷ xs) ys h k c = (
    λ y m. ⊎_elim (h.0 y) (c x y (Memᴰ.head refl)) (Memᴰ.append_cases xs m),
    pairs-append xs ys h.1 k (λ z y m n. c z y (Memᴰ.tail m) n),
  )
