-- A row of rows: its item is present and its tokens are there, and where it stands in rows put together. Assumes nothing.
use mathlib.Core.List.{List, [], ◌∷◌, ◌++◌}
use mathlib.Core.Logic.{◌⊎◌, inl, inr}
use mathlib.Core.Path.{◌≡◌, refl, sym, subst}
use Prim.Native.Nat.{ℕ}
use Rattle.block.specs.Limits.{WORDS}
use Rattle.block.specs.Sets.{In, Fits}
use Rattle.itemset.specs.Rows.{Row, row, Present, Token, Sets}

-- item k is there with the context s
abbrev pub Has : ℕ → List ℕ → List Row → Type 0
Has k s [] = ⊥
Has k s (row i t ∷ rs) = ((k ≡ i) × (s ≡ t)) ⊎ Has k s rs

pub has-present : (k : ℕ) (s : List ℕ) (rs : List Row) → Has k s rs → Present k rs
has-present k s [] m = m
has-present k s (row i t ∷ rs) (inl e) = inl e.0
has-present k s (row i t ∷ rs) (inr m) = inr (has-present k s rs m)

pub present-has : (k : ℕ) (rs : List Row) → Present k rs → (s : List ℕ) × Has k s rs
present-has k [] m = absurd m
present-has k (row i t ∷ rs) (inl e) = (t, inl (e, refl))
present-has k (row i t ∷ rs) (inr m) = let r = present-has k rs m in (r.0, inr r.1)

pub has-token : (k t : ℕ) (s : List ℕ) (rs : List Row) → Has k s rs → In s t → Token k t rs
has-token k t s [] m i = m
has-token k t s (row j u ∷ rs) (inl e) i = inl (e.0, subst (λ v. In v t) e.1 i)
has-token k t s (row j u ∷ rs) (inr m) i = inr (has-token k t s rs m i)

pub token-has : (k t : ℕ) (rs : List Row) → Token k t rs → (s : List ℕ) × Has k s rs × In s t
token-has k t [] m = absurd m
token-has k t (row i s ∷ rs) (inl e) = (s, inl (e.0, refl), e.1)
token-has k t (row i s ∷ rs) (inr m) = let r = token-has k t rs m in (r.0, inr r.1, r.2)

-- ---- rows put together
pub has_left : (k : ℕ) (s : List ℕ) (rs ss : List Row) → Has k s rs → Has k s (rs ++ ss)
has_left k s [] ss m = absurd m
has_left k s (row i t ∷ rs) ss (inl e) = inl e
has_left k s (row i t ∷ rs) ss (inr m) = inr (has_left k s rs ss m)

pub has_right : (k : ℕ) (s : List ℕ) (rs ss : List Row) → Has k s ss → Has k s (rs ++ ss)
has_right k s [] ss m = m
has_right k s (row i t ∷ rs) ss m = inr (has_right k s rs ss m)

pub has_either : (k : ℕ) (s : List ℕ) (rs ss : List Row) → Has k s (rs ++ ss) → Has k s rs ⊎ Has k s ss
has_either k s [] ss m = inr m
has_either k s (row i t ∷ rs) ss (inl e) = inl (inl e)
has_either k s (row i t ∷ rs) ss (inr m) = elim (has_either k s rs ss m) [ inl h ↦ inl (inr h) | inr h ↦ inr h ]

-- ---- the contexts of rows are token sets
pub sets-append : (rs ss : List Row) → Sets rs → Sets ss → Sets (rs ++ ss)
sets-append [] ss a c = c
sets-append (row i s ∷ rs) ss a c = (a.0, sets-append rs ss a.1 c)

pub has-fits : (k : ℕ) (s : List ℕ) (rs : List Row) → Sets rs → Has k s rs → Fits WORDS s
has-fits k s [] h m = absurd m
has-fits k s (row i t ∷ rs) h (inl e) = subst (λ u. Fits WORDS u) (sym e.1) h.0
has-fits k s (row i t ∷ rs) h (inr m) = has-fits k s rs h.1 m
