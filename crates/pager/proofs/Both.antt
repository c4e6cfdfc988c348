-- Two lists of rows with the same items: the contexts of an item here and there. Assumes nothing.
use mathlib.Core.Bool.{Bool, true, ◌&&◌}
use mathlib.Core.List.{List, [], ◌∷◌}
use mathlib.Core.Logic.{◌⊎◌, inl, inr}
use mathlib.Core.Path.{◌≡◌, refl, sym, ap₂, ◌∙◌, subst}
use Prim.Native.Nat.{ℕ, suc}
use native.Mathlib.Omega.{arith}
use lib.Dec.{eqb}
use borrow.Author.Tests.{eqb-true, eq-eqb}
use Rattle.block.specs.Lists.{same}
use Rattle.block.specs.Sets.{In, Fits}
use Rattle.block.specs.Limits.{WORDS}
use Rattle.block.proofs.ListLaws.{and_both}
use Rattle.itemset.specs.Rows.{Row, row, Present, Token, From, Sets}
use Rattle.itemset.proofs.RowLaws.{from-present, from-token}
use Rattle.pager.specs.Lists.{all, pairwise}
use Rattle.pager.specs.Weak.{item_same, contexts}

-- the same items, row by row
abbrev pub SameItems : List Row → List Row → Type 0
SameItems [] [] = Unit {0}
SameItems [] (r ∷ L) = ⊥
SameItems (r ∷ K) [] = ⊥
SameItems (row i s ∷ K) (row j t ∷ L) = (i ≡ j) × SameItems K L

-- item i stands in both, with the context s here and t there
abbrev pub Both : ℕ → List ℕ → List ℕ → List Row → List Row → Type 0
Both i s t [] L = ⊥
Both i s t (r ∷ K) [] = ⊥
Both i s t (row j u ∷ K) (row k v ∷ L) = ((i ≡ j) × (s ≡ u) × (t ≡ v)) ⊎ Both i s t K L

-- ---- the test of the items
pub items-test : (K L : List Row) → same item_same K L ≡ true → SameItems K L
unfolding same item_same
items-test [] [] e = tt
items-test [] (r ∷ L) e = let z : ◌≡◌ {A = ℕ} 0 1 = cc in absurd (omega arith)
items-test (r ∷ K) [] e = let z : ◌≡◌ {A = ℕ} 0 1 = cc in absurd (omega arith)
items-test (row i s ∷ K) (row j t ∷ L) e = let h = and_both (eqb i j) (same item_same K L) e in (eqb-true i j h.0, items-test K L h.1)

pub test-items : (K L : List Row) → SameItems K L → same item_same K L ≡ true
unfolding same item_same
test-items [] [] h = refl
test-items [] (r ∷ L) h = absurd h
test-items (r ∷ K) [] h = absurd h
test-items (row i s ∷ K) (row j t ∷ L) h = ap₂ ◌&&◌ (eq-eqb i j h.0) (test-items K L h.1)

pub items-swap : (K L : List Row) → SameItems K L → SameItems L K
items-swap [] [] h = tt
items-swap [] (r ∷ L) h = absurd h
items-swap (r ∷ K) [] h = absurd h
items-swap (row i s ∷ K) (row j t ∷ L) h = (sym h.0, items-swap K L h.1)

-- ---- the same items are present
pub items-present : (k : ℕ) (K L : List Row) → SameItems K L → Present k K → Present k L
items-present k [] L h m = absurd m
items-present k (row i s ∷ K) [] h m = absurd h
items-present k (row i s ∷ K) (row j t ∷ L) h (inl e) = inl (e ∙ h.0)
items-present k (row i s ∷ K) (row j t ∷ L) h (inr m) = inr (items-present k K L h.1 m)

-- and ascending rows in which the same items are present have the same items, row by row
first-meet : (i j : ℕ) (s t : List ℕ) (K L : List Row) → From (suc i) K → From (suc j) L → Present i (row j t ∷ L) → Present j (row i s ∷ K) → i ≡ j
first-meet i j s t K L f g (inl e) n = e
first-meet i j s t K L f g (inr m) (inl e) = sym e
first-meet i j s t K L f g (inr m) (inr n) = let a = from-present (suc j) i L g m in let c = from-present (suc i) j K f n in absurd (omega arith)

tail-there : (i j k : ℕ) (s t : List ℕ) (K L : List Row) → i ≡ j → From (suc i) K → Present k K → Present k (row j t ∷ L) → Present k L
tail-there i j k s t K L e f m (inl d) = let l = from-present (suc i) k K f m in absurd (omega arith)
tail-there i j k s t K L e f m (inr n) = n

pub present-items : (m n : ℕ) (K L : List Row) → From m K → From n L → ((k : ℕ) → Present k K → Present k L)
    → ((k : ℕ) → Present k L → Present k K) → SameItems K L
present-items m n [] [] f g to back = tt
present-items m n [] (row j t ∷ L) f g to back = back j (inl refl)
present-items m n (row i s ∷ K) [] f g to back = to i (inl refl)
present-items m n (row i s ∷ K) (row j t ∷ L) f g to back =
    let e : i ≡ j = first-meet i j s t K L f.1 g.1 (to i (inl refl)) (back j (inl refl)) in (
      e,
      present-items (suc i) (suc j) K L f.1 g.1 (λ k p. tail-there i j k s t K L e f.1 p (to k (inr p)))
          (λ k p. tail-there j i k t s L K (sym e) g.1 p (back k (inr p))),
    )

-- ---- where an item stands in both
pub both_at : (k : ℕ) (K L : List Row) → SameItems K L → Present k K → (s : List ℕ) × (t : List ℕ) × Both k s t K L
both_at k [] L h m = absurd m
both_at k (row i s ∷ K) [] h m = absurd h
both_at k (row i s ∷ K) (row j t ∷ L) h (inl e) = (s, t, inl (e, refl, refl))
both_at k (row i s ∷ K) (row j t ∷ L) h (inr m) = let r = both_at k K L h.1 m in (r.0, r.1, inr r.2)

pub both-swap : (k : ℕ) (s t : List ℕ) (K L : List Row) → SameItems K L → Both k s t K L → Both k t s L K
both-swap k s t [] L h m = absurd m
both-swap k s t (row i u ∷ K) [] h m = absurd h
both-swap k s t (row i u ∷ K) (row j v ∷ L) h (inl e) = inl (e.0 ∙ h.0, e.2, e.1)
both-swap k s t (row i u ∷ K) (row j v ∷ L) h (inr m) = inr (both-swap k s t K L h.1 m)

pub both-present : (k : ℕ) (s t : List ℕ) (K L : List Row) → Both k s t K L → Present k K
both-present k s t [] L m = m
both-present k s t (row i u ∷ K) [] m = absurd m
both-present k s t (row i u ∷ K) (row j v ∷ L) (inl e) = inl e.0
both-present k s t (row i u ∷ K) (row j v ∷ L) (inr m) = inr (both-present k s t K L m)

-- its tokens are those of its context
pub both-token : (k w : ℕ) (s t : List ℕ) (K L : List Row) → Both k s t K L → In s w → Token k w K
both-token k w s t [] L m i = m
both-token k w s t (row j u ∷ K) [] m i = absurd m
both-token k w s t (row j u ∷ K) (row h v ∷ L) (inl e) i = inl (e.0, subst (λ x. In x w) e.1 i)
both-token k w s t (row j u ∷ K) (row h v ∷ L) (inr m) i = inr (both-token k w s t K L m i)

pub token-both : (n k w : ℕ) (s t : List ℕ) (K L : List Row) → From n K → Both k s t K L → Token k w K → In s w
token-both n k w s t [] L f m i = absurd m
token-both n k w s t (row j u ∷ K) [] f m i = absurd m
token-both n k w s t (row j u ∷ K) (row h v ∷ L) f (inl e) (inl i) = subst (λ x. In x w) (sym e.1) i.1
token-both n k w s t (row j u ∷ K) (row h v ∷ L) f (inl e) (inr i) =
    let l = from-token (suc j) k w K f.1 i in let d = e.0 in absurd (omega arith)
token-both n k w s t (row j u ∷ K) (row h v ∷ L) f (inr m) (inl i) =
    let l = from-present (suc j) k K f.1 (both-present k s t K L m) in let d = i.0 in absurd (omega arith)
token-both n k w s t (row j u ∷ K) (row h v ∷ L) f (inr m) (inr i) = token-both (suc j) k w s t K L f.1 m i

pub both-fits : (k : ℕ) (s t : List ℕ) (K L : List Row) → Sets K → Both k s t K L → Fits WORDS s
both-fits k s t [] L h m = absurd m
both-fits k s t (row j u ∷ K) [] h m = absurd m
both-fits k s t (row j u ∷ K) (row i v ∷ L) h (inl e) = subst (λ x. Fits WORDS x) (sym e.1) h.0
both-fits k s t (row j u ∷ K) (row i v ∷ L) h (inr m) = both-fits k s t K L h.1 m

-- ---- a test of all pairs of contexts
module _ (f : List ℕ × List ℕ → Bool) where
  all_both : (K L : List Row) → all f (contexts K L) ≡ true → (k : ℕ) (s t : List ℕ) → Both k s t K L → f (s, t) ≡ true
  unfolding all contexts
  all_both [] L e k s t m = absurd m
  all_both (row i u ∷ K) [] e k s t m = absurd m
  all_both (row i u ∷ K) (row j v ∷ L) e k s t (inl d) =
      let h = and_both (f (u, v)) (all f (contexts K L)) e in
      subst (λ x. f (x, t) ≡ true) (sym d.1) (subst (λ y. f (u, y) ≡ true) (sym d.2) h.0)
  all_both (row i u ∷ K) (row j v ∷ L) e k s t (inr n) = all_both K L (and_both (f (u, v)) (all f (contexts K L)) e).1 k s t n

  both-all : (K L : List Row) → ((k : ℕ) (s t : List ℕ) → Both k s t K L → f (s, t) ≡ true) → all f (contexts K L) ≡ true
  unfolding all contexts
  both-all [] L h = refl
  both-all (row i u ∷ K) [] h = refl
  both-all (row i u ∷ K) (row j v ∷ L) h = ap₂ ◌&&◌ (h i u v (inl (refl, refl, refl))) (both-all K L (λ k s t m. h k s t (inr m)))

-- the test f holds of each two different items
abbrev pub Pairs : (List ℕ × List ℕ → List ℕ × List ℕ → Bool) → List Row → List Row → Type 0
Pairs f K L =
    (k : ℕ) (s t : List ℕ) (h : ℕ) (u v : List ℕ) → Both k s t K L → Both h u v K L → (k ≡ h → ⊥) → f (s, t) (u, v) ≡ true

module _ (f : List ℕ × List ℕ → List ℕ × List ℕ → Bool) (swap : (x y : List ℕ × List ℕ) → f x y ≡ true → f y x ≡ true) where
  pub pairwise-both : (K L : List Row) → pairwise f (contexts K L) ≡ true → Pairs f K L
  unfolding pairwise contexts
  pairwise-both [] L e k s t h u v m n d = absurd m
  pairwise-both (row i x ∷ K) [] e k s t h u v m n d = absurd m
  pairwise-both (row i x ∷ K) (row j y ∷ L) e k s t h u v m n d =
      let a = and_both (all (f (x, y)) (contexts K L)) (pairwise f (contexts K L)) e in
      go (all_both (f (x, y)) K L a.0) (pairwise-both K L a.1) m n
    where
      go : ((k : ℕ) (s t : List ℕ) → Both k s t K L → f (x, y) (s, t) ≡ true) → Pairs f K L
          → ((k ≡ i) × (s ≡ x) × (t ≡ y)) ⊎ Both k s t K L → ((h ≡ i) × (u ≡ x) × (v ≡ y)) ⊎ Both h u v K L → f (s, t) (u, v) ≡ true
      go one rest (inl p) (inl q) = absurd (d (p.0 ∙ sym q.0))
      go one rest (inl p) (inr q) =
          subst (λ z. f (z, t) (u, v) ≡ true) (sym p.1) (subst (λ z. f (x, z) (u, v) ≡ true) (sym p.2) (one h u v q))
      go one rest (inr p) (inl q) =
          swap (u, v) (s, t) (subst (λ z. f (z, v) (s, t) ≡ true) (sym q.1) (subst (λ z. f (x, z) (s, t) ≡ true) (sym q.2) (one k s t p)))
      go one rest (inr p) (inr q) = rest k s t h u v p q d

  pub both-pairwise : (n : ℕ) (K L : List Row) → From n K → Pairs f K L → pairwise f (contexts K L) ≡ true
  unfolding pairwise contexts
  both-pairwise n [] L g p = refl
  both-pairwise n (row i x ∷ K) [] g p = refl
  both-pairwise n (row i x ∷ K) (row j y ∷ L) g p =
      ap₂ ◌&&◌
      (both-all (f (x, y)) K L
      (λ k s t m. p i x y k s t (inl (refl, refl, refl)) (inr m) (λ e. let l = from-present (suc i) k K g.1 (both-present k s t K L m) in omega arith)))
      (both-pairwise (suc i) K L g.1 (λ k s t h u v a c. p k s t h u v (inr a) (inr c)))
