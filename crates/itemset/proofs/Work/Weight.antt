-- What falls while a closure is at work: the room left in each context and for each mark, twice, and what has to be looked at. Assumes nothing.
use mathlib.Core.Bool.{Bool, true, false, cond}
use mathlib.Core.List.{List}
use mathlib.Core.Logic.{◌⊎◌, inl, inr}
use mathlib.Core.Path.{◌≡◌, refl, sym, ap, ◌∙◌, subst}
use Prim.Native.Nat.{ℕ, zero, suc, ◌+◌, ◌-◌, ◌*◌, ◌^◌, ◌≤◌, ◌<◌}
use native.Mathlib.Decide.{ℕ_discrete}
use native.Mathlib.Omega.{arith}
use Rattle.block.specs.Limits.{WORDS, PRODS}
use Rattle.block.specs.Block.{prods}
use Rattle.block.specs.Sets.{join, Fits}
use Rattle.block.specs.First.{Ahead}
use Rattle.block.proofs.Joins.{weigh, join-grows, fits-weigh}
use Rattle.itemset.specs.declared.closure.Closure.{Closure}
use Rattle.itemset.specs.Rows.{Row}
use Rattle.itemset.specs.Lay.{marks_of, contexts_of}
use Rattle.itemset.specs.Work.{todo_of, Sized, Cause, Working}
use Rattle.itemset.proofs.Work.Cells.{unmark, unmark-todo, unmark-other}
use Rattle.itemset.proofs.Work.Changes.{Change, still, took}

-- ---- sums over the numbers below n
sum : (ℕ → ℕ) → ℕ → ℕ
sum f zero = 0
sum f (suc n) = f n + sum f n

sum-le : (f g : ℕ → ℕ) (n : ℕ) → ((k : ℕ) → k < n → g k ≤ f k) → sum g n ≤ sum f n
unfolding sum
sum-le f g zero h = omega arith
sum-le f g (suc n) h = omega (arith, h n (omega arith), sum-le f g n (λ k l. h k (omega arith)))

sum_lt : (f g : ℕ → ℕ) (n : ℕ) → ((k : ℕ) → k < n → g k ≤ f k) → (k : ℕ) → k < n → g k < f k → sum g n < sum f n
unfolding sum
sum_lt f g zero h k l s = absurd (omega arith)
sum_lt f g (suc n) h k l s =
    elim (ℕ_discrete k n) [
      | yes e ↦ let t : g n < f n = subst (λ m. g m < f m) e s in omega (arith, sum-le f g n (λ k l. h k (omega arith)))
      | no d ↦ omega (arith, h n (omega arith), sum_lt f g n (λ k l. h k (omega arith)) k (omega arith) s)
    ]

-- ---- one production
abbrev cell : Bool → Bool → List ℕ → ℕ
cell t h s = 2 * (WORDS * 2 ^ 64 - weigh s + cond h 0 1) + cond t 1 0

-- it takes tokens
cell-took : (t h : Bool) (s add : List ℕ) (u : Bool) → Fits WORDS (join s add)
    → (u ≡ true → (t ≡ true) ⊎ ((h ≡ false) ⊎ (join s add ≡ s → ⊥))) → cell u true (join s add) ≤ cell t h s
cell-took t h s add u f why = go u refl (join-grows s add)
  where
    same : join s add ≡ s → weigh (join s add) ≡ weigh s
    same e = ap weigh e

    go : (u' : Bool) → u ≡ u' → (join s add ≡ s) ⊎ (weigh s < weigh (join s add)) → cell u' true (join s add) ≤ cell t h s
    go false e (inl g) = let z = same g in omega arith
    go false e (inr g) = omega arith
    go true e (inr g) = let c = fits-weigh WORDS (join s add) f in omega arith
    go true e (inl g) =
        let z = same g in
        elim (why e) [
          | inl k ↦ rw k (omega arith)
          | inr k ↦ elim k [ inl m ↦ rw m (omega arith) | inr m ↦ absurd (m g) ]
        ]

-- ---- all of them
pub weight : List ℕ → Closure → ℕ
weight b z = sum (λ q. cell (todo_of z q) (marks_of z q) (contexts_of z q)) (prods b)

-- a step that marks only for a cause
pub weight-step : (b : List ℕ) (F : List Ahead) (K : List Row) (n h : ℕ) (y z : Closure) → Working b F K n h z
    → ((q : ℕ) → q < prods b → Change b K y z q) → ((q : ℕ) → Cause y z q) → weight b z ≤ weight b y
unfolding weight
weight-step b F K n h y z W C c = sum-le _ _ (prods b) (λ q l. one q l (C q l))
  where
    one : (q : ℕ) → q < prods b → Change b K y z q
        → cell (todo_of z q) (marks_of z q) (contexts_of z q) ≤ cell (todo_of y q) (marks_of y q) (contexts_of y q)
    one q l (still S) = rw (S.todo, S.mark, S.set) (omega arith)
    one q l (took add T cl hs f) =
        subst (λ m. cell (todo_of z q) m (contexts_of z q) ≤ cell (todo_of y q) (marks_of y q) (contexts_of y q)) (sym T.mark)
        (subst (λ s. cell (todo_of z q) true s ≤ cell (todo_of y q) (marks_of y q) (contexts_of y q)) (sym T.set)
        (cell-took (todo_of y q) (marks_of y q) (contexts_of y q) add (todo_of z q) (subst (λ s. Fits WORDS s) T.set (W.fits q l))
        (λ t. elim (c q t) [ inl k ↦ inl k | inr k ↦ inr (elim k [ inl m ↦ inl m | inr m ↦ inr (λ e. m (T.set ∙ e)) ]) ])))

-- a production is taken off the list
pub weight-take : (b : List ℕ) (z : Closure) (S : Sized z) (p : ℕ) (k : p < PRODS) → p < prods b → todo_of z p ≡ true
    → weight b (unmark z S p k) < weight b z
unfolding weight
weight-take b z S p k l t = sum_lt _ _ (prods b) (λ q m. le q) p l lt
  where
    lt : cell (todo_of (unmark z S p k) p) (marks_of z p) (contexts_of z p) < cell (todo_of z p) (marks_of z p) (contexts_of z p)
    lt = rw (unmark-todo z S p k, t) (omega arith)

    le : (q : ℕ) → cell (todo_of (unmark z S p k) q) (marks_of z q) (contexts_of z q) ≤ cell (todo_of z q) (marks_of z q) (contexts_of z q)
    le q =
        elim (ℕ_discrete q p) [
          | yes e ↦ subst (λ m. cell (todo_of (unmark z S p k) m) (marks_of z m) (contexts_of z m) ≤ cell (todo_of z m) (marks_of z m) (contexts_of z m)) (sym e) (let z = lt in omega arith)
          | no d ↦ rw (unmark-other z S p k q d).todo (omega arith)
        ]
