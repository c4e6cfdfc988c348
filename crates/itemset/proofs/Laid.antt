-- The laid rows are rows of the grammar, and so not many; and one turn of laying them out. Assumes nothing.
use mathlib.Core.Bool.{Bool, true, false, cond}
use mathlib.Core.List.{List, [], ◌∷◌, ◌++◌}
use mathlib.Core.Logic.{inl, inr}
use mathlib.Core.Path.{◌≡◌, sym, ap, ap₂, ◌∙◌, subst}
use Prim.Native.Nat.{ℕ, ◌+◌, ◌*◌, ◌/◌, ◌%◌, ◌≤◌, ◌<◌}
use native.Mathlib.Decide.{dec_lt}
use native.Mathlib.Numerals.{add-one}
use native.Mathlib.Omega.{arith}
use lib.ListN.{length, get_or, take, drop}
use borrow.Author.Tests.{eq-eqb, ne_eqb, lt-ltb, le-ltb}
use Rattle.block.specs.Limits.{WORDS, ITEM, DOTS, PRODS}
use Rattle.block.specs.Block.{prods}
use Rattle.block.specs.First.{firsts_of}
use Rattle.itemset.specs.Rows.{Row, row, Present, Sets, Item, Rows}
use Rattle.itemset.specs.Lay.{next_item, zero_row, kept_row, lay_from, lay_of}
use Rattle.itemset.specs.Lent.{ForLay}
use Rattle.itemset.proofs.Has.{has-present, present-has}
use Rattle.itemset.proofs.LentRows.{in-length, in_item, in_row, in-known}
use Rattle.itemset.proofs.Bounds.{rows_few}
use Rattle.itemset.proofs.GoodReady.{good-ready}
use Rattle.itemset.proofs.LaySteps.{lay-start, lay-zero-at, lay-row-at, lay-end-at}
use Rattle.itemset.proofs.LayRows.{lay-from, lay-sets, lay-only}

-- ---- the next item
pub next-at : (ws : List ℕ) (k : ℕ) → ITEM * k < length ws → next_item ws k ≡ get_or ws (ITEM * k) 0
unfolding next_item
next-at ws k l = ap (λ c. cond c (get_or ws (ITEM * k) 0) (DOTS * PRODS)) (lt-ltb (ITEM * k) (length ws) l)

pub next-none : (ws : List ℕ) (k : ℕ) → length ws ≤ ITEM * k → next_item ws k ≡ DOTS * PRODS
unfolding next_item
next-none ws k l = ap (λ c. cond c (get_or ws (ITEM * k) 0) (DOTS * PRODS)) (le-ltb (ITEM * k) (length ws) l)

zero-there : (here : ℕ → Bool) (ctx : ℕ → List ℕ) (p : ℕ) → here p ≡ true → zero_row here ctx p ≡ row (DOTS * p) (ctx p) ∷ []
unfolding zero_row
zero-there here ctx p e = ap {B = List Row} (λ c. cond c (row (DOTS * p) (ctx p) ∷ []) []) e

zero-not : (here : ℕ → Bool) (ctx : ℕ → List ℕ) (p : ℕ) → here p ≡ false → zero_row here ctx p ≡ []
unfolding zero_row
zero-not here ctx p e = ap {B = List Row} (λ c. cond c (row (DOTS * p) (ctx p) ∷ []) []) e

kept_there : (i : ℕ) (s : List ℕ) → (i % DOTS ≡ 0 → ⊥) → kept_row (row i s) ≡ row i s ∷ []
unfolding kept_row
kept_there i s n = ap {B = List Row} (λ c. cond c [] (row i s ∷ [])) (ne_eqb (i % DOTS) 0 n)

kept-not : (i : ℕ) (s : List ℕ) → i % DOTS ≡ 0 → kept_row (row i s) ≡ []
unfolding kept_row
kept-not i s e = ap {B = List Row} (λ c. cond c [] (row i s ∷ [])) (eq-eqb (i % DOTS) 0 e)

-- where the two cursors stand: production p of P, row k of n
pub record Cursors (b ws : List ℕ) (P n p k : ℕ) : Type 0 where
  pub prods-all : P ≡ prods b
  pub prods-most : P ≤ PRODS
  pub rows_all : n ≡ length ws / ITEM
  pub prod-low : p ≤ P
  pub row_low : k ≤ n

-- ---- all that is laid out
module _ {b ws out : List ℕ} (here : ℕ → Bool) {ctx : ℕ → List ℕ} {K : List Row} (L : ForLay b ws out ctx K) where
  abbrev all : List Row
  all = lay_of b here ctx K

  -- from production p and row k on
  abbrev pub left : ℕ → ℕ → List Row
  left p k = lay_from here ctx (prods b) p (drop k K)

  pub laid-sets : Sets all
  laid-sets = subst Sets (sym (lay-start b here ctx K)) (lay-sets here ctx (prods b) L.fits 0 K L.kernel.rows.sets)

  laid-rows : Rows b (lay_from here ctx (prods b) 0 K)
  laid-rows =
      record {
        ascend = lay-from here ctx (prods b) 0 K 0 (λ l. omega arith) L.kernel.rows.ascend;
        sets = lay-sets here ctx (prods b) L.fits 0 K L.kernel.rows.sets;
        items = items;
      }
    where
      items : (k : ℕ) → Present k (lay_from here ctx (prods b) 0 K) → Item b k
      items k m =
          let h = present-has k (lay_from here ctx (prods b) 0 K) m in
          elim (lay-only here ctx (prods b) k h.0 0 K h.1) [
            | inl c ↦ let e = c.item in let l = c.below in record { prod = omega arith; dot = omega arith }
            | inr c ↦ L.kernel.rows.items k (has-present k h.0 K c.0)
          ]

  pub laid-few : ITEM * length all ≤ length out
  laid-few =
      let r = L.room in
      omega (arith, ap length (lay-start b here ctx K), rows_few b (firsts_of b) (good-ready L.kernel.good) (lay_from here ctx (prods b) 0 K) laid-rows)

  pub laid-start : all ≡ left 0 0
  laid-start = lay-start b here ctx K

  -- ---- one turn, from production p and row k on
  module _ {P n : ℕ} (p k : ℕ) (at : Cursors b ws P n p k) where
    rows_are : n ≡ length K
    rows_are = let e = at.rows_all in omega (arith, in-length L.kernel)

    pub laid_end : P + n ≤ p + k → left p k ≡ []
    laid_end h = let e = rows_are in lay-end-at here ctx (prods b) K p k (omega arith) (omega arith)

    module _ (more : p + k < P + n) (i : ℕ) (next : i ≡ next_item ws k) where
      -- dot 0 of production p is next
      module _ (h : DOTS * p < i) where
        next_row : (l : k < length K) → next_item ws k ≡ get_or ws (ITEM * k) 0
        next_row l = next-at ws k (omega (arith, in-length L.kernel))

        pub zero-below : p < prods b
        zero-below = go (dec_lt k (length K))
          where
            go : Dec (k < length K) → p < prods b
            go (yes l) = let q = (in-known L.kernel k l).prod in omega (arith, next_row l)
            go (no l) = let e = rows_are in omega arith

        zero_turn : left p k ≡ zero_row here ctx p ++ left (p + 1) k
        zero_turn =
            lay-zero-at here ctx (prods b) K p k zero-below (λ l. omega (arith, next_row l, in_item L.kernel k l))
            ∙ ap (λ (n : ℕ). zero_row here ctx p ++ left n k) (sym (add-one p))

        pub zero-put : here p ≡ true → left p k ≡ row (DOTS * p) (ctx p) ∷ left (p + 1) k
        zero-put e = zero_turn ∙ ap {B = List Row} (λ u. u ++ left (p + 1) k) (zero-there here ctx p e)

        pub zero-skip : here p ≡ false → left p k ≡ left (p + 1) k
        zero-skip e = zero_turn ∙ ap {B = List Row} (λ u. u ++ left (p + 1) k) (zero-not here ctx p e)

      -- row k is next
      module _ (h : i ≤ DOTS * p) where
        row_in : k < length K
        row_in = go (dec_lt k (length K))
          where
            go : Dec (k < length K) → k < length K
            go (yes l) = l
            go (no l) =
                let e = rows_are in
                omega (arith, next-none ws k (omega (arith, in-length L.kernel)))

        pub row_below : k < n
        row_below = let e = rows_are in omega (arith, row_in)

        abbrev context : List ℕ
        context = take WORDS (drop (ITEM * k + 1) ws)

        row-turn : left p k ≡ kept_row (row i context) ++ left p (k + 1)
        row-turn =
            let l = row_in in
            let e : next_item ws k ≡ get_or ws (ITEM * k) 0 = next-at ws k (omega (arith, in-length L.kernel)) in
            let f = in_item L.kernel k l in
            lay-row-at here ctx (prods b) K p k l (λ z. omega arith)
            ∙ ap₂ (λ (r : Row) (n : ℕ). kept_row r ++ left p n) (in_row L.kernel k l ∙ ap {B = Row} (λ j. row j context) (sym (next ∙ e))) (sym (add-one k))

        pub row_put : (i % DOTS ≡ 0 → ⊥) → left p k ≡ row i context ∷ left p (k + 1)
        row_put n = row-turn ∙ ap {B = List Row} (λ u. u ++ left p (k + 1)) (kept_there i context n)

        pub row-skip : i % DOTS ≡ 0 → left p k ≡ left p (k + 1)
        row-skip e = row-turn ∙ ap {B = List Row} (λ u. u ++ left p (k + 1)) (kept-not i context e)
