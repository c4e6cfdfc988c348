-- The tests of items and of rows tell what `Item`, `From` and `Rows` say. Assumes nothing.
use mathlib.Core.Bool.{Bool, true, false, ◌&&◌}
use mathlib.Core.List.{List, [], ◌∷◌}
use mathlib.Core.Logic.{inl, inr}
use mathlib.Core.Path.{◌≡◌, refl, sym, ap, ap₂, subst}
use Prim.Native.Nat.{ℕ, suc, ◌/◌, ◌%◌, ◌≤◌, ◌<◌}
use lib.Dec.{ltb, leb}
use borrow.Author.Tests.{ltb-true, leb-true, lt-ltb, le-leb, lt-leb}
use Rattle.block.specs.Limits.{DOTS}
use Rattle.block.specs.Block.{prods, length_of}
use Rattle.block.proofs.ListLaws.{and_both}
use Rattle.itemset.specs.Rows.{Row, row, Present, From, Item}
use Rattle.itemset.specs.Right.{item_right}

-- ---- an item
module _ (b : List ℕ) (k : ℕ) where
  pub right-item : item_right b k ≡ true → Item b k
  unfolding item_right
  right-item e =
      let h = and_both (ltb (k / DOTS) (prods b)) (leb (k % DOTS) (length_of b (k / DOTS))) e in
      record { prod = ltb-true (k / DOTS) (prods b) h.0; dot = leb-true (k % DOTS) (length_of b (k / DOTS)) h.1 }

  pub item-right : Item b k → item_right b k ≡ true
  unfolding item_right
  item-right I = ap₂ ◌&&◌ (lt-ltb (k / DOTS) (prods b) I.prod) (le-leb (k % DOTS) (length_of b (k / DOTS)) I.dot)

-- ---- rows: their items are items of the grammar, ascending from m on
unfoldable pub right_rows : List ℕ → ℕ → List Row → Bool
right_rows b m [] = true
right_rows b m (row i s ∷ rs) = leb m i && (item_right b i && right_rows b (suc i) rs)

module _ (b : List ℕ) where
  split : (m i : ℕ) (s : List ℕ) (rs : List Row) → right_rows b m (row i s ∷ rs) ≡ true
      → (m ≤ i) × (item_right b i ≡ true) × (right_rows b (suc i) rs ≡ true)
  unfolding right_rows
  split m i s rs e =
      let h = and_both (leb m i) (item_right b i && right_rows b (suc i) rs) e in
      let g = and_both (item_right b i) (right_rows b (suc i) rs) h.1 in
      (leb-true m i h.0, g.0, g.1)

  pub right-from : (m : ℕ) (rs : List Row) → right_rows b m rs ≡ true → From m rs
  right-from m [] e = tt
  right-from m (row i s ∷ rs) e = let h = split m i s rs e in (h.0, right-from (suc i) rs h.2)

  pub right-items : (m : ℕ) (rs : List Row) → right_rows b m rs ≡ true → (k : ℕ) → Present k rs → Item b k
  right-items m [] e k p = absurd p
  right-items m (row i s ∷ rs) e k (inl q) = subst (Item b) (sym q) (right-item b i (split m i s rs e).1)
  right-items m (row i s ∷ rs) e k (inr p) = right-items (suc i) rs (split m i s rs e).2 k p

  pub rows_right : (m : ℕ) (rs : List Row) → From m rs → ((k : ℕ) → Present k rs → Item b k) → right_rows b m rs ≡ true
  unfolding right_rows
  rows_right m [] f h = refl
  rows_right m (row i s ∷ rs) f h =
      ap₂ ◌&&◌ (le-leb m i f.0) (ap₂ ◌&&◌ (item-right b i (h i (inl refl))) (rows_right (suc i) rs f.1 (λ k p. h k (inr p))))

  -- ---- a row that is wrong, and one that is right
  pub right-low : (m i : ℕ) (s : List ℕ) (rs : List Row) → i < m → right_rows b m (row i s ∷ rs) ≡ false
  unfolding right_rows
  right-low m i s rs l = ap (λ (c : Bool). c && (item_right b i && right_rows b (suc i) rs)) (lt-leb m i l)

  pub right-strange : (m i : ℕ) (s : List ℕ) (rs : List Row) → m ≤ i → item_right b i ≡ false → right_rows b m (row i s ∷ rs) ≡ false
  unfolding right_rows
  right-strange m i s rs l e = ap₂ ◌&&◌ (le-leb m i l) (ap (λ (c : Bool). c && right_rows b (suc i) rs) e)

  pub right-next : (m i : ℕ) (s : List ℕ) (rs : List Row) → m ≤ i → item_right b i ≡ true
      → right_rows b m (row i s ∷ rs) ≡ right_rows b (suc i) rs
  unfolding right_rows
  right-next m i s rs l e = ap₂ ◌&&◌ (le-leb m i l) (ap (λ (c : Bool). c && right_rows b (suc i) rs) e)

  pub right_end : (m : ℕ) → right_rows b m [] ≡ true
  unfolding right_rows
  right_end m = refl
