-- The words that a call is lent, and the rows that they are. Assumes nothing.
use mathlib.Core.List.{List}
use mathlib.Core.Path.{◌≡◌, refl, sym, ap, ap₂, ◌∙◌, subst}
use Prim.Native.Nat.{ℕ, ◌+◌, ◌*◌, ◌/◌, ◌<◌}
use native.Mathlib.Omega.{arith}
use lib.ListN.{length, get_or, take, drop}
use Rattle.block.specs.Limits.{WORDS, ITEM, DOTS}
use Rattle.block.specs.Refusal.{Known}
use Rattle.itemset.specs.Rows.{Row, row, Item}
use Rattle.itemset.specs.Lent.{RowsIn}
use Rattle.itemset.proofs.Words.{item_of, context_of, no_row, words-length, item-at, context-at}
use Rattle.itemset.proofs.RowAt.{row-item}

module _ {b ws : List ℕ} {C : List Row} (R : RowsIn b ws C) where
  pub in-length : length ws ≡ ITEM * length C
  in-length = ap length R.words ∙ words-length C R.rows.sets

  pub in_rows : length ws / ITEM ≡ length C
  in_rows = omega (arith, in-length)

  module _ (k : ℕ) (l : k < length C) where
    pub in_item : get_or ws (ITEM * k) 0 ≡ item_of (get_or C k no_row)
    in_item = ap (λ (w : List ℕ). get_or w (ITEM * k) 0) R.words ∙ item-at C k R.rows.sets l

    pub in-context : take WORDS (drop (ITEM * k + 1) ws) ≡ context_of (get_or C k no_row)
    in-context = ap (λ (w : List ℕ). take WORDS (drop (ITEM * k + 1) w)) R.words ∙ context-at C k R.rows.sets l

    pub in_row : get_or C k no_row ≡ row (get_or ws (ITEM * k) 0) (take WORDS (drop (ITEM * k + 1) ws))
    in_row = eta (get_or C k no_row) ∙ sym (ap₂ {C = Row} row in_item in-context)
      where
        eta : (r : Row) → r ≡ row (item_of r) (context_of r)
        eta (row i s) = refl

    pub in-known : Item b (get_or ws (ITEM * k) 0)
    in-known = subst (Item b) (sym in_item) (row-item b C R.rows k l)

  -- its production is known to a good block
  pub in-prod : (k : ℕ) → k < length ws / ITEM → Known b (get_or ws (ITEM * k) 0 / DOTS)
  in-prod k l = record { good = R.good; below = (in-known k (omega (arith, in_rows))).prod }
