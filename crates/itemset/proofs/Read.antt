-- Rows read back from words, and that words are rows just if the rows read back are right. Assumes nothing.
use mathlib.Core.Bool.{Bool, true, false, false≢true}
use mathlib.Core.List.{List, [], ◌∷◌, ◌++◌}
use mathlib.Core.Logic.{◌↔◌}
use mathlib.Core.Path.{◌≡◌, refl, sym, ap, ap₂, ◌∙◌, subst}
use Prim.Native.Nat.{ℕ, zero, suc, ◌+◌, ◌*◌, ◌-◌, ◌/◌, ◌%◌, ◌^◌, ◌≤◌, ◌<◌}
use native.Mathlib.Decide.{dec_lt}
use native.Mathlib.Numerals.{add-one}
use native.Mathlib.Omega.{arith}
use lib.ListN.{length, get_or, take, drop, length-drop, take-append-drop, get_or-eq_default}
use lib.Seq.{length-take-le, get_or-take, get_or-drop, drop-drop}
use Rattle.block.specs.Limits.{WORDS, ITEM}
use Rattle.block.specs.Refusal.{Good}
use Rattle.block.specs.Sets.{Words, Fits}
use Rattle.itemset.specs.Rows.{Row, row, words_of, Sets}
use Rattle.itemset.specs.Right.{item_right}
use Rattle.itemset.specs.Lent.{RowsIn}
use Rattle.itemset.proofs.Words.{words-injective}
use Rattle.itemset.proofs.LentRows.{in-length}
use Rattle.itemset.proofs.Right.{right_rows, right-from, right-items, rows_right, right-low, right-strange, right-next, right_end}

-- n rows: the item, and the next WORDS words
unfoldable pub rows_read : ℕ → List ℕ → List Row
rows_read zero ws = []
rows_read (suc n) ws = row (get_or ws 0 0) (take WORDS (drop 1 ws)) ∷ rows_read n (drop ITEM ws)

words-after : (ws : List ℕ) → Words ws → (n : ℕ) → Words (drop n ws)
words-after ws h n i = subst (λ (x : ℕ). x < 2 ^ 64) (sym (get_or-drop n ws i 0)) (h (n + i))

front : (ws : List ℕ) → Words ws → WORDS ≤ length ws → Fits WORDS (take WORDS ws)
front ws h l = (length-take-le WORDS ws l, below)
  where
    below : (i : ℕ) → get_or (take WORDS ws) i 0 < 2 ^ 64
    below i =
        elim (dec_lt i WORDS) [
          | yes k ↦ subst (λ (x : ℕ). x < 2 ^ 64) (sym (get_or-take WORDS ws i 0 k)) (h i)
          | no k ↦ subst (λ (x : ℕ). x < 2 ^ 64) (sym (get_or-eq_default (take WORDS ws) 0 {n = i} (omega (arith, length-take-le WORDS ws l)))) (omega arith)
        ]

pub read-sets : (n : ℕ) (ws : List ℕ) → Words ws → length ws ≡ ITEM * n → Sets (rows_read n ws)
unfolding rows_read
read-sets zero ws h l = tt
read-sets (suc n) ws h l = (
  front (drop 1 ws) (words-after ws h 1) (omega (arith, length-drop 1 ws)),
  read-sets n (drop ITEM ws) (words-after ws h ITEM) (omega (arith, length-drop ITEM ws)),
)

pub read-words : (n : ℕ) (ws : List ℕ) → length ws ≡ ITEM * n → words_of (rows_read n ws) ≡ ws
unfolding rows_read words_of
read-words zero [] l = refl
read-words zero (w ∷ ws) l = absurd (omega arith)
read-words (suc n) [] l = absurd (omega arith)
read-words (suc n) (w ∷ ws) l =
    ap {B = List ℕ} (λ v. w ∷ v)
    (ap {B = List ℕ} (λ v. take WORDS ws ++ v) (read-words n (drop WORDS ws) (omega (arith, length-drop WORDS ws))) ∙ take-append-drop WORDS ws)

-- ---- row i of them, and those behind it
pub read_at : (n : ℕ) (ws : List ℕ) (i : ℕ) → i < n
    → rows_read (n - i) (drop (ITEM * i) ws)
    ≡ row (get_or ws (ITEM * i) 0) (take WORDS (drop (ITEM * i + 1) ws)) ∷ rows_read (n - (i + 1)) (drop (ITEM * (i + 1)) ws)
unfolding rows_read
read_at n ws i l =
    ap (λ (k : ℕ). rows_read k (drop (ITEM * i) ws)) (let z : n - i ≡ suc (n - (i + 1)) = omega arith in z)
    ∙ ap₂ {C = List Row} ◌∷◌
    (ap₂ {C = Row} row
    (get_or-drop (ITEM * i) ws 0 0 ∙ ap (λ (k : ℕ). get_or ws k 0) (let z : ITEM * i + 0 ≡ ITEM * i = omega arith in z))
    (ap (λ (v : List ℕ). take WORDS v) (drop-drop 1 (ITEM * i) ws)))
    (ap (rows_read (n - (i + 1)))
    (drop-drop ITEM (ITEM * i) ws ∙ ap (λ (k : ℕ). drop k ws) (let z : ITEM * i + ITEM ≡ ITEM * (i + 1) = omega arith in z)))

module _ (b ws : List ℕ) (n : ℕ) where
  -- what is still to be tested: the rows from row i on, ascending from m on
  abbrev pub Left : ℕ → ℕ → Type 0
  Left m i = right_rows b 0 (rows_read n ws) ≡ right_rows b m (rows_read (n - i) (drop (ITEM * i) ws))

  pub left-start : Left 0 0
  left-start = ap (λ (k : ℕ). right_rows b 0 (rows_read k ws)) (let z : n ≡ n - 0 = omega arith in z)

  module _ (m i : ℕ) (l : i < n) (L : Left m i) where
    pub left-low : get_or ws (ITEM * i) 0 < m → right_rows b 0 (rows_read n ws) ≡ false
    left-low k = L ∙ ap (right_rows b m) (read_at n ws i l) ∙ right-low b m _ _ _ k

    pub left-strange : m ≤ get_or ws (ITEM * i) 0 → item_right b (get_or ws (ITEM * i) 0) ≡ false → right_rows b 0 (rows_read n ws) ≡ false
    left-strange k e = L ∙ ap (right_rows b m) (read_at n ws i l) ∙ right-strange b m _ _ _ k e

    pub left-next : m ≤ get_or ws (ITEM * i) 0 → item_right b (get_or ws (ITEM * i) 0) ≡ true → Left (get_or ws (ITEM * i) 0 + 1) (i + 1)
    left-next k e =
        L ∙ ap (right_rows b m) (read_at n ws i l) ∙ right-next b m _ _ _ k e
        ∙ ap (λ (x : ℕ). right_rows b x (rows_read (n - (i + 1)) (drop (ITEM * (i + 1)) ws))) (sym (add-one (get_or ws (ITEM * i) 0)))

  pub left_end : (m i : ℕ) → n ≤ i → Left m i → right_rows b 0 (rows_read n ws) ≡ true
  unfolding rows_read
  left_end m i l L =
      L ∙ ap (λ (k : ℕ). right_rows b m (rows_read k (drop (ITEM * i) ws))) (let z : n - i ≡ 0 = omega arith in z) ∙ right_end b m

-- ---- the words are rows
module _ (b ws : List ℕ) (g : Good b) (h : Words ws) where
  -- no whole number of rows
  pub rows_cut : (length ws % ITEM ≡ 0 → ⊥) → (false ≡ true) ↔ ((K : List Row) × RowsIn b ws K)
  rows_cut d = (λ e. absurd (false≢true e), λ R. absurd (d (let z = in-length R.1 in omega arith)))

  pub rows_told : (r : Bool) → length ws % ITEM ≡ 0 → right_rows b 0 (rows_read (length ws / ITEM) ws) ≡ r
      → (r ≡ true) ↔ ((K : List Row) × RowsIn b ws K)
  rows_told r l e = (to, from)
    where
      whole : length ws ≡ ITEM * (length ws / ITEM)
      whole = omega arith

      sets : Sets (rows_read (length ws / ITEM) ws)
      sets = read-sets (length ws / ITEM) ws h whole

      words : words_of (rows_read (length ws / ITEM) ws) ≡ ws
      words = read-words (length ws / ITEM) ws whole

      to : r ≡ true → (K : List Row) × RowsIn b ws K
      to q = (
        rows_read (length ws / ITEM) ws,
        record {
          good = g;
          rows = record {
            ascend = right-from b 0 (rows_read (length ws / ITEM) ws) (e ∙ q);
            sets = sets;
            items = right-items b 0 (rows_read (length ws / ITEM) ws) (e ∙ q);
          };
          words = sym words;
        },
      )

      from : ((K : List Row) × RowsIn b ws K) → r ≡ true
      from (K, R) =
          sym e
          ∙ ap (right_rows b 0) (words-injective (rows_read (length ws / ITEM) ws) K sets R.rows.sets (words ∙ R.words))
          ∙ rows_right b 0 K R.rows.ascend R.rows.items
