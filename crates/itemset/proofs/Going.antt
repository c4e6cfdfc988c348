-- One turn of writing a goto kernel. Assumes nothing.
use mathlib.Core.Bool.{true, false}
use mathlib.Core.List.{List, [], ◌∷◌, ◌++◌}
use mathlib.Core.Path.{◌≡◌, sym, ap, ap₂, ◌∙◌}
use Prim.Native.Nat.{ℕ, ◌+◌, ◌*◌, ◌/◌, ◌≤◌, ◌<◌}
use native.Mathlib.Numerals.{add-one}
use native.Mathlib.Omega.{arith}
use lib.ListN.{length, get_or, take, drop, drop_of_length-le}
use lib.Seq.{drop-cons}
use Rattle.block.specs.Limits.{WORDS, ITEM}
use Rattle.block.specs.First.{firsts_of}
use Rattle.itemset.specs.Rows.{Row, row, Sets}
use Rattle.itemset.specs.Close.{rest_of}
use Rattle.itemset.specs.Goto.{move, goto_of}
use Rattle.itemset.specs.Lent.{ForGoto}
use Rattle.itemset.specs.Sights.{is_next}
use Rattle.itemset.proofs.Words.{no_row}
use Rattle.itemset.proofs.LentRows.{in_rows, in_row}
use Rattle.itemset.proofs.Moves.{goto-sets, goto-few}
use Rattle.itemset.proofs.GoodReady.{good-ready}
use Rattle.itemset.proofs.After.{next-move, no_move}

module _ {b ws out : List ℕ} {C : List Row} (G : ForGoto b ws out C) (x : ℕ) where
  pub gone-sets : Sets (goto_of b C x)
  gone-sets = goto-sets b x C G.closed.rows.sets

  pub gone-few : ITEM * length (goto_of b C x) ≤ length out
  gone-few =
      let r = G.room in
      omega (arith, goto-few b x (firsts_of b) (good-ready G.closed.good) C G.closed.rows)

  module _ (i : ℕ) where
    pub gone-end : length ws / ITEM ≤ i → goto_of b (drop i C) x ≡ []
    unfolding goto_of
    gone-end h = ap {B = List Row} (λ u. goto_of b u x) (drop_of_length-le C (let z : length C ≤ i = omega (arith, in_rows G.closed) in z))

    module _ (l : i < length ws / ITEM) where
      -- the item, and its context
      abbrev item : ℕ
      item = get_or ws (ITEM * i) 0

      abbrev context : List ℕ
      context = take WORDS (drop (ITEM * i + 1) ws)

      turn : goto_of b (drop i C) x ≡ move b x (row item context) ++ goto_of b (drop (i + 1) C) x
      unfolding goto_of
      turn =
          let m : i < length C = omega (arith, in_rows G.closed) in
          ap {B = List Row} (λ u. goto_of b u x) (drop-cons C i no_row m)
          ∙ ap₂ (λ (r : Row) (n : ℕ). move b x r ++ goto_of b (drop n C) x) (in_row G.closed i m) (sym (add-one i))

      pub gone-put : is_next (rest_of b item) x ≡ true → goto_of b (drop i C) x ≡ row (item + 1) context ∷ goto_of b (drop (i + 1) C) x
      gone-put e =
          turn
          ∙ ap {B = List Row} (λ u. u ++ goto_of b (drop (i + 1) C) x) (next-move b x item context e ∙ ap {B = List Row} (λ n. row n context ∷ []) (sym (add-one item)))

      pub gone-skip : is_next (rest_of b item) x ≡ false → goto_of b (drop i C) x ≡ goto_of b (drop (i + 1) C) x
      gone-skip e = turn ∙ ap {B = List Row} (λ u. u ++ goto_of b (drop (i + 1) C) x) (no_move b x item context e)
