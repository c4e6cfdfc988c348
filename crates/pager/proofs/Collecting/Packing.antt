-- The items and spans of the kept states, moved down state by state. Assumes nothing.
use mathlib.Core.Bool.{Bool, true, false}
use mathlib.Core.List.{List, [], ◌∷◌, ◌++◌}
use mathlib.Core.Path.{◌≡◌, refl, sym, ap, ◌∙◌}
use Prim.Native.Nat.{ℕ, ◌+◌, ◌*◌, ◌/◌, ◌≤◌, ◌<◌}
use native.Mathlib.Omega.{arith}
use native.Mathlib.Numerals.{add-one}
use lib.ListN.{length, get_or, take, drop, set, length-append, length-drop}
use lib.Seq.{paste}
use Rattle.block.specs.Limits.{ITEM}
use Rattle.itemset.specs.Rows.{words_of}
use Rattle.pager.specs.Lists.{each}
use Rattle.pager.specs.Place.{State, items}
use Rattle.pager.specs.Graph.{nowhere}
use Rattle.pager.specs.Collect.{kept}
use Rattle.pager.specs.Memory.{pad, item_words, spans_from}
use Rattle.pager.specs.Collecting.{flags_of, Movable, ItemPart, ItemsLeft}
use Rattle.pager.proofs.Ranks.{renumbered}
use Rattle.pager.proofs.Grown.{snoc-items}
use Rattle.pager.proofs.Memory.{AllSets, items-length, items-take, items_more, spans-length, spans-first, spans-count, spans-more}
use Rattle.pager.proofs.Collecting.Flags.{flags-length, flag_true, flag-false}
use Rattle.pager.proofs.Collecting.StateWords.{items-le, items-part}
use Rattle.pager.proofs.Collecting.Over.{over, over-length, over-drop, over-at, over-paste, over-pad, over-two}
use Rattle.pager.proofs.Collecting.Kept.{kept_to, kept-marked, kept-unmarked, kept-all, kept_to-few, kept_to-fit, kept_to-words}

-- the first s states are done: k of them are kept, with so many rows
pub record Packing (ms : List Bool) (ss : List State) (its spans : List ℕ) (k row s : ℕ) : Type 0 where
  pub items-are : its ≡ over (item_words (kept_to ms ms ss s)) (item_words ss)
  pub spans-are : spans ≡ over (spans_from 0 (kept_to ms ms ss s)) (spans_from 0 ss)
  pub states : k ≡ length (kept_to ms ms ss s)
  pub rows : row ≡ items (kept_to ms ms ss s)

pub pack-none : (ms : List Bool) (ss : List State) (its spans : List ℕ) → its ≡ item_words ss → spans ≡ spans_from 0 ss → Packing ms ss its spans 0 0 0
unfolding item_words items spans_from kept each
pack-none ms ss its spans e f = record { items-are = e; spans-are = f; states = refl; rows = refl }

module _ {ss : List State} {its₀ spans₀ marks : List ℕ} (I : ItemPart ss its₀ spans₀ marks) {its spans : List ℕ} {k row s : ℕ}
    (P : Packing (flags_of marks) ss its spans k row s) (end : s ≤ length marks / 2) where
  abbrev ms : List Bool
  ms = flags_of marks

  abbrev sets : AllSets ss
  sets = I.sets

  low : s ≤ length ss
  low = omega (arith, I.marks-long)

  abbrev rr : List State
  rr = kept_to ms ms ss s

  words : length (item_words rr) ≡ ITEM * row
  words = kept_to-words ms ms ss s low sets ∙ ap (λ n. ITEM * n) (sym P.rows)

  twice : length (spans_from 0 rr) ≡ 2 * k
  twice = spans-length 0 rr ∙ ap (λ n. 2 * n) (sym P.states)

  items-fit : length (item_words rr) ≤ length (item_words ss)
  items-fit = omega (arith, kept_to-words ms ms ss s low sets, kept_to-fit ms ms ss s low, items-length ss sets, items-le s ss)

  spans_fit : length (spans_from 0 rr) ≤ length (spans_from 0 ss)
  spans_fit = omega (arith, spans-length 0 rr, spans-length 0 ss, kept_to-few ms ms ss s low)

  pub items-room : ITEM * row ≤ length its
  items-room = omega (arith, words, items-fit, over-length (item_words rr) (item_words ss) its P.items-are items-fit)

  pub spans-room : 2 * k ≤ length spans
  spans-room = omega (arith, twice, spans_fit, over-length (spans_from 0 rr) (spans_from 0 ss) spans P.spans-are spans_fit)

  -- the end: what is left behind is made zero
  pack-items : pad (length its) (take (ITEM * row) its) ≡ pad (length (item_words ss)) (item_words rr)
  pack-items = over-pad (item_words rr) (item_words ss) its P.items-are items-fit (ITEM * row) words

  pack-spans : pad (length spans) (take (2 * k) spans) ≡ pad (length (spans_from 0 ss)) (spans_from 0 rr)
  pack-spans = over-pad (spans_from 0 rr) (spans_from 0 ss) spans P.spans-are spans_fit (2 * k) twice

  module _ (all : length marks / 2 ≤ s) where
    all-kept : rr ≡ kept ms ms ss
    all-kept = kept-all ms ms ss s (omega (arith, I.marks-long)) (flags-length marks (length ss) I.marks-long)

    -- its' and spans' are the parts as they are left
    pub packed : {its' spans' : List ℕ}
        → its' ≡ pad (length its) (take (ITEM * row) its) → spans' ≡ pad (length spans) (take (2 * k) spans)
        → ItemsLeft (kept ms ms ss) its₀ spans₀ (record { states = k; items = row }) its' spans'
    packed q r =
        record {
          answer = rw (← all-kept, P.states, P.rows) refl;
          items-are = rw (I.items-is, ← all-kept) (q ∙ pack-items);
          spans-are = rw (I.spans-is, ← all-kept) (r ∙ pack-spans);
        }

  module _ (before : s < length marks / 2) where
    l : s < length ss
    l = omega (arith, I.marks-long)

    abbrev st : State
    st = get_or ss s nowhere

    -- what the code reads, and that it is in its place
    first-is : get_or spans (2 * s) 0 ≡ items (take s ss)
    first-is =
        over-at (spans_from 0 rr) (spans_from 0 ss) spans P.spans-are spans_fit (2 * s) (omega (arith, spans-length 0 rr, kept_to-few ms ms ss s low))
        ∙ spans-first 0 ss s l ∙ zero-plus (items (take s ss))
      where
        zero-plus : (n : ℕ) → 0 + n ≡ n
        zero-plus n = omega arith

    count-is : get_or spans (2 * s + 1) 0 ≡ length st.rows
    count-is =
        over-at (spans_from 0 rr) (spans_from 0 ss) spans P.spans-are spans_fit (2 * s + 1) (omega (arith, spans-length 0 rr, kept_to-few ms ms ss s low))
        ∙ spans-count 0 ss s l

    row_low : row ≤ get_or spans (2 * s) 0
    row_low = omega (arith, first-is, P.rows, kept_to-fit ms ms ss s low)

    state-low : k ≤ s
    state-low = omega (arith, P.states, kept_to-few ms ms ss s low)

    part_in : ITEM * get_or spans (2 * s) 0 + ITEM * get_or spans (2 * s + 1) 0 ≤ length its
    part_in =
        omega (arith, over-length (item_words rr) (item_words ss) its P.items-are items-fit, items-length ss sets, items-take ss s l, first-is, count-is)

    pub movable : Movable its spans k row s
    movable =
        record {
          span-in = omega (arith, over-length (spans_from 0 rr) (spans_from 0 ss) spans P.spans-are spans_fit, spans-length 0 ss);
          state-low = state-low;
          row_low = row_low;
          part_in = part_in;
        }

    abbrev a : ℕ
    a = ITEM * get_or spans (2 * s) 0

    abbrev n : ℕ
    n = ITEM * get_or spans (2 * s + 1) 0

    -- the rows of the state
    part : take n (drop a its) ≡ words_of st.rows
    part =
        rw (over-drop (item_words rr) (item_words ss) its P.items-are items-fit a (omega (arith, words, row_low)), first-is, count-is) (items-part ss sets s l)

    moved : paste its (ITEM * row) (drop a its) n ≡ over (item_words rr ++ words_of st.rows) (item_words ss)
    moved =
        over-paste (item_words rr) (item_words ss) its P.items-are items-fit (ITEM * row) words (drop a its) n
        (omega (arith, length-drop a its, part_in)) ∙ ap (λ ws. over (item_words rr ++ ws) (item_words ss)) part

    written : set (set spans (2 * k) row) (2 * k + 1) (get_or spans (2 * s + 1) 0)
        ≡ over (spans_from 0 rr ++ (row ∷ get_or spans (2 * s + 1) 0 ∷ [])) (spans_from 0 ss)
    written =
        over-two (spans_from 0 rr) (spans_from 0 ss) spans P.spans-are (2 * k) row (get_or spans (2 * s + 1) 0) twice
        (omega (arith, spans-length 0 ss, state-low))

    spanned : spans_from 0 (rr ++ (renumbered ms st ∷ [])) ≡ spans_from 0 rr ++ (row ∷ get_or spans (2 * s + 1) 0 ∷ [])
    spanned =
        let z : 0 + items rr ≡ row = omega (arith, P.rows) in
        spans-more 0 rr (renumbered ms st) ∙ rw (z, count-is) refl

    pub pack-marked : (get_or marks (2 * s) 0 ≡ 0 → ⊥) → {its' : List ℕ}
        → its' ≡ paste its (ITEM * row) (drop (ITEM * get_or spans (2 * s) 0) its) (ITEM * get_or spans (2 * s + 1) 0)
        → Packing ms ss its' (set (set spans (2 * k) row) (2 * k + 1) (get_or spans (2 * s + 1) 0)) (k + 1) (row + get_or spans (2 * s + 1) 0) (s + 1)
    pack-marked n q =
        let e : get_or ms s false ≡ true = flag_true marks s (omega arith) n in
        let z : kept_to ms ms ss (s + 1) ≡ rr ++ (renumbered ms st ∷ []) = rw add-one (kept-marked ms ms ss s l e) in
        record {
          items-are = rw z (q ∙ moved ∙ ap (λ ws. over ws (item_words ss)) (sym (items_more rr (renumbered ms st))));
          spans-are = rw z (written ∙ ap (λ ws. over ws (spans_from 0 ss)) (sym spanned));
          states = rw z (omega (arith, P.states, length-append rr (renumbered ms st ∷ [])));
          rows = rw z (omega (arith, P.rows, snoc-items rr (renumbered ms st), count-is));
        }

    pub pack-unmarked : get_or marks (2 * s) 0 ≡ 0 → Packing ms ss its spans k row (s + 1)
    pack-unmarked e =
        let z : kept_to ms ms ss (s + 1) ≡ rr = rw add-one (kept-unmarked ms ms ss s l (flag-false marks s (omega arith) e)) in
        record {
          items-are = rw z P.items-are;
          spans-are = rw z P.spans-are;
          states = rw z P.states;
          rows = rw z P.rows;
        }
