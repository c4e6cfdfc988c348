-- What the buffers hold: where a state's rows are, and the states after one more or a union. Assumes nothing.
use mathlib.Core.Bool.{Bool, true, false, not, cond, ◌&&◌, and-true, and-false}
use mathlib.Core.List.{List, [], ◌∷◌, ◌++◌, append_assoc}
use mathlib.Core.Path.{◌≡◌, refl, sym, ap, ap₂, ◌∙◌}
use Prim.Native.Nat.{ℕ, suc, ◌+◌, ◌-◌, ◌*◌, ◌<◌, ◌≤◌}
use native.Mathlib.Nat.{mul-le-mul_right, suc-mul}
use native.Mathlib.Omega.{arith}
use lib.ListN.{length, get_or, take, drop, set, replicate}
use lib.Seq.{paste, take_at, drop_at}
use borrow.Author.Tests.{not-true, not-false}
use Rattle.block.specs.Limits.{ITEM}
use Rattle.block.specs.Lists.{change}
use Rattle.block.specs.Block.{tokens, rules}
use Rattle.itemset.specs.Rows.{Row, words_of, same_rows}
use Rattle.itemset.proofs.Words.{words-length}
use Rattle.pager.specs.Weak.{compatible, union}
use Rattle.pager.specs.Place.{State, Limits, items, new, take_in}
use Rattle.pager.specs.Graph.{nowhere, edge_at, edge_to, mark}
use Rattle.pager.specs.Growing.{Arriving, Growing}
use Rattle.pager.specs.Memory.{pad, item_words, spans_from, edge_words, mark_words}
use Rattle.pager.specs.RowWords.{RowWords, RowsAt}
use Rattle.pager.specs.Held.{Behind, Held}
use Rattle.pager.proofs.Union.{union-length}
use Rattle.pager.proofs.Places.{Placing}
use Rattle.pager.proofs.Grown.{change-items}
use Rattle.pager.proofs.Growing.{growing-placed, growing-edge, growing-mark}
use Rattle.pager.proofs.Padded.{pad-put, pad-two, pad-at, pad-set, pad-zeros, pad-long}
use Rattle.pager.proofs.Memory.{items-length, items-before, items-take, items_more, items_at, items-change, items-still, spans-length, spans-more, spans-first, spans-count, spans-change, marks-length, marks-more, marks-made, marks-open, marks-set, marks-still, edges-length, edges_more, edges-still, edges-set, growing-sets, growing-width}

module _ {b : List ℕ} {m : Limits} {ss : List State} {z : Behind} {i s e k : List ℕ} (H : Held b m ss z i s e k) where
  -- ---- the buffers are long enough
  items-fit : length (item_words ss) ≤ ITEM * m.items
  items-fit = let h = H.growing.fit in omega (arith, items-length ss (growing-sets H.growing))

  spans_fit : length (spans_from 0 ss) ≤ 2 * m.states
  spans_fit = let h = H.growing.few in omega (arith, spans-length 0 ss)

  marks-fit : length (mark_words ss) ≤ 2 * m.states
  marks-fit = let h = H.growing.few in omega (arith, marks-length ss)

  pub items-long : ITEM * m.items ≤ length i
  items-long = omega (arith, ap length H.items-is, pad-long (ITEM * m.items) (item_words ss) z.items items-fit)

  pub spans-long : 2 * m.states ≤ length s
  spans-long = omega (arith, ap length H.spans-is, pad-long (2 * m.states) (spans_from 0 ss) z.spans spans_fit)

  pub marks-long : 2 * m.states ≤ length k
  marks-long = omega (arith, ap length H.marks-is, pad-long (2 * m.states) (mark_words ss) z.marks marks-fit)

  pub edges-long : m.states * (rules b + tokens b) ≤ length e
  edges-long =
      let w : ℕ = rules b + tokens b in
      omega (
        arith,
        ap length H.edges-is,
        pad-long (m.states * w) (edge_words ss) z.edges
            (omega (arith, edges-length b ss (growing-width H.growing), mul-le-mul_right {m = length ss} {n = m.states} w H.growing.few)),
      )

  -- ---- one state more
  module _ (x : ℕ) (K : List Row) (A : Arriving b x K) (l : length ss < m.states) (h : items ss + length K ≤ m.items) where
    st : State
    st = new b (suc x) K

    new_items : paste i (ITEM * items ss) (words_of K) (length (words_of K)) ≡ pad (ITEM * m.items) (item_words (ss ++ (st ∷ []))) ++ z.items
    unfolding st new
    new_items =
        rw (H.items-is, items_more ss st, ← items-length ss (growing-sets H.growing))
        (pad-put (ITEM * m.items) (item_words ss) z.items (words_of K)
        (omega (arith, items-length ss (growing-sets H.growing), words-length K A.rows.sets)))

    new-spans : set (set s (2 * length ss) (items ss)) (2 * length ss + 1) (length K) ≡ pad (2 * m.states) (spans_from 0 (ss ++ (st ∷ []))) ++ z.spans
    unfolding st new
    new-spans =
        rw (H.spans-is, spans-more 0 ss st)
        (pad-two (2 * m.states) (spans_from 0 ss) z.spans (2 * length ss) (items ss) (length K) (spans-length 0 ss) (omega arith)
        ∙ ap (λ (n : ℕ). pad (2 * m.states) (spans_from 0 ss ++ (n ∷ length K ∷ [])) ++ z.spans) (zero-plus (items ss)))
      where
        zero-plus : (n : ℕ) → n ≡ 0 + n
        zero-plus n = omega arith

    new-marks : set (set k (2 * length ss) (suc x)) (2 * length ss + 1) 1 ≡ pad (2 * m.states) (mark_words (ss ++ (st ∷ []))) ++ z.marks
    unfolding st new
    new-marks =
        rw (H.marks-is, marks-more ss st)
        (pad-two (2 * m.states) (mark_words ss) z.marks (2 * length ss) (suc x) 1 (marks-length ss) (omega arith))

    -- its edges are the padding that stands there
    new-edges : e ≡ pad (m.states * (rules b + tokens b)) (edge_words (ss ++ (st ∷ []))) ++ z.edges
    unfolding st new
    new-edges =
        let w : ℕ = rules b + tokens b in
        H.edges-is
        ∙ ap (λ (t : List ℕ). t ++ z.edges)
        (sym (ap (λ (t : List ℕ). pad (m.states * w) t) (edges_more ss st)
        ∙ pad-zeros (m.states * w) (edge_words ss) w
        (omega (arith, edges-length b ss (growing-width H.growing), suc-mul (length ss) w, mul-le-mul_right {m = suc (length ss)} {n = m.states} w l))))

    pub held_new : Held b m (ss ++ (new b (suc x) K ∷ [])) z (paste i (ITEM * items ss) (words_of K) (length (words_of K)))
        (set (set s (2 * length ss) (items ss)) (2 * length ss + 1) (length K)) e (set (set k (2 * length ss) (suc x)) (2 * length ss + 1) 1)
    unfolding st
    held_new =
        record {
          growing = (growing-placed b m x K ss (length ss) (ss ++ (new b (suc x) K ∷ [])) H.growing A (Placing.fresh l h)).0;
          items-is = new_items;
          spans-is = new-spans;
          edges-is = new-edges;
          marks-is = new-marks;
        }

  -- ---- state n
  module _ (n : ℕ) (l : n < length ss) where
    pub first-is : get_or s (2 * n) 0 ≡ items (take n ss)
    first-is =
        ap (λ (t : List ℕ). get_or t (2 * n) 0) H.spans-is
        ∙ pad-at (2 * m.states) (spans_from 0 ss) z.spans (2 * n) (omega (arith, spans-length 0 ss))
        ∙ spans-first 0 ss n l
        ∙ zero-plus (items (take n ss))
      where
        zero-plus : (n : ℕ) → 0 + n ≡ n
        zero-plus n = omega arith

    pub count-is : get_or s (2 * n + 1) 0 ≡ length (get_or ss n nowhere).rows
    count-is =
        ap (λ (t : List ℕ). get_or t (2 * n + 1) 0) H.spans-is
        ∙ pad-at (2 * m.states) (spans_from 0 ss) z.spans (2 * n + 1) (omega (arith, spans-length 0 ss))
        ∙ spans-count 0 ss n l

    pub made-is : get_or k (2 * n) 0 ≡ (get_or ss n nowhere).made
    made-is =
        ap (λ (t : List ℕ). get_or t (2 * n) 0) H.marks-is
        ∙ pad-at (2 * m.states) (mark_words ss) z.marks (2 * n) (omega (arith, marks-length ss))
        ∙ marks-made ss n l

    pub open_is : get_or k (2 * n + 1) 0 ≡ cond (get_or ss n nowhere).closed 0 1
    open_is =
        ap (λ (t : List ℕ). get_or t (2 * n + 1) 0) H.marks-is
        ∙ pad-at (2 * m.states) (mark_words ss) z.marks (2 * n + 1) (omega (arith, marks-length ss))
        ∙ marks-open ss n l

    mark_set : (v : ℕ) → set k (2 * n + 1) v ≡ pad (2 * m.states) (set (mark_words ss) (2 * n + 1) v) ++ z.marks
    mark_set v =
        ap (λ (t : List ℕ). set t (2 * n + 1) v) H.marks-is
        ∙ pad-set (2 * m.states) (mark_words ss) z.marks (2 * n + 1) v (omega (arith, marks-length ss))

    -- what kernel_of requires, and what it gives
    pub kernel-room : (2 * n + 1 < length s) × (ITEM * get_or s (2 * n) 0 + ITEM * get_or s (2 * n + 1) 0 ≤ length i)
    kernel-room =
        let f = H.growing.few in
        let t = H.growing.fit in
        (omega (arith, spans-long), omega (arith, items-long, first-is, count-is, items-take ss n l))

    -- the words before the state's rows, and behind them
    pub before : List ℕ
    before = item_words (take n ss)

    pub behind : List ℕ
    behind = item_words (drop (suc n) ss) ++ (replicate (ITEM * m.items - length (item_words ss)) 0 ++ z.items)

    before-length : length before ≡ ITEM * get_or s (2 * n) 0
    unfolding before
    before-length = items-before ss (growing-sets H.growing) n l ∙ ap (λ (j : ℕ). ITEM * j) (sym first-is)

    split : i ≡ before ++ (words_of (get_or ss n nowhere).rows ++ behind)
    unfolding before behind pad
    split =
        H.items-is
        ∙ ap (λ (t : List ℕ). (t ++ replicate (ITEM * m.items - length (item_words ss)) 0) ++ z.items) (items_at ss n l)
        ∙ simp append_assoc

    pub rows_at : RowsAt (get_or s (2 * n) 0) before (get_or ss n nowhere).rows behind i
    rows_at = record { place = before-length; sets = growing-sets H.growing n l; words = split }

    pub kernel-words : RowWords (take (ITEM * get_or s (2 * n + 1) 0) (drop (ITEM * get_or s (2 * n) 0) i)) (get_or ss n nowhere).rows
    kernel-words =
        let R : List Row = (get_or ss n nowhere).rows in
        record {
          sets = growing-sets H.growing n l;
          words =
              ap (λ (t : List ℕ). take (ITEM * get_or s (2 * n + 1) 0) t)
              (ap (λ (t : List ℕ). drop (ITEM * get_or s (2 * n) 0) t) rows_at.words ∙ drop_at before (words_of R ++ behind) (ITEM * get_or s (2 * n) 0) before-length)
              ∙ take_at (words_of R) behind (ITEM * get_or s (2 * n + 1) 0)
              (words-length R (growing-sets H.growing n l) ∙ ap (λ (j : ℕ). ITEM * j) (sym count-is));
        }

    -- ---- the state is closed, and an edge of it drawn
    pub held-mark : Held b m (change mark n ss) z i s e (set k (2 * n + 1) 0)
    unfolding mark
    held-mark =
        record {
          growing = growing-mark b m n ss H.growing l;
          items-is = H.items-is ∙ ap (λ (t : List ℕ). pad (ITEM * m.items) t ++ z.items) (sym (items-still mark (λ st. refl) n ss));
          spans-is = H.spans-is ∙ ap (λ (t : List ℕ). pad (2 * m.states) t ++ z.spans) (sym (spans-change mark (λ st. refl) 0 n ss));
          edges-is = H.edges-is ∙ ap (λ (t : List ℕ). pad (m.states * (rules b + tokens b)) t ++ z.edges) (sym (edges-still mark (λ st. refl) n ss));
          marks-is = mark_set 0 ∙ ap (λ (t : List ℕ). pad (2 * m.states) t ++ z.marks) (marks-set mark ss n 0 l refl refl);
        }

    pub held-edge : (x t : ℕ) → edge_at b x < rules b + tokens b → t < length ss
        → Held b m (change (edge_to b x t) n ss) z i s (set e (n * (rules b + tokens b) + edge_at b x) (suc t)) k
    unfolding edge_to
    held-edge x t h q =
        let w : ℕ = rules b + tokens b in
        record {
          growing = growing-edge b m n x t ss H.growing l q;
          items-is = H.items-is ∙ ap (λ (u : List ℕ). pad (ITEM * m.items) u ++ z.items) (sym (items-still (edge_to b x t) (λ st. refl) n ss));
          spans-is = H.spans-is ∙ ap (λ (u : List ℕ). pad (2 * m.states) u ++ z.spans) (sym (spans-change (edge_to b x t) (λ st. refl) 0 n ss));
          edges-is =
              ap (λ (u : List ℕ). set u (n * w + edge_at b x) (suc t)) H.edges-is
              ∙ pad-set (m.states * w) (edge_words ss) z.edges (n * w + edge_at b x) (suc t)
              (omega (arith, edges-length b ss (growing-width H.growing), suc-mul n w, mul-le-mul_right {m = suc n} {n = length ss} w l))
              ∙ ap (λ (u : List ℕ). pad (m.states * w) u ++ z.edges) (edges-set b (edge_to b x t) ss (growing-width H.growing) n (edge_at b x) (suc t) l h refl);
          marks-is = H.marks-is ∙ ap (λ (u : List ℕ). pad (2 * m.states) u ++ z.marks) (sym (marks-still (edge_to b x t) ss n l refl refl));
        }

    -- ---- a kernel is taken in
    module _ (x : ℕ) (K : List Row) (A : Arriving b x K) (made : (get_or ss n nowhere).made ≡ suc x) (weak : compatible (get_or ss n nowhere).rows K ≡ true) where
      same_size : (st : State) → length (take_in K st).rows ≡ length st.rows
      unfolding take_in
      same_size st = union-length st.rows K

      growing : Growing b m (change (take_in K) n ss)
      growing = (growing-placed b m x K ss n (change (take_in K) n ss) H.growing A (Placing.weak n l made weak)).0

      same_length : length (item_words (change (take_in K) n ss)) ≡ length (item_words ss)
      same_length =
          items-length (change (take_in K) n ss) (growing-sets growing)
          ∙ ap (λ (j : ℕ). ITEM * j) (change-items (take_in K) same_size n ss)
          ∙ sym (items-length ss (growing-sets H.growing))

      join-items : (i' : List ℕ) → RowsAt (get_or s (2 * n) 0) before (union (get_or ss n nowhere).rows K) behind i'
          → i' ≡ pad (ITEM * m.items) (item_words (change (take_in K) n ss)) ++ z.items
      unfolding before behind pad take_in
      join-items i' R =
          R.words
          ∙ sym
          (ap₂ (λ (t : List ℕ) (j : ℕ). (t ++ replicate (ITEM * m.items - j) 0) ++ z.items) (items-change (take_in K) ss n l) same_length
          ∙ simp append_assoc)

      join-marks : (r : Bool) → r ≡ not (same_rows (union (get_or ss n nowhere).rows K) (get_or ss n nowhere).rows)
          → cond r (set k (2 * n + 1) 1) k ≡ pad (2 * m.states) (mark_words (change (take_in K) n ss)) ++ z.marks
      unfolding take_in
      join-marks true q =
          mark_set 1
          ∙ ap (λ (t : List ℕ). pad (2 * m.states) t ++ z.marks)
          (marks-set (take_in K) ss n 1 l refl
          (ap (λ (t : Bool). cond ((get_or ss n nowhere).closed && t) 0 1) (not-true _ (sym q)) ∙ ap (λ (t : Bool). cond t 0 1) (and-false (get_or ss n nowhere).closed)))
      join-marks false q =
          H.marks-is
          ∙ ap (λ (t : List ℕ). pad (2 * m.states) t ++ z.marks)
          (sym (marks-still (take_in K) ss n l refl
          (ap (λ (t : Bool). cond ((get_or ss n nowhere).closed && t) 0 1) (not-false _ (sym q)) ∙ ap (λ (t : Bool). cond t 0 1) (and-true (get_or ss n nowhere).closed))))

      pub held-join : (i' k' : List ℕ) (r : Bool) → RowsAt (get_or s (2 * n) 0) before (union (get_or ss n nowhere).rows K) behind i'
          → r ≡ not (same_rows (union (get_or ss n nowhere).rows K) (get_or ss n nowhere).rows) → k' ≡ cond r (set k (2 * n + 1) 1) k
          → Held b m (change (take_in K) n ss) z i' s e k'
      unfolding take_in
      held-join i' k' r R q t =
          record {
            growing = growing;
            items-is = join-items i' R;
            spans-is = H.spans-is ∙ ap (λ (t : List ℕ). pad (2 * m.states) t ++ z.spans) (sym (spans-change (take_in K) same_size 0 n ss));
            edges-is = H.edges-is ∙ ap (λ (t : List ℕ). pad (m.states * (rules b + tokens b)) t ++ z.edges) (sym (edges-still (take_in K) (λ st. refl) n ss));
            marks-is = t ∙ join-marks r q;
          }
