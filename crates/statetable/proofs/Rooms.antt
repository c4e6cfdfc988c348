-- A state's kernel and edges where the graph stands in lent memory, and a row in room that is zero. Assumes nothing.
use mathlib.Core.List.{List, ◌++◌, append_assoc}
use mathlib.Core.Path.{◌≡◌, sym, ap, ap₂, ◌∙◌}
use Prim.Native.Nat.{ℕ, suc, ◌+◌, ◌*◌, ◌<◌, ◌≤◌}
use native.Mathlib.Nat.{mul-le-mul_right, suc-mul}
use native.Mathlib.Omega.{arith}
use lib.ListN.{length, get_or, take, drop, replicate, length-append, length-replicate, replicate-append-replicate, get_or-append}
use lib.Seq.{take_at, drop_at}
use Rattle.block.specs.Limits.{ITEM}
use Rattle.block.specs.Block.{tokens, rules}
use Rattle.itemset.specs.Rows.{Row, words_of}
use Rattle.itemset.proofs.Words.{words-length}
use Rattle.pager.specs.Place.{State, items}
use Rattle.pager.specs.Graph.{nowhere}
use Rattle.pager.specs.Memory.{item_words, spans_from, edge_words}
use Rattle.pager.proofs.Each.{each_at, each-before}
use Rattle.pager.proofs.Memory.{AllSets, Width, items-length, items-before, items-take, items_at, spans-length, spans-first, spans-count, edges-length}
use Rattle.statetable.specs.ForTables.{GraphIn}

-- ---- state n of the graph in the buffers
module _ {b : List ℕ} {ss : List State} {is ps es : List ℕ} (G : GraphIn b ss is ps es) where
  sets : AllSets ss
  sets n l = (G.fillable n l).rows.sets

  widths : Width b ss
  widths n l = (G.fillable n l).width

  module _ (n : ℕ) (l : n < length ss) where
    first-is : get_or ps (2 * n) 0 ≡ items (take n ss)
    first-is =
        ap (λ (t : List ℕ). get_or t (2 * n) 0) G.spans-are
        ∙ get_or-append (spans_from 0 ss) G.spans-behind 0 (2 * n) (omega (arith, spans-length 0 ss))
        ∙ spans-first 0 ss n l
        ∙ zero-plus (items (take n ss))
      where
        zero-plus : (k : ℕ) → 0 + k ≡ k
        zero-plus k = omega arith

    count-is : get_or ps (2 * n + 1) 0 ≡ length (get_or ss n nowhere).rows
    count-is =
        ap (λ (t : List ℕ). get_or t (2 * n + 1) 0) G.spans-are
        ∙ get_or-append (spans_from 0 ss) G.spans-behind 0 (2 * n + 1) (omega (arith, spans-length 0 ss))
        ∙ spans-count 0 ss n l

    -- what kernel_of requires, and what it gives
    pub kernel-room : (2 * n + 1 < length ps) × (ITEM * get_or ps (2 * n) 0 + ITEM * get_or ps (2 * n + 1) 0 ≤ length is)
    kernel-room = (
      omega (arith, ap length G.spans-are, length-append (spans_from 0 ss) G.spans-behind, spans-length 0 ss),
      omega (arith, first-is, count-is, ap length G.items-are, length-append (item_words ss) G.items-behind, items-length ss sets, items-take ss n l),
    )

    pub kernel-words : take (ITEM * get_or ps (2 * n + 1) 0) (drop (ITEM * get_or ps (2 * n) 0) is) ≡ words_of (get_or ss n nowhere).rows
    kernel-words =
        let R : List Row = (get_or ss n nowhere).rows in
        let later : List ℕ = item_words (drop (suc n) ss) in
        ap (λ (t : List ℕ). take (ITEM * get_or ps (2 * n + 1) 0) (drop (ITEM * get_or ps (2 * n) 0) t))
        (G.items-are
        ∙ ap (λ (t : List ℕ). t ++ G.items-behind) (items_at ss n l)
        ∙ append_assoc (item_words (take n ss)) (words_of R ++ later) G.items-behind
        ∙ ap (λ (t : List ℕ). item_words (take n ss) ++ t) (append_assoc (words_of R) later G.items-behind))
        ∙ ap (λ (t : List ℕ). take (ITEM * get_or ps (2 * n + 1) 0) t)
        (drop_at (item_words (take n ss)) (words_of R ++ (later ++ G.items-behind)) (ITEM * get_or ps (2 * n) 0)
        (items-before ss sets n l ∙ ap (λ (k : ℕ). ITEM * k) (sym first-is)))
        ∙ take_at (words_of R) (later ++ G.items-behind) (ITEM * get_or ps (2 * n + 1) 0)
        (words-length R (sets n l) ∙ ap (λ (k : ℕ). ITEM * k) (sym count-is))

    -- the edges of state n
    pub edges_room : n * (rules b + tokens b) + (rules b + tokens b) ≤ length es
    edges_room =
        let w : ℕ = rules b + tokens b in
        omega (
          arith,
          ap length G.edges_are,
          length-append (edge_words ss) G.edges-behind,
          edges-length b ss widths,
          suc-mul n w,
          mul-le-mul_right {m = suc n} {n = length ss} w l,
        )

    pub edges-row : take (rules b + tokens b) (drop (n * (rules b + tokens b)) es) ≡ (get_or ss n nowhere).edges
    unfolding edge_words
    edges-row =
        let w : ℕ = rules b + tokens b in
        let E : List ℕ = (get_or ss n nowhere).edges in
        let later : List ℕ = edge_words (drop (suc n) ss) in
        ap (λ (t : List ℕ). take w (drop (n * w) t))
        (G.edges_are
        ∙ ap (λ (t : List ℕ). t ++ G.edges-behind) (each_at (λ st. st.edges) nowhere ss n l)
        ∙ append_assoc (edge_words (take n ss)) (E ++ later) G.edges-behind
        ∙ ap (λ (t : List ℕ). edge_words (take n ss) ++ t) (append_assoc E later G.edges-behind))
        ∙ ap (λ (t : List ℕ). take w t)
        (drop_at (edge_words (take n ss)) (E ++ (later ++ G.edges-behind)) (n * w) (each-before (λ st. st.edges) nowhere w ss widths n l))
        ∙ take_at E (later ++ G.edges-behind) w (widths n l)

-- ---- room with words done, then a row and the rest, all zero
module _ (done room : List ℕ) (at w rest : ℕ) (e : length done ≡ at) (q : room ≡ done ++ replicate (w + rest) 0) where
  split : room ≡ done ++ (replicate w 0 ++ replicate rest 0)
  split = q ∙ ap (λ (t : List ℕ). done ++ t) (sym (replicate-append-replicate w rest 0))

  from_row : drop at room ≡ replicate w 0 ++ replicate rest 0
  from_row = ap (λ (t : List ℕ). drop at t) split ∙ drop_at done (replicate w 0 ++ replicate rest 0) at e

  pub row-empty : take w (drop at room) ≡ replicate w 0
  row-empty = ap (λ (t : List ℕ). take w t) from_row ∙ take_at (replicate w 0) (replicate rest 0) w (length-replicate {A = ℕ} w 0)

  -- a row is written
  pub row_put : (row : List ℕ) → take at room ++ (row ++ drop w (drop at room)) ≡ (done ++ row) ++ replicate rest 0
  row_put row =
      ap₂ (λ (t u : List ℕ). t ++ (row ++ u))
      (ap (λ (t : List ℕ). take at t) q ∙ take_at done (replicate (w + rest) 0) at e)
      (ap (λ (t : List ℕ). drop w t) from_row ∙ drop_at (replicate w 0) (replicate rest 0) w (length-replicate {A = ℕ} w 0))
      ∙ sym (append_assoc done row (replicate rest 0))
