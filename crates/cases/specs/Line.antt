-- What a line of the oracle's lists gives to a call, and what is seen then: the answer, and the whole of every lent buffer. Each definition here unfolds
-- all that it computes with. Assumes nothing.
use Rattle.std.specs.Prelude.{List, [], ◌∷◌, ◌++◌, ℕ, length, replicate}
use Rattle.block.specs.Lists.{any, keep, change, same, settle, from, upto}
use Rattle.block.specs.Block.{body_of, prods_of}
use Rattle.block.specs.Sets.{bit, mem, empty, with, join, meets, members}
use Rattle.block.specs.First.{behind, either, ahead_same, ahead_sym, ahead_of, add_prod, firsts_of}
use Rattle.block.specs.Refusal.{short_block, too_large, misplaced, lengths, good_production, bad_production, start_again, bad_start, good_symbol, bad_symbol, good_prec, bad_precedence, first_fault, refusal_of, body_refusal, body_part}
use Rattle.itemset.specs.Rows.{words_of, same_row}
use Rattle.itemset.specs.Close.{put, rest_of, handed, opening, give, close_of}
use Rattle.itemset.specs.Goto.{sight, sights_of, move, goto_of, gotos_of}
use Rattle.pager.specs.Lists.{all, pairwise, find, each, walk, Answer, is, refused}
use Rattle.pager.specs.Weak.{item_same, contexts, apart, compatible, union}
use Rattle.pager.specs.Place.{items, new, take_in, is_equal, is_weak, add_state, place_of}
use Rattle.pager.specs.Graph.{edge_at, edge_to, mark, place_edge, close_state, next_state, grow, start_state, graph_of}
use Rattle.pager.specs.Collect.{mark_to, spread, reach_of, rank, renumber, kept, collect_of}
use Rattle.pager.specs.Memory.{pad, item_words, spans_from, edge_words}
use Rattle.pager.specs.Call as graph
use Rattle.statetable.specs.Cell.{decode, encode}
use Rattle.statetable.specs.Verdict.{resolve}
use Rattle.statetable.specs.Events.{of_row, of_edges, events_of}
use Rattle.statetable.specs.Cells as cells
use Rattle.statetable.specs.Marks.{core_marks, reduce_only}
use Rattle.statetable.specs.Build as build
use Rattle.machine.specs.Call as machine
use Rattle.pager.specs.Place.{Limits}
use Rattle.pager.specs.declared.call.Kept.{Kept}
use Rattle.statetable.specs.Build.{Buffers, lent_all}
use Rattle.statetable.specs.Queries.{table_short, table_word, query_of}
use Rattle.statetable.specs.declared.call.Named.{Named}
use Rattle.statetable.specs.declared.call.Counts.{Counts}
use Rattle.machine.specs.Call.{called, Verdict}
use Rattle.machine.specs.declared.answers.Run.{Run}

-- ---- a block: the number of its refusal, and a right side
unfoldable pub judged : List ℕ → ℕ
unfolding any keep change same settle from upto body_of prods_of short_block too_large misplaced lengths good_production bad_production start_again bad_start good_symbol bad_symbol good_prec bad_precedence first_fault refusal_of
judged b = refusal_of b

unfoldable pub right : List ℕ → ℕ → ℕ × List ℕ
unfolding judged body_refusal body_part
right b p = (body_refusal b p, body_part b p)

-- ---- the call `graph`
abbrev pub named : (S I : ℕ) → Limits
named S I = record { states = S; items = I }

abbrev pub left : (states items before : ℕ) → Kept
left s i b = record { states = s; items = i; before = b }

-- buffers of these lengths, full of one word; the first three are outputs, the others work room
abbrev pub spared : (w items spans edges marks closed kernel : ℕ) → graph.Buffers
spared w items spans edges marks closed kernel =
    graph.lent (replicate items w) (replicate spans w) (replicate edges w) (replicate marks w) (replicate closed w) (replicate kernel w)

-- the work room, one behind the other
abbrev pub room : graph.Buffers → List ℕ
room l = l.marks ++ (l.closed ++ l.kernel)

unfoldable pub graphed : List ℕ → Limits → graph.Buffers → Answer Kept × List (List ℕ)
unfolding judged bit mem empty with join meets members behind either ahead_same ahead_sym ahead_of add_prod firsts_of words_of same_row put rest_of handed opening give close_of sight sights_of move goto_of gotos_of all pairwise find each walk item_same contexts apart compatible union items new take_in is_equal is_weak add_state place_of edge_at edge_to mark place_edge close_state next_state grow start_state graph_of mark_to spread reach_of rank renumber kept collect_of pad item_words spans_from edge_words graph.some_less graph.room_short graph.turned_away graph.graph_call graph.leaves
graphed b m l =
    let x = graph.leaves b m l in
    (graph.counted (graph.graph_call b m l), x.items ∷ x.spans ∷ x.edges ∷ room x ∷ [])

-- ---- the call `build`
abbrev pub sizes : (S I rr sr : ℕ) → Named
sizes S I rr sr = record { states = S; items = I; rr = rr; sr = sr }

abbrev pub counts : (states items before rr sr count : ℕ) → Counts
counts s i b r q c = record { states = s; items = i; before = b; rr = r; sr = q; count = c }

abbrev pub lent : (w items spans edges marks closed kernel actions gotos offered shifts cores only rr sr : ℕ) → Buffers
lent w items spans edges marks closed kernel actions gotos offered shifts cores only rr sr =
    lent_all (spared w items spans edges marks closed kernel) (replicate actions w) (replicate gotos w) (replicate offered w) (replicate shifts w) (replicate cores w)
    (replicate only w) (replicate rr w) (replicate sr w)

unfoldable pub built : List ℕ → Named → Buffers → Answer Counts × List (List ℕ)
unfolding graphed decode encode resolve of_row of_edges events_of cells.settle cells.fill cells.fill_state cells.fill_next cells.cells_of core_marks reduce_only build.tables_short build.turned_away build.build_of build.build_call build.leaves
built b n l =
    let x = build.leaves b n l in (
      build.counted (build.build_call b n l),
      x.graph.items
          ∷ x.graph.spans
          ∷ x.graph.edges
          ∷ x.actions
          ∷ x.gotos
          ∷ x.offered
          ∷ x.shifts
          ∷ x.cores
          ∷ x.only
          ∷ x.rr
          ∷ x.sr
          ∷ room x.graph
          ∷ [],
    )

-- ---- a query of a table whose rows are so wide: the word
abbrev pub one : List ℕ → ℕ
one b = 1

unfoldable pub asked : (width : List ℕ → ℕ) (block : List ℕ) (states : ℕ) (table : List ℕ) (s i : ℕ) → Answer ℕ
unfolding judged graph.some_less table_short table_word query_of
asked width b n table s i = query_of b n table (width b) s i

-- ---- the call `run`
abbrev pub run : (place k steps height : ℕ) → Run
run place k steps height = record { at = place; k = k; steps = steps; height = height }

-- the lists have a place for a reject alone
abbrev pub placed : Verdict → Run → Run
placed Verdict.accept r = run 0 r.k r.steps r.height
placed Verdict.reject r = r
placed (Verdict.stopped n) r = run 0 r.k r.steps r.height

abbrev pub shown : Answer (Verdict × Run) → Answer (Verdict × Run)
shown (is (v, r)) = is (v, placed v r)
shown (refused why) = refused why

unfoldable pub ran : (block : List ℕ) (states : ℕ) (actions gotos input : List ℕ) (limit w stack output : ℕ) → Answer (Verdict × Run) × List (List ℕ)
unfolding judged find pad graph.some_less decode machine.room_short machine.turned_away machine.bad_token machine.machine_of machine.run_call
ran block states actions gotos input limit w stack output =
    let e = machine.run_call (called block states actions gotos input limit (replicate stack w) (replicate output w)) in
    (shown (machine.told (length input) e), machine.stack_of e (replicate stack w) ∷ machine.output_of e (replicate output w) ∷ [])
