-- The call `build`: when it refuses, what it answers, and what each lent buffer holds then. Assumes nothing.
use Rattle.std.specs.Prelude.{Bool, ◌||◌, cond, List, [], ◌∷◌, map, ℕ, ◌*◌, length, Result, Ok, Err}
use Rattle.block.specs.Block.{tokens, rules, prods}
use Rattle.block.specs.Refusal.{refusal_of}
use Rattle.block.specs.First.{firsts_of}
use Rattle.pager.specs.Lists.{each, Answer, is, refused, unless, unchanged}
use Rattle.pager.specs.Place.{State, Limits, items}
use Rattle.pager.specs.Graph.{graph_of}
use Rattle.pager.specs.Collect.{collect_of}
use Rattle.pager.specs.Memory.{item_words, spans_from, edge_words}
use Rattle.pager.specs.Call as graph
use Rattle.pager.specs.Call.{item_part, span_part, edge_part, mark_part, closed_part, kernel_part, some_less, or_else, zeroed}
use Rattle.statetable.specs.Limits.{RECORDS, RR, SR}
use Rattle.statetable.specs.Refusals.{values_of}
use Rattle.statetable.specs.Cells.{Rows, cells_of}
use Rattle.statetable.specs.Marks.{shift_mark, core_marks, reduce_only}
use Rattle.statetable.specs.Laid.{words_rr, words_sr}
use Rattle.statetable.specs.ForTables.{flat, goto_words, given}
use Rattle.statetable.specs.declared.records.Caps.{Caps}
use Rattle.statetable.specs.declared.call.Named.{Named}
use Rattle.statetable.specs.declared.call.Counts.{Counts}
use Rattle.statetable.specs.declared.refusal.BuildRefusal.{BuildRefusal}

-- ---- the lent buffers: those of the call `graph`, then the tables, marks and lists, all outputs
pub record Buffers : Type 0 where
  pub graph : graph.Buffers
  pub actions : List ℕ
  pub gotos : List ℕ
  pub offered : List ℕ
  pub shifts : List ℕ
  pub cores : List ℕ
  pub only : List ℕ
  pub rr : List ℕ
  pub sr : List ℕ

abbrev pub lent_all : graph.Buffers → (actions gotos offered shifts cores only rr sr : List ℕ) → Buffers
lent_all g actions gotos offered shifts cores only rr sr =
    record { graph = g; actions = actions; gotos = gotos; offered = offered; shifts = shifts; cores = cores; only = only; rr = rr; sr = sr }

-- the caller names S states, I kernel items, and the records that each list has room for
abbrev pub limits_of : Named → Limits
limits_of n = record { states = n.states; items = n.items }

abbrev pub caps_of : Named → Caps
caps_of n = record { rr = n.rr; sr = n.sr }

-- ---- 7: a limit out of range, or a lent buffer shorter than the named sizes need, those of `graph` or these
unfoldable pub tables_short : List ℕ → Named → (actions gotos offered shifts cores only rr sr : ℕ) → Bool
tables_short b n actions gotos offered shifts cores only rr sr =
    some_less
    ((RECORDS, n.rr)
    ∷ (RECORDS, n.sr)
    ∷ (actions, n.states * tokens b)
    ∷ (gotos, n.states * rules b)
    ∷ (offered, n.states * tokens b)
    ∷ (shifts, n.states * tokens b)
    ∷ (cores, n.states * prods b)
    ∷ (only, n.states)
    ∷ (rr, RR * n.rr)
    ∷ (sr, SR * n.sr)
    ∷ [])

abbrev pub is_short : List ℕ → Named → Buffers → Bool
is_short b n l =
    graph.is_short b (limits_of n) l.graph
    || tables_short b n (length l.actions) (length l.gotos) (length l.offered) (length l.shifts) (length l.cores) (length l.only) (length l.rr) (length l.sr)

-- 1 to 7, in this order; 0 for none
unfoldable pub turned_away : List ℕ → Named → Buffers → ℕ
turned_away b n l = or_else (refusal_of b) (cond (is_short b n l) 7 0)

-- ---- the states kept, the state count before collection, and what the filling gave; or a refusal: 8 or 9 as rule 5 meets them, 10 to 12 as the walk
-- over the cells meets them
pub record Built : Type 0 where
  pub states : List State
  pub before : ℕ
  pub rows : Rows

abbrev pub with_rows : List State → ℕ → Answer Rows → Answer Built
with_rows ks before (is d) = is (record { states = ks; before = before; rows = d })
with_rows ks before (refused why) = refused why

abbrev pub then_tables : List ℕ → Caps → Answer (List State) → Answer Built
then_tables b m (is ss) = with_rows (collect_of ss) (length ss) (cells_of b (firsts_of b) m (collect_of ss))
then_tables b m (refused why) = refused why

unfoldable pub build_of : List ℕ → Named → Answer Built
build_of b n = then_tables b (caps_of n) (graph_of b (firsts_of b) (limits_of n))

unfoldable pub build_call : List ℕ → Named → Buffers → Answer Built
build_call b n l = unless (turned_away b n l) (build_of b n)

-- ---- the answer: states and items kept, states before collection, records in each list, precedence count
abbrev pub counts_of : Built → Counts
counts_of x =
    record {
      states = length x.states;
      items = items x.states;
      before = x.before;
      rr = length x.rows.told.rr;
      sr = length x.rows.told.sr;
      count = x.rows.told.count;
    }

abbrev pub counted : Answer Built → Answer Counts
counted (is x) = is (counts_of x)
counted (refused why) = refused why

-- the numbers that are answered, or a refusal's number with its values
abbrev pub answer_of : Result Counts BuildRefusal → Answer Counts
answer_of (Ok k) = is k
answer_of (Err e) = refused (values_of e)

-- ---- what the buffers hold at the end
abbrev pub written_graph : Answer Built → List ℕ → Limits → graph.Buffers → graph.Buffers
written_graph a b m l =
    record {
      items = given a (item_part m) (λ x. item_words x.states) l.items;
      spans = given a (span_part m) (λ x. spans_from 0 x.states) l.spans;
      edges = given a (edge_part b m) (λ x. edge_words x.states) l.edges;
      marks = zeroed (mark_part m) l.marks;
      closed = zeroed (closed_part b) l.closed;
      kernel = zeroed (kernel_part b) l.kernel;
    }

abbrev pub written : Answer Built → List ℕ → Named → Buffers → Buffers
written a b n l =
    record {
      graph = written_graph a b (limits_of n) l.graph;
      actions = given a (n.states * tokens b) (λ x. flat x.rows.cells) l.actions;
      gotos = given a (n.states * rules b) (λ x. goto_words b x.states) l.gotos;
      offered = given a (n.states * tokens b) (λ x. flat x.rows.offered) l.offered;
      shifts = given a (n.states * tokens b) (λ x. map shift_mark (flat x.rows.cells)) l.shifts;
      cores = given a (n.states * prods b) (λ x. each (core_marks (prods b)) x.rows.cells) l.cores;
      only = given a n.states (λ x. map (reduce_only (prods b)) x.rows.cells) l.only;
      rr = given a (RR * n.rr) (λ x. each words_rr x.rows.told.rr) l.rr;
      sr = given a (SR * n.sr) (λ x. each words_sr x.rows.told.sr) l.sr;
    }

-- 1 to 7 change nothing
unfoldable pub leaves : List ℕ → Named → Buffers → Buffers
leaves b n l = unchanged (turned_away b n l) l (written (build_of b n) b n l)
