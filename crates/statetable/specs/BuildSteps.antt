-- What the steps of the call `build` ask and leave. Assumes nothing.
use Rattle.std.specs.Prelude.{List, map, ◌≡◌, ℕ, ◌*◌, ◌≤◌, length, Result}
use Rattle.block.specs.Block.{tokens, rules, prods}
use Rattle.block.specs.Refusal.{Good}
use Rattle.pager.specs.Lists.{each, Answer, is, refused}
use Rattle.pager.specs.Place.{State}
use Rattle.pager.specs.Call.{item_part, span_part, edge_part, closed_part, zeroed}
use Rattle.pager.specs.Held.{STATES, ITEMS}
use Rattle.statetable.specs.Limits.{RECORDS, RR, SR}
use Rattle.statetable.specs.Cells.{Rows}
use Rattle.statetable.specs.Marks.{shift_mark, core_marks, reduce_only}
use Rattle.statetable.specs.Laid.{words_rr, words_sr}
use Rattle.statetable.specs.ForTables.{flat, goto_words, given, GraphIn, TallyBy}
use Rattle.statetable.specs.Build.{Buffers, limits_of, turned_away}
use Rattle.statetable.specs.declared.records.Tally.{Tally}
use Rattle.statetable.specs.declared.call.Named.{Named}
use Rattle.statetable.specs.declared.refusal.BuildRefusal.{BuildRefusal}

-- a good block, and no 7
pub record Roomy (b : List ℕ) (n : Named) (l : Buffers) : Type 0 where
  pub good : Good b
  pub room : turned_away b n l ≡ 0

-- ---- tables, marks and lists of a graph that lies in the buffers, in rooms that the named sizes fit
pub record ForTabulate (b : List ℕ) (n : Named) (states : ℕ) (items spans edges closed actions gotos offered shifts cores only rr sr : List ℕ) (ss : List State) : Type 0 where
  pub good : Good b
  pub graph : GraphIn b ss items spans edges
  pub number : states ≡ length ss
  pub fit : states ≤ n.states
  pub states-fair : n.states ≤ STATES
  pub items-fair : n.items ≤ ITEMS
  pub rr-fair : n.rr ≤ RECORDS
  pub sr-fair : n.sr ≤ RECORDS
  pub items-room : item_part (limits_of n) ≤ length items
  pub spans-room : span_part (limits_of n) ≤ length spans
  pub edges_room : edge_part b (limits_of n) ≤ length edges
  pub closed-room : closed_part b ≤ length closed
  pub actions-room : n.states * tokens b ≤ length actions
  pub gotos-room : n.states * rules b ≤ length gotos
  pub offered-room : n.states * tokens b ≤ length offered
  pub shifts-room : n.states * tokens b ≤ length shifts
  pub cores-room : n.states * prods b ≤ length cores
  pub only-room : n.states ≤ length only
  pub rr-room : RR * n.rr ≤ length rr
  pub sr-room : SR * n.sr ≤ length sr

-- the graph stays, unless the filling had to stop
abbrev pub kept_or : {A : Type 0} → Answer A → ℕ → List ℕ → List ℕ
kept_or (is d) n before = before
kept_or (refused why) n before = zeroed n before

pub record Tabulated (a : Answer Rows) (b : List ℕ) (n : Named) (ss : List State) (r : Result Tally BuildRefusal) (items spans edges actions gotos offered shifts cores only rr sr items' spans' edges' actions' gotos' offered' shifts' cores' only' rr' sr' : List ℕ) : Type 0 where
  pub tally : TallyBy a r
  pub items-are : items' ≡ kept_or a (item_part (limits_of n)) items
  pub spans-are : spans' ≡ kept_or a (span_part (limits_of n)) spans
  pub edges_are : edges' ≡ kept_or a (edge_part b (limits_of n)) edges
  pub actions-are : actions' ≡ given a (n.states * tokens b) (λ d. flat d.cells) actions
  pub gotos-are : gotos' ≡ given a (n.states * rules b) (λ d. goto_words b ss) gotos
  pub offered-are : offered' ≡ given a (n.states * tokens b) (λ d. flat d.offered) offered
  pub shifts-are : shifts' ≡ given a (n.states * tokens b) (λ d. map shift_mark (flat d.cells)) shifts
  pub cores-are : cores' ≡ given a (n.states * prods b) (λ d. each (core_marks (prods b)) d.cells) cores
  pub only-are : only' ≡ given a n.states (λ d. map (reduce_only (prods b)) d.cells) only
  pub rr-are : rr' ≡ given a (RR * n.rr) (λ d. each words_rr d.told.rr) rr
  pub sr-are : sr' ≡ given a (SR * n.sr) (λ d. each words_sr d.told.sr) sr
