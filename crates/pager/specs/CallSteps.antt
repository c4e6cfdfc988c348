-- What the steps of the call `graph` ask and leave. Assumes nothing.
use Rattle.std.specs.Prelude.{Result, List, ◌++◌, ◌≡◌, ℕ, ◌+◌, ◌≤◌, length, drop, replicate}
use Rattle.block.specs.Block.{tokens, rules}
use Rattle.block.specs.Refusal.{Good}
use Rattle.pager.specs.Lists.{Answer}
use Rattle.pager.specs.Place.{State, Limits}
use Rattle.pager.specs.Memory.{item_words, spans_from, edge_words}
use Rattle.pager.specs.Held.{Fair, Behind, limits_of}
use Rattle.pager.specs.Building.{BuiltBy}
use Rattle.pager.specs.Call.{Buffers, item_part, span_part, edge_part, mark_part, closed_part, kernel_part, counted, answer_of, output}
use Rattle.pager.specs.declared.room.Room.{Room}
use Rattle.pager.specs.declared.room.Count.{Count}
use Rattle.pager.specs.declared.refusal.GraphRefusal.{GraphRefusal}
use Rattle.pager.specs.declared.call.Kept.{Kept}

-- a good block, and no 7
pub record Roomy (b : List ℕ) (room : Room) (l : Buffers) : Type 0 where
  pub good : Good b
  pub fair : Fair (limits_of room)
  pub some-states : 1 ≤ room.states
  pub some-items : 1 ≤ room.items
  pub items : item_part (limits_of room) ≤ length l.items
  pub spans : span_part (limits_of room) ≤ length l.spans
  pub edges : edge_part b (limits_of room) ≤ length l.edges
  pub marks : mark_part (limits_of room) ≤ length l.marks
  pub closed : closed_part b ≤ length l.closed
  pub kernel : kernel_part b ≤ length l.kernel

-- what stands behind the named parts
abbrev pub behind_of : List ℕ → Limits → List ℕ → List ℕ → List ℕ → List ℕ → Behind
behind_of b m items spans edges marks =
    record { items = drop (item_part m) items; spans = drop (span_part m) spans; edges = drop (edge_part b m) edges; marks = drop (mark_part m) marks }

-- what `finish` speaks of and is not lent: the block, what the graph is, and what stands behind
pub record Outcome : Type 0 where
  pub block : List ℕ
  pub graph : Answer (List State)
  pub behind : Behind

pub record Unfinished (room : Room) (width : ℕ) (made : Result Count GraphRefusal) (items spans edges marks : List ℕ) (v : Outcome) : Type 0 where
  pub fair : Fair (limits_of room)
  pub width_is : width ≡ rules v.block + tokens v.block
  pub built : BuiltBy v.graph v.block room made items spans edges marks v.behind

pub record Finished (room : Room) (r : Result Kept GraphRefusal) (items spans edges marks : List ℕ) (v : Outcome) : Type 0 where
  pub answer : answer_of r ≡ counted v.graph
  pub items-are : items ≡ output v.graph (item_part (limits_of room)) item_words ++ v.behind.items
  pub spans-are : spans ≡ output v.graph (span_part (limits_of room)) (spans_from 0) ++ v.behind.spans
  pub edges_are : edges ≡ output v.graph (edge_part v.block (limits_of room)) edge_words ++ v.behind.edges
  pub marks-are : marks ≡ replicate (mark_part (limits_of room)) 0 ++ v.behind.marks
