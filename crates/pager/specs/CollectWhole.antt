-- What a call of `collect_states` speaks of: the buffers hold the states that were built, and then those that are kept. Assumes nothing.
use Rattle.std.specs.Prelude.{List, ◌++◌, ◌≡◌, ℕ, ◌+◌, ◌*◌, replicate}
use Rattle.block.specs.Limits.{ITEM}
use Rattle.block.specs.Block.{tokens, rules}
use Rattle.pager.specs.Place.{State, Limits}
use Rattle.pager.specs.Collect.{collect_of}
use Rattle.pager.specs.Memory.{pad, item_words, spans_from, edge_words}
use Rattle.pager.specs.Held.{Fair, Behind, Held, count_of}
use Rattle.pager.specs.declared.room.Count.{Count}

-- what is not lent
pub record Whole : Type 0 where
  pub limits : Limits
  pub block : List ℕ
  pub states : List State
  pub behind : Behind

pub record Built (counts : Count) (width : ℕ) (items spans edges marks : List ℕ) (v : Whole) : Type 0 where
  pub fair : Fair v.limits
  pub held : Held v.block v.limits v.states v.behind items spans edges marks
  pub counts-are : counts ≡ count_of v.states
  pub width_is : width ≡ rules v.block + tokens v.block

pub record Collected (r : Count) (items spans edges marks : List ℕ) (v : Whole) : Type 0 where
  pub answer : r ≡ count_of (collect_of v.states)
  pub items-are : items ≡ pad (ITEM * v.limits.items) (item_words (collect_of v.states)) ++ v.behind.items
  pub spans-are : spans ≡ pad (2 * v.limits.states) (spans_from 0 (collect_of v.states)) ++ v.behind.spans
  pub edges_are : edges
      ≡ pad (v.limits.states * (rules v.block + tokens v.block)) (edge_words (collect_of v.states)) ++ v.behind.edges
  pub marks-are : marks ≡ replicate (2 * v.limits.states) 0 ++ v.behind.marks
