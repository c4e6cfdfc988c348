-- What the calls that fill cells are lent. Assumes nothing.
use Rattle.std.specs.Prelude.{List, ◌≡◌, ℕ, ◌+◌, ◌*◌, ◌≤◌, ◌<◌, length, get_or, replicate}
use Rattle.block.specs.Limits.{ITEM}
use Rattle.block.specs.Block.{tokens, rules, prods, symbols}
use Rattle.block.specs.Refusal.{Good}
use Rattle.itemset.specs.Rows.{Row, Rows, words_of}
use Rattle.pager.specs.Place.{State}
use Rattle.pager.specs.Held.{STATES}
use Rattle.statetable.specs.Cells.{Told}
use Rattle.statetable.specs.Laid.{Listed}
use Rattle.statetable.specs.declared.records.Caps.{Caps}
use Rattle.statetable.specs.declared.records.Tally.{Tally}

-- rows of a good block
pub record ForRow (b closed : List ℕ) (C : List Row) : Type 0 where
  pub rows : Rows b C
  pub words : closed ≡ words_of C

-- an edge word for each token: none, or a state
pub record ForEdges (b edges : List ℕ) : Type 0 where
  pub width : length edges ≡ tokens b
  pub edge : (t : ℕ) → get_or edges t 0 ≤ STATES

-- what filling asks of a state, however the graph was made
pub record Fillable (b : List ℕ) (st : State) : Type 0 where
  pub rows : Rows b st.rows
  pub width : length st.edges ≡ rules b + tokens b
  pub edge : (i : ℕ) → get_or st.edges i 0 ≤ STATES

-- state s, whose row is still empty
pub record ForState (b : List ℕ) (m : Caps) (s : ℕ) (kernel edges closed : List ℕ) (n : Tally) (cells offered rr sr : List ℕ) (st : State) (k : Told) : Type 0 where
  pub good : Good b
  pub state : s < STATES
  pub fillable : Fillable b st
  pub words : kernel ≡ words_of st.rows
  pub edges_are : edges ≡ st.edges
  pub room : ITEM * (symbols b + prods b) ≤ length closed
  pub cells_are : cells ≡ replicate (tokens b) 0
  pub offered-are : offered ≡ replicate (tokens b) 0
  pub listed : Listed m k n rr sr
  pub count : k.count ≤ s * tokens b
