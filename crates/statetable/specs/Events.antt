-- What a state calls for, in the order in which its cells are filled: complete items ascend, and their tokens; then token edges ascend. Assumes nothing.
use Rattle.std.specs.Prelude.{List, [], ◌∷◌, ◌++◌, map, ℕ, zero, suc, ◌/◌, drop}
use Rattle.block.specs.Limits.{DOTS}
use Rattle.block.specs.Block.{tokens, rules}
use Rattle.block.specs.Sets.{members}
use Rattle.block.specs.First.{Ahead}
use Rattle.itemset.specs.Rows.{Row, row}
use Rattle.itemset.specs.Close.{rest_of, close_of}
use Rattle.pager.specs.Lists.{each}
use Rattle.pager.specs.Place.{State}

-- At token t production p is complete, or an edge leads to state u.
pub data Event : Type 0 where
  completes : (t p : ℕ) → Event
  leads : (t u : ℕ) → Event

-- an item with the rest of its body and its context: a complete one at each of its tokens
abbrev pub completed : List ℕ → ℕ → List ℕ → List Event
completed [] p ts = map (λ t. completes t p) ts
completed (x ∷ w) p ts = []

unfoldable pub of_row : List ℕ → Row → List Event
of_row b (row i c) = completed (rest_of b i) (i / DOTS) (members (tokens b) c)

-- the token edges, the first of them that of token t
unfoldable pub of_edges : ℕ → List ℕ → List Event
of_edges t [] = []
of_edges t (zero ∷ es) = of_edges (suc t) es
of_edges t (suc u ∷ es) = leads t u ∷ of_edges (suc t) es

unfoldable pub events_of : List ℕ → List Ahead → State → List Event
events_of b F st = each (of_row b) (close_of b F st.rows) ++ of_edges 0 (drop (rules b) st.edges)
