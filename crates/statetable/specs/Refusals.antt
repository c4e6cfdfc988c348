-- The number of a refusal of the call `build`, and its values. Assumes nothing.
use Rattle.std.specs.Prelude.{List, [], ◌∷◌, ℕ, suc, Option, Some, None}
use Rattle.block.specs.Refused as block
use Rattle.pager.specs.declared.refusal.GraphRefusal.{GraphRefusal}
use Rattle.pager.specs.declared.refusal.GraphRefusal.TheVariants as graph
use Rattle.statetable.specs.declared.refusal.BuildRefusal.{BuildRefusal}
use Rattle.statetable.specs.declared.refusal.BuildRefusal.TheVariants.{Block, RoomShort, StateRoom, ItemRoom, ConflictRoom, AcceptReduce, MixedKinds}

abbrev pub number_of : BuildRefusal → ℕ
number_of (Block e) = block.number_of e
number_of RoomShort = 7
number_of StateRoom = 8
number_of ItemRoom = 9
number_of ConflictRoom = 10
number_of (AcceptReduce there p) = 11
number_of (MixedKinds t p s) = 12

-- the reduce that was there and one more, or 0 where accept was
abbrev pub there_of : Option ℕ → ℕ
there_of (Some r) = suc r
there_of None = 0

-- the number with what is told beside it: of 11 the reduce that was there, as above, and the production that came; of 12 token, production, state
abbrev pub values_of : BuildRefusal → List ℕ
values_of (Block e) = block.number_of e ∷ []
values_of RoomShort = 7 ∷ []
values_of StateRoom = 8 ∷ []
values_of ItemRoom = 9 ∷ []
values_of ConflictRoom = 10 ∷ []
values_of (AcceptReduce there p) = 11 ∷ there_of there ∷ p ∷ []
values_of (MixedKinds t p s) = 12 ∷ t ∷ p ∷ s ∷ []

-- a refusal of the graph is one of the build
abbrev pub of_graph : GraphRefusal → BuildRefusal
of_graph (graph.Block e) = Block e
of_graph graph.RoomShort = RoomShort
of_graph graph.StateRoom = StateRoom
of_graph graph.ItemRoom = ItemRoom
