-- The numbers of the lists, as the list of refusals gives them. Assumes nothing.
use Rattle.std.specs.Prelude.{ℕ}
use Rattle.replay.specs.declared.lists.List.{List}
use Rattle.replay.specs.declared.lists.List.TheVariants.{Blocks, Bodies, Graphs, Tables, Queries, Runs, Firsts, Closures, Refusals}

abbrev pub number_of : List → ℕ
number_of Blocks = 0
number_of Bodies = 1
number_of Graphs = 2
number_of Tables = 3
number_of Queries = 4
number_of Runs = 5
number_of Firsts = 6
number_of Closures = 7
number_of Refusals = 8
