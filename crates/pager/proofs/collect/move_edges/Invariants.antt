-- The first i edges are moved. Assumes nothing.
use Rattle.std.proofs.Common.{◌≡◌, map, drop}
use lib.Seq.{paste}
use Rattle.pager.specs.Collecting.{number_in}
use Rattle.pager.proofs.collect.move_edges.Given as goal

abbrev pub invariant-loop-i : goal.invariant-loop-i
invariant-loop-i l = l.edges ≡ paste l.initial.edges l.b (map (number_in l.marks) (drop l.a l.initial.edges)) l.i
