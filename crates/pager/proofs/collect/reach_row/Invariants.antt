-- The targets of the edges so far are marked. Assumes nothing.
use Rattle.std.proofs.Common.{take}
use Rattle.pager.specs.Collecting.{RowReached}
use Rattle.pager.proofs.collect.reach_row.Given as goal

abbrev pub invariant-loop-edge : goal.invariant-loop-edge
invariant-loop-edge l = RowReached (take l.edge-index l.row) l.initial.marks l.height l.marks l.h
