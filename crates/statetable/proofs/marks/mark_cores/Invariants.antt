-- `marks::mark_cores` meets its contract. Assumes nothing.
use Rattle.std.proofs.Common.{◌≡◌, length, take}
use Rattle.statetable.specs.Marks.{core_marks}
use Rattle.statetable.proofs.marks.mark_cores.Given as goal

abbrev pub invariant-loop-cell : goal.invariant-loop-cell
invariant-loop-cell l = l.cores ≡ core_marks (length l.initial.cores) (take l.cell-index l.cells)
