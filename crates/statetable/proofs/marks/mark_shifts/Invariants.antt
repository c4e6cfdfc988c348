-- `marks::mark_shifts` meets its contract. Assumes nothing.
use Rattle.std.proofs.Common.{◌≡◌, map, take}
use Rattle.statetable.specs.Marks.{shift_mark}
use Rattle.statetable.proofs.marks.mark_shifts.Given as goal

abbrev pub invariant-loop-i : goal.invariant-loop-i
invariant-loop-i l = take l.i l.shifts ≡ map shift_mark (take l.i l.cells)
