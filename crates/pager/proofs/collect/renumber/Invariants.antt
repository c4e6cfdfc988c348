-- The marks of the first s states are numbers. Assumes nothing.
use Rattle.pager.proofs.Collecting.Numbering.{Numbering}
use Rattle.pager.proofs.collect.renumber.Given as goal

abbrev pub invariant-loop-s : goal.invariant-loop-s
invariant-loop-s l = Numbering l.initial.marks l.marks l.kept l.s
