-- `marks_hold` compares mark after mark. Assumes nothing.
use Rattle.std.proofs.Common.{◌≡◌, take}
use Rattle.listed_block.specs.Aheads.{marks_of}
use Rattle.listed_block.proofs.cases.marks_hold.Given as goal

abbrev pub invariant-loop-i : goal.invariant-loop-i
invariant-loop-i l = take l.i l.marks ≡ marks_of (take l.i l.aheads)
