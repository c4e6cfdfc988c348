-- The marks of the first s states are numbers. Assumes nothing.
use Rattle.std.proofs.Common.{arith}
use Rattle.pager.proofs.Collecting.Numbering.{number-none, number_small, number-all, number-marked, number-unmarked}
use Rattle.pager.proofs.collect.renumber.Goals as goal
use Rattle.pager.proofs.collect.renumber.Goals.{then-marks-s-ne0, else-marks-s-ne0}

pub loop-s-init : goal.loop-s-init
loop-s-init c = number-none c.args.marks.now

pub overflow_add-kept : goal.overflow_add-kept
overflow_add-kept c =
    let l = c.loop-s in
    record { fits = omega (arith, number_small c.args.marks.now l.marks l.kept l.s l.invariant) }

pub loop-s-preserved : goal.loop-s-preserved
loop-s-preserved c =
    let l = c.loop-s in
    elim c.if-marks-s-ne0.branch [
      | then-marks-s-ne0 w ↦ rw (w.marks-is, w.kept-is) (number-marked c.args.marks.now l.marks l.kept l.s l.invariant (omega arith) w.if-marks-s-ne0.true)
      | else-marks-s-ne0 w ↦ rw (w.marks-is, w.kept-is) (number-unmarked c.args.marks.now l.marks l.kept l.s l.invariant (omega arith) w.if-marks-s-ne0.false)
    ]

pub returns : goal.returns
returns c = let l = c.loop-s in number-all c.args.marks.now l.marks l.kept l.s l.invariant (omega arith)
