-- `marks::mark_cores` meets its contract. Assumes nothing.
use Rattle.std.proofs.Common.{ap, ◌∙◌, ◌/◌, length, get_or, set}
use Rattle.statetable.proofs.CoreMarks.{core-none, core-skip, core-next}
use Rattle.statetable.proofs.marks.mark_cores.Goals as goal
use Rattle.statetable.proofs.marks.mark_cores.Goals.{then-cell-eq2, else-cell-eq2}

pub loop-cell-init : goal.loop-cell-init
loop-cell-init c = c.requires.clear ∙ core-none (length c.args.cores.now)

pub loop-cell-preserved : goal.loop-cell-preserved
loop-cell-preserved c =
    let l = c.loop-cell in
    let cells = c.args.cells.now in
    let P = length c.args.cores.now in
    let t = c.loop-cell-test.true in
    elim c.if-cell-eq2.branch [
      | then-cell-eq2 w ↦ w.cores-is
          ∙ ap (λ t. set t (get_or cells l.cell-index 0 / 4) 1) l.invariant
          ∙ core-next P cells l.cell-index t w.if-cell-eq2.true (c.requires.inside l.cell-index t w.if-cell-eq2.true)
      | else-cell-eq2 w ↦ w.cores-is ∙ l.invariant ∙ core-skip P cells l.cell-index t w.if-cell-eq2.false
    ]
