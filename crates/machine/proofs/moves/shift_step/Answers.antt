-- `moves::shift_step` meets its contract. Assumes nothing.
use Rattle.machine.proofs.Shifts.{shift-goes}
use Rattle.machine.proofs.moves.shift_step.Goals as goal

pub returns : goal.returns
returns c = λ block actions gotos output old d G T e R. shift-goes G T e _ c.if-states-to.false d R c.if-input-run.false c.if-stack-h.false
