-- The actions that the code names, as the theory has them. Assumes nothing.
use Rattle.knuth.specs.Tables as theory
use Rattle.statetable.specs.declared.cell.Action.{Action}
use Rattle.statetable.specs.declared.cell.Action.TheVariants.{Error, Shift, Reduce, Accept}

abbrev pub action_of : Action → theory.Action
action_of Error = theory.Action.error
action_of (Shift s) = theory.Action.shift s
action_of (Reduce p) = theory.Action.reduce p
action_of Accept = theory.Action.accept
