-- `call::run_from` meets its contract. Assumes nothing.
use Rattle.std.proofs.Common.{◌-◌}
use Rattle.machine.proofs.Running.{Running}
use Rattle.machine.proofs.call.run_from.Given as goal

abbrev pub invariant-loop-run : goal.invariant-loop-run
invariant-loop-run l = Running l.tables.grammar.words.now l.tables.states l.tables.actions.now l.tables.gotos.now l.input l.limit l.initial.stack l.initial.output l.stack l.output l.run

abbrev pub decreases-loop-run : goal.decreases-loop-run
decreases-loop-run l = l.limit - l.run.steps
