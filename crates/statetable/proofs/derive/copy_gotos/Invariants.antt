-- `derive::copy_gotos` meets its contract. Assumes nothing.
use Rattle.std.proofs.Common.{List}
use Rattle.pager.specs.Place.{State}
use Rattle.statetable.specs.ForTables.{ForGotos}
use Rattle.statetable.proofs.Copying.{Copying}
use Rattle.statetable.proofs.derive.copy_gotos.Given as goal

abbrev pub invariant-loop-s : goal.invariant-loop-s
invariant-loop-s l = (ss : List State) (H : ForGotos l.grammar.words.now l.states l.edges l.initial.gotos ss) → Copying H l.s l.gotos
