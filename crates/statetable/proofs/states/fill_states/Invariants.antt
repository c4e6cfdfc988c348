-- `states::fill_states` meets its contract. Assumes nothing.
use Rattle.std.proofs.Common.{List}
use Rattle.pager.specs.Place.{State}
use Rattle.statetable.specs.ForTables.{ForStates}
use Rattle.statetable.proofs.RowByRow.{Upto}
use Rattle.statetable.proofs.states.fill_states.Given as goal

abbrev pub invariant-loop-s : goal.invariant-loop-s
invariant-loop-s l =
    (ss : List State) → ForStates l.firsts.grammar.words.now l.caps l.states l.items l.spans l.edges l.initial.closed l.initial.actions l.initial.offered l.initial.rr l.initial.sr ss
    → Upto l.firsts.grammar.words.now l.caps l.states ss l.s l.n l.actions l.offered l.rr l.sr
