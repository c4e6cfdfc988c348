-- `marks::mark_states` meets its contract. Assumes nothing.
use Rattle.std.proofs.Common.{List, ℕ}
use Rattle.statetable.specs.ForTables.{ForMarks}
use Rattle.statetable.proofs.Marking.{Marking}
use Rattle.statetable.proofs.marks.mark_states.Given as goal

abbrev pub invariant-loop-s : goal.invariant-loop-s
invariant-loop-s l = (rs : List (List ℕ)) → ForMarks l.grammar.words.now l.states l.actions l.initial.cores l.initial.only rs → Marking l.grammar.words.now l.initial.cores rs l.s l.cores l.only
