-- `settle` meets its contract: the laws of proofs/Work/Turns. Assumes nothing.
use Rattle.std.proofs.Common.{List}
use Rattle.itemset.specs.Rows.{Row}
use Rattle.itemset.specs.Work.{Worked}
use Rattle.itemset.proofs.Work.Weight.{weight}
use Rattle.itemset.proofs.closure.Closure.settle.Given as goal

abbrev pub invariant-loop-p : goal.invariant-loop-p
invariant-loop-p l = (K : List Row) → Worked l.firsts.grammar.words.now K l.initial.self → Worked l.firsts.grammar.words.now K l.self

abbrev pub decreases-loop-p : goal.decreases-loop-p
decreases-loop-p l = weight l.firsts.grammar.words.now l.self
