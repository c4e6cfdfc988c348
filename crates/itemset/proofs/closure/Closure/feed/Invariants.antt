-- `feed` meets its contract: the laws of proofs/Work/Feeding. Assumes nothing.
use Rattle.itemset.specs.Work.{Fed}
use Rattle.itemset.proofs.closure.Closure.feed.Given as goal

abbrev pub invariant-loop-p : goal.invariant-loop-p
invariant-loop-p l = Fed l.grammar.words.now l.rule l.tokens.words l.p l.initial.self l.self
