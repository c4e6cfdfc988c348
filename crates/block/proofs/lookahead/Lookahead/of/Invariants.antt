-- `Lookahead::of` meets its contract: the walk of proofs/AheadRest. Assumes nothing.
use Rattle.block.proofs.AheadRest.{Passed}
use Rattle.block.proofs.lookahead.Lookahead.of.Given as goal

abbrev pub invariant-loop-symbol : goal.invariant-loop-symbol
invariant-loop-symbol l = Passed l.rest l.aheads l.set.words l.symbol-index
