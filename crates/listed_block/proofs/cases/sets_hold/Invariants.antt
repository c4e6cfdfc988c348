-- `sets_hold` takes the words of set after set. Assumes nothing.
use Rattle.listed_block.proofs.AheadLaws.{Left}
use Rattle.listed_block.proofs.cases.sets_hold.Given as goal

abbrev pub invariant-loop-ahead : goal.invariant-loop-ahead
invariant-loop-ahead l = Left l.aheads l.ahead-index l.words l.rest
