-- `Firsts::new` meets its contract: the array goes side by side with the rule's rounds. Assumes nothing.
use Rattle.block.proofs.AheadRounds.{Rounds, room}
use Rattle.block.proofs.lookahead.Firsts.new.Given as goal

abbrev pub invariant-loop : goal.invariant-loop
invariant-loop l = Rounds l.grammar.words.now l.rules

abbrev pub decreases-loop : goal.decreases-loop
decreases-loop l = room l.grammar.words.now l.rules
