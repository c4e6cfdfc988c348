-- `one_round` meets its contract: after p productions the array is `up_to p` of what it was. Assumes nothing.
use Rattle.std.proofs.Common.{List, ◌≡◌, length}
use Rattle.block.specs.Block as header
use Rattle.block.specs.First.{Ahead}
use Rattle.block.specs.Firsts.{AheadsAre, Rounded}
use Rattle.block.proofs.AheadRounds.{up_to}
use Rattle.block.proofs.lookahead.one_round.Given as goal

abbrev pub invariant-loop-p : goal.invariant-loop-p
invariant-loop-p l =
    (F : List Ahead) → length F ≡ header.rules l.grammar.words.now → AheadsAre l.initial.aheads F → Rounded F (up_to l.grammar.words.now l.p F) l.grew l.aheads
