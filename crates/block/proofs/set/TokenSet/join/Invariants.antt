-- The first i words of the other are joined. Assumes nothing.
use Rattle.std.proofs.Common.{◌≡◌, take}
use Rattle.block.specs.Sets.{join}
use Rattle.block.proofs.set.TokenSet.join.Given as goal

abbrev pub invariant-loop-i : goal.invariant-loop-i
invariant-loop-i l = l.set.words ≡ join l.initial.set.words (take l.i l.other.words)
