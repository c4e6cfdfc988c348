-- `TokenSet::empty` meets its contract. Assumes nothing.
use Rattle.std.proofs.Common.{refl}
use Rattle.block.specs.Sets.{empty}
use Rattle.block.proofs.SetLaws.{mem-empty}
use Rattle.block.proofs.set.TokenSet.empty.Goals as goal

pub returns-clause-words : goal.returns-clause-words
unfolding empty
returns-clause-words c = refl

pub returns-clause-members : goal.returns-clause-members
unfolding empty
returns-clause-members c = mem-empty
