-- `TokenSet::same` meets its contract: sets of the same words are those of the same members. Assumes nothing.
use Rattle.std.proofs.Common.{sym, ◌∙◌}
use lib.Pointwise.{bytes_decides}
use Rattle.block.specs.Limits.{WORDS}
use Rattle.block.proofs.Owned.{set-good}
use Rattle.block.proofs.SetLaws.{same-members}
use Rattle.block.proofs.set.TokenSet.same.Goals as goal

pub returns-clause-members : goal.returns-clause-members
returns-clause-members c =
    let a = c.args.self in
    let b = c.args.other in
    let told = bytes_decides a.words b.words in
    let m = same-members WORDS a.words b.words (set-good a _ c.well_formed.0) (set-good b _ c.well_formed.1.0) in
    (λ e. m.0 (told.0 (sym c.eq.ensures ∙ e)), λ h. c.eq.ensures ∙ told.1 (m.1 h))
