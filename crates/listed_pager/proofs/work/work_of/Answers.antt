-- `work_of` reads the sizes of a good block. Assumes nothing.
use Rattle.std.proofs.Common.{sym, ap, ◌∙◌}
use Rattle.block.specs.Block.{symbols, prods}
use Rattle.listed_pager.proofs.WorkLaws.{work-bad, work-good, refused}
use Rattle.listed_pager.proofs.work.work_of.Goals as goal

pub returns-in_default : goal.returns-in_default
returns-in_default c =
    work-bad c.args.block.now c.args.states _ c.bounded-marks.ensures.bounded (λ z. refused c.in_default.field-0 (c.in_default.ensures.refusal ∙ z))

pub returns : goal.returns
returns c =
    let w = c.in-Ok.ensures.words in
    work-good c.args.block.now c.args.states _ c.bounded-marks.ensures.bounded _ _ (sym c.in-Ok.ensures.refusal)
    (c.symbols-symbols.ensures ∙ ap symbols w) (c.productions-prods.ensures ∙ ap prods w)
