-- `body` meets its contract. Assumes nothing.
use Rattle.std.proofs.Common.{sym, ◌∙◌}
use Rattle.block.specs.Bodies.{body_number}
use Rattle.block.proofs.Ways.{body-some, part_none, part-is}
use Rattle.block.proofs.queries.body.Goals as goal

pub returns-in-Ok : goal.returns-in-Ok
returns-in-Ok c = c.in-Ok.ensures.part ∙ part-is c.args.words.now c.args.p (sym c.in-Ok.ensures.refusal)

pub returns-in-Err : goal.returns-in-Err
returns-in-Err c =
    part_none c.args.words.now c.args.p (body_number c.in-Err.field-0) c.in-Err.ensures.refusal (body-some c.in-Err.field-0)
