-- `lent_holds` lends the fronts of its rooms. Assumes nothing.
use mathlib.Core.Path.{ap, ◌∙◌}
use native.Mathlib.Omega.{arith}
use Rattle.listed_block.specs.Rooms.{bounded_of}
use Rattle.listed_machine.proofs.LentLaws.{lent_by}
use Rattle.listed_machine.proofs.cases.lent_holds.Goals as goal

pub returns : goal.returns
returns c =
    let a = c.args in
    lent_by a.block.now a.states a.actions.now a.gotos.now a.input.now a.rest.now
    c.index.result c.bounded.result c.bounded-2.result 16384
    c.if-rest-lt4.false (omega arith)
    c.index.ensures
    (c.bounded.ensures.bounded ∙ ap bounded_of c.index-2.ensures) c.bounded.ensures.most
    (c.bounded-2.ensures.bounded ∙ ap bounded_of c.index-3.ensures) c.bounded-2.ensures.most
    c.call_holds.ensures
