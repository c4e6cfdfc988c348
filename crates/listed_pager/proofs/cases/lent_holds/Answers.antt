-- `lent_holds` lends the fronts of its rooms, if they are large enough. Assumes nothing.
use mathlib.Core.Path.{ap, refl, ◌∙◌}
use lib.ListN.{replicate}
use Rattle.words.proofs.PartLaws.{part-tail}
use Rattle.pager.specs.Call.{named}
use Rattle.listed_block.specs.Rooms.{bounded_of}
use Rattle.listed_pager.proofs.GraphLaws.{by_lengths}
use Rattle.listed_pager.proofs.cases.lent_holds.Goals as goal

pub returns : goal.returns
returns c =
    let a = c.args in
    by_lengths a.block.now (named a.given.states a.given.most) a.given.fill a.rest.now
    c.work_of-work.result c.work_of-work.ensures (replicate 16384 a.given.fill) refl _ _ _ _ _ _
    (c.bounded.ensures.bounded ∙ ap bounded_of c.index.ensures)
    (c.bounded-2.ensures.bounded ∙ ap bounded_of c.index-2.ensures)
    (c.bounded-3.ensures.bounded ∙ ap bounded_of c.index-3.ensures)
    c.lent.ensures.lent
    c.lent-2.ensures.lent
    c.lent-3.ensures.lent
    c.if-rest-lt3.false
    c.if-work-gt-ROOM.false
    _
    (part-tail 3 a.rest.now)
    c.call_holds.ensures
