-- `graph_holds` reads the block, the named sizes and the fill. Assumes nothing.
use Rattle.std.proofs.Common.{arith}
use Rattle.words.proofs.PartLaws.{part-tail}
use Rattle.words.proofs.GivenLaws.{case-by, case-not}
use Rattle.listed_block.specs.Rooms.{BLOCK}
use Rattle.listed_pager.proofs.GraphLaws.{not-asked, wide-fill, by-asked}
use Rattle.listed_pager.proofs.cases.graph_holds.Goals as goal

pub returns-then-rest-lt3 : goal.returns-then-rest-lt3
returns-then-rest-lt3 c =
    let i = c.in-Some in
    case-not BLOCK c.args.words.now i.block.now i.rest.now i.ensures (not-asked _ i.rest.now c.if-rest-lt3.true)

pub returns-in_default-try_from : goal.returns-in_default-try_from
returns-in_default-try_from c =
    let i = c.in-Some in
    case-not BLOCK c.args.words.now i.block.now i.rest.now i.ensures (wide-fill _ i.rest.now (omega (arith, c.in_default-try_from.ensures)))

pub returns : goal.returns
returns c =
    let i = c.in-Some in
    let f = c.in-Ok.ensures in
    case-by BLOCK c.args.words.now i.block.now i.rest.now i.ensures
    (by-asked _ i.rest.now c.if-rest-lt3.false _ _ _ _ c.index.ensures c.index-2.ensures f.1 (part-tail 3 i.rest.now) (omega (arith, f.0, f.1)) c.lent_holds.ensures)
