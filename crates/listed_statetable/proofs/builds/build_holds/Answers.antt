-- `build_holds` reads the block and five numbers. Assumes nothing.
use Rattle.std.proofs.Common.{arith}
use Rattle.words.proofs.GivenLaws.{case-by, case-not}
use Rattle.listed_block.specs.Rooms.{BLOCK}
use Rattle.listed_statetable.proofs.BuildCases.{asked-enough, asked_by}
use Rattle.listed_statetable.proofs.builds.build_holds.Goals as goal

pub returns-then-rest-lt5 : goal.returns-then-rest-lt5
returns-then-rest-lt5 c =
    let i = c.in-Some in
    case-not BLOCK c.args.words.now i.block.now i.rest.now i.ensures (λ g. omega (arith, asked-enough _ i.rest.now g, c.if-rest-lt5.true))

pub returns : goal.returns
returns c =
    let i = c.in-Some in
    case-by BLOCK c.args.words.now i.block.now i.rest.now i.ensures
    (asked_by _ i.rest.now c.index.ensures c.index-2.ensures c.index-3.ensures c.index-4.ensures c.if-rest-lt5.false c.lent_holds.ensures)
