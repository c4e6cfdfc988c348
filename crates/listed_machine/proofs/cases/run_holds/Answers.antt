-- `run_holds` reads the block, and its tables decide. Assumes nothing.
use Rattle.words.proofs.GivenLaws.{case-none, case-by}
use Rattle.listed_block.specs.Rooms.{BLOCK}
use Rattle.listed_machine.proofs.cases.run_holds.Goals as goal

pub returns-in_default : goal.returns-in_default
returns-in_default c = case-none BLOCK c.args.words.now c.in_default.ensures

pub returns : goal.returns
returns c =
    let i = c.in-Some in
    case-by BLOCK c.args.words.now i.block.now i.rest.now i.ensures c.tables_hold.ensures
