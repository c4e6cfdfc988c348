-- `input_holds` reads the gotos and the input, and what follows decides. Assumes nothing.
use Rattle.words.proofs.GivenLaws.{case-none, case-by}
use Rattle.listed_block.specs.Rooms.{BLOCK}
use Rattle.listed_machine.proofs.cases.input_holds.Goals as goal

pub returns-in_default : goal.returns-in_default
returns-in_default c = case-none BLOCK c.args.rest.now c.in_default.ensures

pub returns-in_default-given : goal.returns-in_default-given
returns-in_default-given c =
    let i = c.in-Some in
    case-by BLOCK c.args.rest.now i.gotos.now i.next.now i.ensures (case-none BLOCK i.next.now c.in_default-given.ensures)

pub returns : goal.returns
returns c =
    let i = c.in-Some in
    let j = c.in-Some-given in
    case-by BLOCK c.args.rest.now i.gotos.now i.next.now i.ensures
    (case-by BLOCK i.next.now j.input.now j.last.now j.ensures c.lent_holds.ensures)
