-- `tables_hold` reads the number of states and the actions, and what follows decides. Assumes nothing.
use Rattle.std.proofs.Common.{sym, ap, ◌∙◌, ◌∷◌}
use Rattle.words.proofs.GivenLaws.{case-none, case-by}
use Rattle.listed_block.specs.Rooms.{BLOCK}
use Rattle.listed_machine.proofs.TablesLaws.{tables-by}
use Rattle.listed_machine.proofs.cases.tables_hold.Goals as goal

pub returns-in_default-given : goal.returns-in_default-given
returns-in_default-given c =
    let i = c.in-Some in
    tables-by c.args.block.now c.args.rest.now i.states.now i.tables.now i.ensures.cases.0 (case-none BLOCK i.tables.now c.in_default-given.ensures)

pub returns : goal.returns
returns c =
    let i = c.in-Some in
    let j = c.in-Some-given in
    tables-by c.args.block.now c.args.rest.now c.index.result i.tables.now (i.ensures.cases.0 ∙ ap (λ x. x ∷ i.tables.now) (sym c.index.ensures))
    (case-by BLOCK i.tables.now j.actions.now j.last.now j.ensures c.input_holds.ensures)
