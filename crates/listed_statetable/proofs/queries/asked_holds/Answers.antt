-- `asked_holds` reads the block and the count of states. Assumes nothing.
use Rattle.std.proofs.Common.{◌≡◌, ◌≤◌, false, sym, length, arith}
use borrow.Author.Tests.{eqb-true, eqb-false}
use lib.Dec.{eqb}
use Rattle.listed_block.specs.Rooms.{BLOCK}
use Rattle.words.proofs.GivenLaws.{case-by, case-not}
use Rattle.listed_statetable.proofs.Heads.{table-some, table-by}
use Rattle.listed_statetable.proofs.queries.asked_holds.Goals as goal

pub returns-then-is_empty : goal.returns-then-is_empty
returns-then-is_empty c =
    let i = c.in-Some in
    case-not BLOCK c.args.words.now i.block.now i.rest.now i.ensures
    (λ g. omega (arith, table-some c.args.kind _ i.rest.now g, eqb-true _ _ (sym c.if-is_empty.ensures)))

pub returns : goal.returns
returns c =
    let i = c.in-Some in
    let s = c.index in
    let l : 1 ≤ length i.rest.now = omega (arith, eqb-false _ _ (sym c.if-is_empty.ensures)) in
    case-by BLOCK c.args.words.now i.block.now i.rest.now i.ensures
    (table-by c.args.kind _ i.rest.now s.result s.ensures l c.word_holds.ensures)
