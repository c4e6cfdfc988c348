-- `block_holds` compares the number of the block that was read. Assumes nothing.
use Rattle.std.proofs.Common.{ap, length}
use Rattle.listed_block.specs.Rooms.{BLOCK}
use Rattle.words.proofs.GivenLaws.{case-none, case-by, case-not}
use Rattle.listed_block.proofs.Expected.{one-expected}
use Rattle.listed_block.proofs.cases.block_holds.Goals as goal

pub returns-in_default : goal.returns-in_default
returns-in_default c = case-none BLOCK c.args.words.now c.in_default.ensures

pub returns-then-expected-ne1 : goal.returns-then-expected-ne1
returns-then-expected-ne1 c =
    let i = c.in-Some in
    case-not BLOCK c.args.words.now i.block.now i.expected.now i.ensures (λ e. c.if-expected-ne1.true (ap length e))

pub returns : goal.returns
returns c =
    let i = c.in-Some in
    case-by BLOCK c.args.words.now i.block.now i.expected.now i.ensures (one-expected i.expected.now c.refusal.result _ c.refusal.ensures c.if-expected-ne1.false)
