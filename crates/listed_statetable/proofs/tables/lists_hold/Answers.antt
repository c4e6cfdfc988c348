-- `lists_hold` compares two parts, and finds nothing behind them. Assumes nothing.
use mathlib.Core.Path.{refl}
use Rattle.words.proofs.Answers.{fails}
use Rattle.words.proofs.GivenLaws.{begins-part}
use Rattle.listed_statetable.proofs.PartLists.{second-of-two}
use Rattle.listed_statetable.proofs.tables.lists_hold.Goals as goal

pub returns-then-not-begins : goal.returns-then-not-begins
returns-then-not-begins c =
    let a = c.args in
    fails _ c.begins.ensures c.if-not-begins.true (begins-part a.expected.now a.rr.now _)

pub returns-then-not-begins-2 : goal.returns-then-not-begins-2
returns-then-not-begins-2 c =
    let a = c.args in
    let n = c.behind-next in
    fails _ c.begins-2.ensures c.if-not-begins-2.true (second-of-two a.expected.now n.result.now _ a.rr.now a.sr.now n.ensures refl)
