-- `three_begin` compares three parts. Assumes nothing.
use mathlib.Core.List.{[]}
use mathlib.Core.Path.{refl}
use Rattle.words.proofs.Answers.{fails}
use Rattle.words.proofs.GivenLaws.{begins-part}
use Rattle.listed_statetable.proofs.PartLists.{second-of-three, three-by}
use Rattle.listed_statetable.proofs.tables.three_begin.Goals as goal

pub returns-then-not-begins : goal.returns-then-not-begins
returns-then-not-begins c =
    let a = c.args in
    fails _ c.begins.ensures c.if-not-begins.true (begins-part a.expected.now a.first.now _)

pub returns-then-not-begins-2 : goal.returns-then-not-begins-2
returns-then-not-begins-2 c =
    let a = c.args in
    let n = c.behind-next in
    fails _ c.begins-2.ensures c.if-not-begins-2.true
    (second-of-three a.expected.now n.result.now _ a.first.now a.second.now a.third.now _ n.ensures refl)

pub returns : goal.returns
returns c =
    let a = c.args in
    let n = c.behind-next in
    let l = c.behind in
    three-by a.expected.now n.result.now l.result.now a.first.now a.second.now a.third.now [] n.ensures l.ensures
    (c.begins.ensures.0 (c.if-not-begins.false)) (c.begins-2.ensures.0 (c.if-not-begins-2.false))
    c.begins-3.ensures
