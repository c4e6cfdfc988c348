-- `sets_hold` takes the words of set after set. Assumes nothing.
use Rattle.std.proofs.Common.{None, Some, arith}
use Rattle.std.proofs.lemmas.Bool.Decides.{Decides-eqb}
use Rattle.std.proofs.lemmas.Slice.Eq.{strip_prefix_is}
use Rattle.words.proofs.Answers.{says-no}
use Rattle.words.proofs.GivenLaws.{empty-is}
use Rattle.listed_block.proofs.AheadLaws.{none-left, one-more, no-more}
use Rattle.listed_block.proofs.cases.sets_hold.Goals as goal

pub returns-in_default : goal.returns-in_default
returns-in_default c =
    let l = c.loop-ahead in
    let a = c.args in
    says-no (no-more a.aheads.now l.ahead-index (omega arith) a.words.now l.rest.now l.invariant (strip_prefix_is Decides-eqb l.rest.now _ None c.in_default.ensures.cases))

pub loop-ahead-preserved : goal.loop-ahead-preserved
loop-ahead-preserved c =
    let l = c.loop-ahead in
    let a = c.args in
    let next = c.in-Some.next in
    one-more a.aheads.now l.ahead-index (omega arith) a.words.now l.rest.now next.now l.invariant (strip_prefix_is Decides-eqb l.rest.now _ (Some next) c.in-Some.ensures.cases)

pub returns : goal.returns
returns c =
    let l = c.loop-ahead in
    let a = c.args in
    let e = empty-is l.rest.now c.is_empty.result c.is_empty.ensures in
    let n = none-left a.aheads.now l.ahead-index a.words.now l.rest.now (omega arith) l.invariant in
    (λ t. n.0 (e.0 t), λ w. e.1 (n.1 w))
