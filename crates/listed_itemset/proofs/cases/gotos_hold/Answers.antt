-- `gotos_hold` compares the count, then for each symbol sighted itself and its goto kernel. Assumes nothing.
use Rattle.std.proofs.Common.{arith}
use Rattle.words.proofs.Answers.{says-no}
use Rattle.words.proofs.GivenLaws.{empty-is}
use Rattle.listed_itemset.proofs.Kernels.{none-left, one-more, no-more, no-count, count-differs, gotos-differ, gotos-by}
use Rattle.listed_itemset.proofs.cases.gotos_hold.Goals as goal

pub returns-in_default : goal.returns-in_default
returns-in_default c C R =
    let a = c.args in
    let xs = c.as_slice-symbols in
    says-no (no-count a.grammar.words.now C xs.result.now (xs.ensures _ (c.sights_of-sights.ensures C R)) a.expected.now c.in_default.ensures.cases)

pub returns-then-count-symbols : goal.returns-then-count-symbols
returns-then-count-symbols c C R =
    let a = c.args in
    let xs = c.as_slice-symbols in
    let i = c.in-Some in
    says-no (count-differs a.grammar.words.now C xs.result.now (xs.ensures _ (c.sights_of-sights.ensures C R)) a.expected.now i.count.now i.gotos.now i.ensures.cases.0 c.if-count-symbols.true)

pub returns-in_default-behind_goto : goal.returns-in_default-behind_goto
returns-in_default-behind_goto c C R =
    let a = c.args in
    let xs = c.as_slice-symbols in
    let i = c.in-Some in
    let l = c.loop-symbol in
    gotos-differ a.grammar.words.now C xs.result.now (xs.ensures _ (c.sights_of-sights.ensures C R)) a.expected.now i.count.now i.gotos.now i.ensures.cases.0
    (no-more a.grammar.words.now C xs.result.now l.symbol-index (omega arith) i.gotos.now l.rest.now (l.invariant C R) (c.in_default-behind_goto.ensures C R))

pub loop-symbol-preserved : goal.loop-symbol-preserved
loop-symbol-preserved c C R =
    let a = c.args in
    let xs = c.as_slice-symbols in
    let i = c.in-Some in
    let l = c.loop-symbol in
    let n = c.in-Some-behind_goto in
    one-more a.grammar.words.now C xs.result.now l.symbol-index (omega arith) i.gotos.now l.rest.now n.next.now (l.invariant C R) (n.ensures C R)

pub returns : goal.returns
returns c C R =
    let a = c.args in
    let xs = c.as_slice-symbols in
    let i = c.in-Some in
    let l = c.loop-symbol in
    let e = empty-is l.rest.now c.is_empty.result c.is_empty.ensures in
    let n = none-left a.grammar.words.now C xs.result.now l.symbol-index i.gotos.now l.rest.now (omega arith) (l.invariant C R) in
    gotos-by a.grammar.words.now C xs.result.now (xs.ensures _ (c.sights_of-sights.ensures C R)) a.expected.now i.count.now i.gotos.now i.ensures.cases.0
    c.if-count-symbols.false (λ t. n.0 (e.0 t), λ w. e.1 (n.1 w))
