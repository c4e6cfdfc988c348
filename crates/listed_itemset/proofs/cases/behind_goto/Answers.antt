-- `behind_goto` reads the symbol, then a part. Assumes nothing.
use Rattle.std.proofs.Common.{◌∙◌}
use Rattle.words.proofs.Answers.{refuted}
use Rattle.itemset.specs.Rows.{words_of}
use Rattle.itemset.specs.Goto.{goto_of}
use Rattle.listed_itemset.proofs.Kernels.{other-rows, both-right}
use Rattle.listed_itemset.proofs.cases.behind_goto.Goals as goal

pub returns-then-not-goto_holds : goal.returns-then-not-goto_holds
returns-then-not-goto_holds c C R =
    let a = c.args in
    let i = c.in_ok-x in
    let p = c.in_ok-rows in
    other-rows a.symbol (words_of (goto_of a.grammar.words.now C a.symbol)) a.rest.now i.x.now i.next.now i.ensures.cases.0 p.rows.now p.more.now p.ensures.2
    (refuted c.goto_holds.result (c.goto_holds.ensures C R) c.if-not-goto_holds.true)

pub returns : goal.returns
returns c C R =
    let a = c.args in
    let i = c.in_ok-x in
    let p = c.in_ok-rows in
    both-right a.symbol (words_of (goto_of a.grammar.words.now C a.symbol)) a.rest.now i.x.now i.next.now i.ensures.cases.0 p.rows.now p.more.now p.ensures.2
    (c.if-x-from.false ∙ c.from.ensures) ((c.goto_holds.ensures C R).0 c.if-not-goto_holds.false)
