-- `symbol_after` meets its contract: the right side at the dot. Assumes nothing.
use Rattle.std.proofs.Common.{◌∙◌, arith}
use Rattle.itemset.proofs.After.{after-got}
use Rattle.itemset.proofs.goto.symbol_after.Goals as goal

pub returns : goal.returns
returns c =
    let a = c.args in
    let g = c.get.ensures.lookup in
    c.copied.ensures ∙ after-got a.grammar.words.now a.item c.body.result.now c.body.ensures c.get.result _ g.3 (g.4 (omega arith) 0)
