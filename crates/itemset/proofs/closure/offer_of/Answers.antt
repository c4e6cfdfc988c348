-- `offer_of` meets its contract: the laws of proofs/Work/Offers. Assumes nothing.
use Rattle.std.proofs.Common.{refl, arith, ◌%◌, get_or}
use Rattle.block.specs.Limits.{DOTS}
use Rattle.block.specs.First.{firsts_of}
use Rattle.block.proofs.Symbols.{token-is, rule-is}
use Rattle.itemset.proofs.Work.Offers.{after_small, offer-end, offer-token, offer-own, offer-first}
use Rattle.itemset.proofs.closure.offer_of.Goals as goal

pub returns-then-body-dot : goal.returns-then-body-dot
returns-then-body-dot c =
    let a = c.args in
    let b = a.firsts.now.grammar.words.now in
    offer-end b a.item c.body-body.result.now c.body-body.ensures (firsts_of b) a.own.words (omega arith)

pub returns-in-Token : goal.returns-in-Token
returns-in-Token c =
    let a = c.args in
    let b = a.firsts.now.grammar.words.now in
    let r = c.body-body in
    let o = token-is (get_or r.result.now (a.item % DOTS) 0) _ c.in-Token.ensures in
    offer-token b a.item r.result.now r.ensures (firsts_of b) a.own.words (omega arith) o.0

pub of-ahead-requires : goal.of-ahead-requires
of-ahead-requires c =
    let a = c.args in
    let g = a.firsts.now.grammar in
    after_small g.words.now a.item c.body-body.result.now c.body-body.ensures g.good c.requires (omega arith)

pub returns-then-ahead : goal.returns-then-ahead
returns-then-ahead c =
    let a = c.args in
    let b = a.firsts.now.grammar.words.now in
    let r = c.body-body in
    let h = c.of-ahead in
    let o = rule-is (get_or r.result.now (a.item % DOTS) 0) c.in-Rule.rule c.in-Rule.ensures in
    rw o.1
    (offer-own b a.item r.result.now r.ensures (firsts_of b) a.own.words (omega arith) o.0 h.result h.ensures _ c.if-ahead.true c.join-set.ensures.words)

pub returns-else-ahead : goal.returns-else-ahead
returns-else-ahead c =
    let a = c.args in
    let b = a.firsts.now.grammar.words.now in
    let r = c.body-body in
    let h = c.of-ahead in
    let o = rule-is (get_or r.result.now (a.item % DOTS) 0) c.in-Rule.rule c.in-Rule.ensures in
    rw o.1
    (offer-first b a.item r.result.now r.ensures (firsts_of b) a.own.words (omega arith) o.0 h.result h.ensures _ c.if-ahead.false refl)
