-- `hand_on` meets its contract: the laws of proofs/Work/Offers. Assumes nothing.
use Rattle.std.proofs.Common.{rules, sym}
use Rattle.block.specs.First.{firsts_of}
use Rattle.itemset.proofs.Work.Offers.{none-handed, fed-handed}
use Rattle.itemset.proofs.closure.Closure.hand_on.Goals as goal

pub returns-in-Some : goal.returns-in-Some
returns-in-Some c =
    let a = c.args in
    let b = a.firsts.now.grammar.words.now in
    let o = c.in-Some.offer in
    fed-handed b a.item (firsts_of b) a.own.words o.rule o.set.words (sym c.in-Some.ensures) a.self.now c.feed.new.self c.feed.ensures

pub returns-in_default : goal.returns-in_default
returns-in_default c =
    let a = c.args in
    let b = a.firsts.now.grammar.words.now in
    none-handed b a.item (firsts_of b) a.own.words (sym c.in_default.ensures) a.self.now
    (record { todo = search rules; here = search rules; contexts = search rules })
