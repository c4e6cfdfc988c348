-- `Firsts::new` meets its contract: the array goes side by side with the rule's rounds. Assumes nothing.
use Rattle.std.proofs.Common.{true, false, subst, ap, ◌∙◌}
use Rattle.block.specs.Limits.{RULES}
use lib.ListN.{get_or-replicate}
use Rattle.block.specs.Firsts.{unread, Rounded}
use Rattle.block.specs.declared.lookahead.Lookahead.{Lookahead}
use Rattle.block.specs.First.{round_of}
use Rattle.block.proofs.AheadRounds.{rounds-start, rounds-next, rounds-less, rounds-done}
use Rattle.block.proofs.lookahead.Firsts.new.Goals as goal

pub loop-init : goal.loop-init
loop-init c =
    let x : Lookahead = record { null = false; set = c.empty.result } in
    rounds-start c.args.grammar.words.now _ (λ r l. let e = get_or-replicate RULES r x unread l in (ap (λ y. y.null) e, ap (λ y. y.set.words) e ∙ c.empty.ensures.words))

pub loop-smaller : goal.loop-smaller
loop-smaller c =
    let b = c.args.grammar.words.now in
    let R = c.loop.invariant in
    let o = c.one_round in
    let B : Rounded R.held (round_of b R.held) true o.new.aheads =
    subst (λ g. Rounded R.held (round_of b R.held) g o.new.aheads) c.loop-test.true (o.ensures R.held R.sized.size R.are) in
    rounds-less b c.loop.rules R o.new.aheads B c.args.grammar.placed.rules-most

pub loop-preserved : goal.loop-preserved
loop-preserved c =
    let b = c.args.grammar.words.now in
    let R = c.loop.invariant in
    let o = c.one_round in
    let B : Rounded R.held (round_of b R.held) true o.new.aheads =
    subst (λ g. Rounded R.held (round_of b R.held) g o.new.aheads) c.loop-test.true (o.ensures R.held R.sized.size R.are) in
    rounds-next b c.loop.rules R o.new.aheads B

pub invariant_of-result : goal.invariant_of-result
invariant_of-result c =
    let b = c.args.grammar.words.now in
    let R = c.loop.invariant in
    let o = c.one_round in
    let B : Rounded R.held (round_of b R.held) false o.new.aheads =
    subst (λ g. Rounded R.held (round_of b R.held) g o.new.aheads) c.loop-test.false (o.ensures R.held R.sized.size R.are) in
    record { right = rounds-done b c.loop.rules R o.new.aheads B }
