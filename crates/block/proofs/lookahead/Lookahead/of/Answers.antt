-- `Lookahead::of` meets its contract: the walk of proofs/AheadRest. Assumes nothing.
use Rattle.std.proofs.Common.{refl, sym, ap, ◌∙◌, ℕ, true, false, ◌/◌, arith, get_or, length}
use borrow.Author.Tests.{not-false}
use Rattle.block.specs.Sets.{with, join}
use Rattle.block.proofs.Symbols.{token-is, rule-is, off}
use Rattle.block.proofs.AheadRest.{words_at, null_at, passed_none, passed-all, passed-token, passed-stop, passed-more, passed-within, ahead-is}
use Rattle.block.proofs.lookahead.Lookahead.of.Goals as goal

pub loop-symbol-init : goal.loop-symbol-init
loop-symbol-init c = rw c.empty-set.ensures.words (passed_none c.args.rest.now c.args.aheads.now c.requires)

pub with-requires : goal.with-requires
with-requires c =
    let l = c.loop-symbol in
    let o = token-is (get_or c.args.rest.now l.symbol-index 0) c.in-Token.token c.in-Token.ensures in
    rw o.1 ((passed-within c.args.rest.now c.args.aheads.now l.set.words l.symbol-index l.invariant c.loop-symbol-test.true).token o.0)

pub returns-in-Token : goal.returns-in-Token
returns-in-Token c =
    λ F S.
    let a = c.args in
    let l = c.loop-symbol in
    let x = get_or a.rest.now l.symbol-index 0 in
    let o = token-is x c.in-Token.token c.in-Token.ensures in
    ahead-is _ false (with l.set.words (x / 2)) _ refl (c.with.ensures.words ∙ ap (with l.set.words) o.1)
    (passed-token a.rest.now a.aheads.now l.set.words l.symbol-index l.invariant c.loop-symbol-test.true o.0 F S)

pub bounds-aheads-rule : goal.bounds-aheads-rule
bounds-aheads-rule c =
    let l = c.loop-symbol in
    let o = rule-is (get_or c.args.rest.now l.symbol-index 0) c.in-Rule.rule c.in-Rule.ensures in
    rw o.1 ((passed-within c.args.rest.now c.args.aheads.now l.set.words l.symbol-index l.invariant c.loop-symbol-test.true).rule o.0)

pub returns-then-not-ahead : goal.returns-then-not-ahead
returns-then-not-ahead c =
    λ F S.
    let a = c.args in
    let l = c.loop-symbol in
    let x = get_or a.rest.now l.symbol-index 0 in
    let o = rule-is x c.in-Rule.rule c.in-Rule.ensures in
    let full = ap (λ (k : ℕ). length (words_at a.aheads.now k)) (sym o.1) ∙ c.join-set.ensures.sizes.1 in
    ahead-is _ false (join l.set.words (words_at a.aheads.now (x / 2))) _ refl
    (c.join-set.ensures.words ∙ ap (λ (k : ℕ). join l.set.words (words_at a.aheads.now k)) o.1)
    (passed-stop a.rest.now a.aheads.now l.set.words l.symbol-index l.invariant c.loop-symbol-test.true o.0 full (ap (null_at a.aheads.now) (sym o.1) ∙ off _ c.if-not-ahead.true) F S)

pub loop-symbol-preserved : goal.loop-symbol-preserved
loop-symbol-preserved c =
    let a = c.args in
    let l = c.loop-symbol in
    let x = get_or a.rest.now l.symbol-index 0 in
    let o = rule-is x c.in-Rule.rule c.in-Rule.ensures in
    let full = ap (λ (k : ℕ). length (words_at a.aheads.now k)) (sym o.1) ∙ c.join-set.ensures.sizes.1 in
    let e = c.join-set.ensures.words ∙ ap (λ (k : ℕ). join l.set.words (words_at a.aheads.now k)) o.1 in
    rw e (passed-more a.rest.now a.aheads.now l.set.words l.symbol-index l.invariant c.loop-symbol-test.true o.0 full (ap (null_at a.aheads.now) (sym o.1) ∙ not-false _ c.if-not-ahead.false))

pub returns : goal.returns
returns c =
    λ F S.
    let a = c.args in
    let l = c.loop-symbol in
    ahead-is _ true l.set.words _ refl refl (passed-all a.rest.now a.aheads.now l.set.words l.symbol-index l.invariant (omega (arith, c.loop-symbol-test.false)) F S)
