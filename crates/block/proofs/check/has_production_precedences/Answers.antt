-- `check::has_production_precedences` meets its contract. Assumes nothing.
use Rattle.std.proofs.Common.{not, refl, sym, ap, ◌∙◌, arith}
use Rattle.block.specs.Block.{prods, prod_prec}
use Rattle.block.specs.Refusal.{good_prec}
use Rattle.block.proofs.ListLaws.{left-all, left-stops, left-on, left-over}
use Rattle.block.proofs.check.has_production_precedences.Goals as goal

pub loop-p-init : goal.loop-p-init
loop-p-init c = let b = c.args.words.now in left-all (λ p. not (good_prec (prod_prec b p))) (prods b)

pub returns-then-not-is_precedence : goal.returns-then-not-is_precedence
returns-then-not-is_precedence c =
    let b = c.args.words.now in
    rw (left-stops (λ p. not (good_prec (prod_prec b p))) (prods b) c.loop-p.p _ c.loop-p.invariant (omega arith) (ap not (sym c.is_precedence.ensures ∙ c.if-not-is_precedence.true))) refl

pub loop-p-preserved : goal.loop-p-preserved
loop-p-preserved c =
    let b = c.args.words.now in
    left-on (λ p. not (good_prec (prod_prec b p))) (prods b) c.loop-p.p _ c.loop-p.invariant (omega arith) (ap not (sym c.is_precedence.ensures ∙ c.if-not-is_precedence.false))

pub returns : goal.returns
returns c =
    let b = c.args.words.now in
    rw (left-over (λ p. not (good_prec (prod_prec b p))) (prods b) c.loop-p.p _ c.loop-p.invariant (omega arith)) refl
