-- `check::has_token_precedences` meets its contract. Assumes nothing.
use Rattle.std.proofs.Common.{not, refl, sym, ap, ◌∙◌, arith}
use Rattle.block.specs.Block.{tokens, token_prec}
use Rattle.block.specs.Refusal.{good_prec}
use Rattle.block.proofs.ListLaws.{left-all, left-stops, left-on, left-over}
use Rattle.block.proofs.check.has_token_precedences.Goals as goal

pub loop-t-init : goal.loop-t-init
loop-t-init c = let b = c.args.words.now in left-all (λ t. not (good_prec (token_prec b t))) (tokens b)

pub returns-then-not-is_precedence : goal.returns-then-not-is_precedence
returns-then-not-is_precedence c =
    let b = c.args.words.now in
    rw (left-stops (λ t. not (good_prec (token_prec b t))) (tokens b) c.loop-t.t _ c.loop-t.invariant (omega arith) (ap not (sym c.is_precedence.ensures ∙ c.if-not-is_precedence.true))) refl

pub loop-t-preserved : goal.loop-t-preserved
loop-t-preserved c =
    let b = c.args.words.now in
    left-on (λ t. not (good_prec (token_prec b t))) (tokens b) c.loop-t.t _ c.loop-t.invariant (omega arith) (ap not (sym c.is_precedence.ensures ∙ c.if-not-is_precedence.false))

pub returns : goal.returns
returns c =
    let b = c.args.words.now in
    rw (left-over (λ t. not (good_prec (token_prec b t))) (tokens b) c.loop-t.t _ c.loop-t.invariant (omega arith)) refl
