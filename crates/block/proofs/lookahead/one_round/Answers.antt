-- `one_round` meets its contract: after p productions the array is `up_to p` of what it was. Assumes nothing.
use Rattle.std.proofs.Common.{true≢false, sym, ◌∙◌}
use Rattle.block.proofs.AheadRounds.{up_to, up_to-size, became-none, became-next}
use Rattle.block.proofs.lookahead.one_round.Goals as goal
use Rattle.block.proofs.lookahead.one_round.Goals.{then-add_prod, else-add_prod}

pub loop-p-init : goal.loop-p-init
loop-p-init c = λ F size S. became-none c.args.grammar.words.now F c.args.aheads.now S

pub loop-p-preserved : goal.loop-p-preserved
loop-p-preserved c =
    let b = c.args.grammar.words.now in
    let l = c.loop-p in
    λ F size S.
    let old = l.invariant F size S in
    let h = c.add_prod.result in
    let new = c.add_prod.ensures (up_to b l.p F) (up_to-size b l.p F size) old.are in
    became-next b l.p F l.grew h c.if-add_prod.grew _ old.still new
    (λ e. elim c.if-add_prod.branch [ then-add_prod z ↦ z.grew-is | else-add_prod z ↦ absurd (true≢false (sym e ∙ z.if-add_prod.false)) ])
    (λ e. elim c.if-add_prod.branch [ then-add_prod z ↦ absurd (true≢false (sym z.if-add_prod.true ∙ e)) | else-add_prod z ↦ z.grew-is ])
