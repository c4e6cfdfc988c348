-- `add_prod` meets its contract: the laws of proofs/AheadAdd. Assumes nothing.
use Rattle.std.proofs.Common.{◌||◌, ◌≡◌, subst}
use Rattle.block.specs.Refusal.{Known}
use Rattle.block.specs.First.{ahead_of, ahead}
use Rattle.block.proofs.Bodies.{body-small}
use Rattle.block.proofs.ListLaws.{or-then, or_else}
use Rattle.block.proofs.AheadRest.{null_at, ahead-eta}
use Rattle.block.proofs.AheadAdd.{became-add, told-differ}
use Rattle.block.proofs.lookahead.add_prod.Goals as goal
use Rattle.block.proofs.lookahead.add_prod.Goals.{then-old, else-old}

pub of-ahead-requires : goal.of-ahead-requires
of-ahead-requires c =
    let k : Known c.args.grammar.words.now c.args.p = record { good = c.args.grammar.good; below = c.requires } in
    rw c.body.ensures (body-small k)

pub returns : goal.returns
returns c =
    λ F size S.
    let a = c.args in
    let k : Known a.grammar.words.now a.p = record { good = a.grammar.good; below = c.requires } in
    let r = c.rule-rule.result in
    let h = c.of-ahead.result in
    let w = null_at a.aheads.now r in
    let x = c.of-ahead.ensures F S.rule in
    let y = subst (λ u. ahead_of F u ≡ ahead h.null h.set.words) c.body.ensures (ahead-eta _ h.null h.set.words x.null x.words) in
    let v = c.if-old.new in
    let ev : v ≡ (w || h.null) = elim c.if-old.branch [ then-old z ↦ or-then w h.null v z.if-old.true z.new-is | else-old z ↦ or_else w h.null v z.if-old.false z.new-is ] in
    became-add a.grammar.words.now a.p (a.grammar.rules_below.rule a.p c.requires) a.grammar.placed.rules-most (body-small k) F a.aheads.now size S c.told-aheads r c.rule-rule.ensures
    h.null h.set.words y (record { null = v; set = c.join.result }) ev c.join.ensures.words c.ne.result
    (told-differ v (w || h.null) w c.join.result.words _ _ c.ne.result ev c.join.ensures.words c.ne.ensures)
