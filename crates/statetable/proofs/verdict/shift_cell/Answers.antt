-- `verdict::shift_cell` meets its contract. Assumes nothing.
use Rattle.std.proofs.Common.{inl, inr, ◌≡◌, sym, ap, ◌∙◌, arith}
use Rattle.knuth.specs.Tables.{Action}
use Rattle.statetable.specs.Cell.{decode}
use Rattle.statetable.specs.Named.{action_of}
use Rattle.statetable.proofs.Verdicts.{known-reduce, no-reduce, missing}
use Rattle.statetable.proofs.verdict.shift_cell.Goals as goal
use Rattle.statetable.proofs.verdict.shift_cell.Goals.{In-Reduce, then-token-eq0-via-then-token-eq0, then-token-eq0-via-else-token-eq0+then-prod-eq0}

was : (c : In-Reduce) → Action.reduce c.in-Reduce.p ≡ decode c.args.w
was c = ap action_of (sym c.in-Reduce.is) ∙ c.from.ensures

pub returns-then-token-eq0 : goal.returns-then-token-eq0
returns-then-token-eq0 c =
    let a = c.args in
    missing a.grammar.words.now a.s a.t a.to a.w _ (was (goal.at.returns-then-token-eq0 c).In-Reduce) _ _
    c.token_precedence-token.ensures c.precedence-prod.ensures
    (elim c.then-token-eq0.branch [
      | then-token-eq0-via-then-token-eq0 w ↦ inl w.if-token-eq0.true
      | then-token-eq0-via-else-token-eq0+then-prod-eq0 w ↦ inr w.if-prod-eq0.true
    ])

pub resolve_shift_reduce-requires : goal.resolve_shift_reduce-requires
resolve_shift_reduce-requires c =
    let h = c.requires in
    let l = known-reduce c.args.grammar.words.now c.args.w c.in-Reduce.p (was (goal.at.resolve_shift_reduce-requires c).In-Reduce) h.2 in
    (h.1, omega (arith, c.args.grammar.placed.prods-most))

pub returns-in_default : goal.returns-in_default
returns-in_default c =
    let a = c.args in
    no-reduce a.grammar.words.now a.s a.t a.to a.w c.from.result c.in_default.not-Reduce c.from.ensures
