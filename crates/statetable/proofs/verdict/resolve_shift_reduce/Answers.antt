-- `verdict::resolve_shift_reduce` meets its contract. Assumes nothing.
use Rattle.std.proofs.Common.{rules}
use Rattle.statetable.proofs.Verdicts.{lower, higher, kinds-differ, left, right, nonassoc}
use Rattle.statetable.proofs.verdict.resolve_shift_reduce.Goals as goal

pub returns-then-level-other : goal.returns-then-level-other
returns-then-level-other c = let a = c.args in lower a.token a.prod a.to a.p _ c.if-level-other.true

pub returns-then-other-level : goal.returns-then-other-level
returns-then-other-level c = let a = c.args in higher a.token a.prod a.to a.p _ c.if-other-level.true

pub returns-then-token-prod : goal.returns-then-token-prod
returns-then-token-prod c =
    let a = c.args in
    kinds-differ a.token a.prod a.to a.p _ c.if-level-other.false c.if-other-level.false c.if-token-prod.true

pub returns-in-1 : goal.returns-in-1
returns-in-1 c =
    let a = c.args in
    left a.token a.prod a.to a.p _ c.if-level-other.false c.if-other-level.false c.if-token-prod.false c.in-1.is

pub returns-in-2 : goal.returns-in-2
returns-in-2 c =
    let a = c.args in
    right a.token a.prod a.to a.p _ c.if-level-other.false c.if-other-level.false c.if-token-prod.false c.in-2.is

pub returns-in_default : goal.returns-in_default
returns-in_default c =
    let a = c.args in
    nonassoc a.token a.prod a.to a.p _ c.if-level-other.false c.if-other-level.false c.if-token-prod.false
    (search rules) (search rules)
