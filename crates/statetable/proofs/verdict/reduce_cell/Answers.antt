-- `verdict::reduce_cell` meets its contract. Assumes nothing.
use Rattle.std.proofs.Common.{◌≡◌, sym, ap, ◌∙◌}
use Rattle.knuth.specs.Tables.{Action}
use Rattle.statetable.specs.Cell.{decode}
use Rattle.statetable.specs.Named.{action_of}
use Rattle.statetable.proofs.Verdicts.{first-accept, first-reduce, after-shift, two-other, two-smaller}
use Rattle.statetable.proofs.verdict.reduce_cell.Goals as goal

pub returns-then-accepts : goal.returns-then-accepts
returns-then-accepts c =
    let empty : Action.error ≡ decode c.args.w = ap action_of (sym c.in-Error.is) ∙ c.from.ensures in
    let a = c.args in
    first-accept a.w a.p a.accepts c.if-accepts.true empty

pub returns-else-accepts : goal.returns-else-accepts
returns-else-accepts c =
    let empty : Action.error ≡ decode c.args.w = ap action_of (sym c.in-Error.is) ∙ c.from.ensures in
    let a = c.args in
    first-reduce a.w a.p a.accepts c.if-accepts.false empty

pub returns-in-Shift : goal.returns-in-Shift
returns-in-Shift c =
    let a = c.args in
    after-shift a.w a.p a.accepts _ (ap action_of (sym c.in-Shift.is) ∙ c.from.ensures)

pub returns-then-r-p : goal.returns-then-r-p
returns-then-r-p c =
    let was : Action.reduce c.in-Reduce.r ≡ decode c.args.w = ap action_of (sym c.in-Reduce.is) ∙ c.from.ensures in
    let a = c.args in
    two-other a.w a.p a.accepts _ was c.if-accepts-2.false c.if-r-p.true

pub returns-else-r-p : goal.returns-else-r-p
returns-else-r-p c =
    let was : Action.reduce c.in-Reduce.r ≡ decode c.args.w = ap action_of (sym c.in-Reduce.is) ∙ c.from.ensures in
    let a = c.args in
    two-smaller a.w a.p a.accepts _ was c.if-accepts-2.false c.if-r-p.false
