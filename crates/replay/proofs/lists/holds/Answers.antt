-- `holds` asks the list that is named, or that the line names. Assumes nothing.
use Rattle.std.proofs.Common.{sym, ◌∙◌, arith}
use Rattle.replay.proofs.ListLaws.{line-call, line-empty, line_other, line-refusal}
use Rattle.replay.proofs.lists.holds.Goals as goal

pub returns-then-list-number : goal.returns-then-list-number
returns-then-list-number c =
    let a = c.args in
    line-call a.list a.words.now (λ e. c.if-list-number.true (e ∙ sym c.number.ensures)) c.call_holds.ensures

pub returns-in_default : goal.returns-in_default
returns-in_default c =
    let a = c.args in
    line-empty a.list a.words.now (c.if-list-number.false ∙ c.number.ensures) c.in_default.ensures.cases

pub returns-then-number-call : goal.returns-then-number-call
returns-then-number-call c =
    let a = c.args in
    let i = c.in-Some in
    line_other a.list a.words.now (c.if-list-number.false ∙ c.number.ensures) i.call.now i.rest.now i.ensures.cases.0 (omega (arith, c.number-2.ensures, c.if-number-call.true))

pub returns : goal.returns
returns c =
    let a = c.args in
    let i = c.in-Some in
    line-refusal a.list a.words.now (c.if-list-number.false ∙ c.number.ensures) i.call.now i.rest.now i.ensures.cases.0 (omega (arith, c.number-2.ensures, c.if-number-call.false)) c.call_holds-2.ensures
