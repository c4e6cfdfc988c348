-- `next_case` looks at the numbers that `next_line` put. Assumes nothing.
use Rattle.std.proofs.Common.{◌≡◌, Ok, Err, ap, rules, ◌∙◌}
use Rattle.replay.proofs.TallyLaws.{case-read, case-end, case-fault}
use Rattle.replay.proofs.lines.next_case.Goals as goal

pub returns-in_err-n : goal.returns-in_err-n
returns-in_err-n c =
    let a = c.args in
    let h : c.from_residual.result ≡ Err c.in_err-n.field-0.0 = search rules in
    rw h (case-fault a.list a.text.now a.at _ _ a.room.now (search rules) c.next_line.ensures.line _ c.in_err-n.was)

pub returns-in_default : goal.returns-in_default
returns-in_default c =
    let a = c.args in
    case-end a.list a.text.now a.at _ _ a.room.now (search rules) c.next_line.ensures.line (c.in_ok-n.was ∙ ap (λ o. Ok o) c.in_default.is)

pub returns : goal.returns
returns c =
    let a = c.args in
    let i = c.in-Some in
    case-read a.list a.text.now a.at _ _ a.room.now (search rules) c.next_line.ensures.line i.n i.place c.holds.result (c.in_ok-n.was ∙ ap (λ o. Ok o) i.is) c.holds.ensures
