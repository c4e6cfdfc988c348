use Rattle.std.proofs.Common.{arith, add-one, sym, ap, ◌∙◌, ℕ, drop}
use Rattle.pager.specs.Lists.{find}
use Rattle.pager.specs.Held.{as_option}
use Rattle.pager.proofs.Marked.{unclosed, find-end, find-here, find_past}
use Rattle.pager.proofs.build.marked_from.Goals as goal

pub returns-then-marks-s-eq1 : goal.returns-then-marks-s-eq1
returns-then-marks-s-eq1 c =
    λ N ss z M e.
    let l = c.loop-s in
    ap as_option (sym (l.invariant N ss z M e ∙ find-here M l.s (omega (arith, c.loop-s-test.true)) c.if-marks-s-eq1.true))

pub loop-s-preserved : goal.loop-s-preserved
loop-s-preserved c =
    λ N ss z M e.
    let l = c.loop-s in
    l.invariant N ss z M e ∙ find_past M l.s (omega (arith, c.loop-s-test.true)) c.if-marks-s-eq1.false
    ∙ ap (λ (k : ℕ). find unclosed k (drop k ss)) (sym (add-one l.s))

pub returns : goal.returns
returns c =
    λ N ss z M e.
    let l = c.loop-s in
    ap as_option (sym (l.invariant N ss z M e ∙ find-end ss l.s (omega (arith, c.loop-s-test.false))))
