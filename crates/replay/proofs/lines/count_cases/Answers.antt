-- `count_cases` goes from line to line: a line takes a turn. Assumes nothing.
use Rattle.std.proofs.Common.{true, false, ◌≡◌, Ok, sym, subst, ◌∙◌, ◌+◌, ◌-◌, ◌≤◌, length, arith}
use Rattle.words.proofs.Answers.{differ}
use Rattle.replay.specs.Tally.{case_of, CaseIs}
use Rattle.replay.proofs.TallyLaws.{turn-spent, turn-ended, turn-faulted, turn-read}
use Rattle.replay.proofs.lines.count_cases.Goals as goal
use Rattle.replay.proofs.lines.count_cases.Goals.{then-not-holds, else-not-holds, else-loop-test, then-loop-test+in_default, then-loop-test+in-Ok+in_default-case}

pub loop-preserved : goal.loop-preserved
loop-preserved c =
    let l = c.loop in
    let a = c.args in
    let i = c.in-Some in
    let d : (i.holds ≡ true → c.if-not-holds.differ ≡ l.differ) × (i.holds ≡ false → c.if-not-holds.differ ≡ l.differ + 1) =
    elim c.if-not-holds.branch [
      | then-not-holds w ↦ (λ t. absurd (differ (sym w.if-not-holds.true ∙ t)), λ f. w.differ-is)
      | else-not-holds w ↦ (λ t. w.differ-is, λ f. absurd (differ (sym f ∙ w.if-not-holds.false)))
    ] in
    let t : length a.text.now - (l.counter + 1) ≡ length a.text.now - l.counter - 1 = omega arith in
    let few : c.if-not-holds.differ ≤ l.cases + 1 =
    elim c.if-not-holds.branch [ then-not-holds w ↦ omega (arith, w.differ-is) | else-not-holds w ↦ omega (arith, w.differ-is) ] in (
      λ q x y n. l.invariant.0 q x y
          (turn-read a.list a.text.now (length a.text.now - l.counter) l.at l.cases l.differ (omega arith) i.next q x y i.holds _ _ t d (subst (λ o. CaseIs a.list a.text.now l.at (case_of (Ok o))) i.is c.in-Ok.ensures) n),
      omega arith,
      few,
    )

pub returns : goal.returns
returns c =
    let l = c.loop in
    let a = c.args in
    let stops = l.invariant.0 l.at l.cases l.differ in
    record {
      place = l.at;
      counted =
          elim c.loop-test.branch [
            | else-loop-test w ↦ stops (turn-spent a.list a.text.now (length a.text.now - l.counter) l.at l.cases l.differ (omega arith))
            | then-loop-test+in_default w ↦
                stops (turn-faulted a.list a.text.now (length a.text.now - l.counter) l.at l.cases l.differ (omega arith) _
                (subst (λ r. CaseIs a.list a.text.now l.at (case_of r)) w.in_default.is w.next_case.ensures))
            | then-loop-test+in-Ok+in_default-case w ↦
                stops (turn-ended a.list a.text.now (length a.text.now - l.counter) l.at l.cases l.differ (omega arith)
                (subst (λ o. CaseIs a.list a.text.now l.at (case_of (Ok o))) w.in_default-case.is w.in-Ok.ensures))
          ];
      whole = c.ends.ensures;
    }
