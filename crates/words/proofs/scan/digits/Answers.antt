-- `digits` goes on at digits, as long as the value fits. Assumes nothing.
use Rattle.std.proofs.Common.{refl, sym, ◌∙◌, arith}
use Rattle.words.proofs.ScanLaws.{digits-end, digits-blank, digits-other, digits-past, digits_more}
use Rattle.words.proofs.scan.digits.Goals as goal

pub returns-then-c-le32 : goal.returns-then-c-le32
returns-then-c-le32 c =
    let l = c.loop-i in
    sym (l.invariant ∙ digits-blank c.args.text.now l.i refl (omega arith) l.value (omega arith))

pub returns-then-not-is_ascii_digit : goal.returns-then-not-is_ascii_digit
returns-then-not-is_ascii_digit c =
    let l = c.loop-i in
    sym (l.invariant ∙ digits-other c.args.text.now l.i refl (omega arith) l.value (omega arith) c.if-not-is_ascii_digit.ensures.cases)

pub returns-in_default : goal.returns-in_default
returns-in_default c =
    let l = c.loop-i in
    let d = c.if-not-is_ascii_digit.ensures.cases in
    sym (l.invariant ∙ digits-past c.args.text.now l.i refl (omega arith) l.value (omega arith) d.0 d.1 (omega (arith, c.in_default.ensures)))

pub returns-in_default-checked_add : goal.returns-in_default-checked_add
returns-in_default-checked_add c =
    let l = c.loop-i in
    let d = c.if-not-is_ascii_digit.ensures.cases in
    let t = c.in-Some.ensures in
    sym (l.invariant ∙ digits-past c.args.text.now l.i refl (omega arith) l.value (omega arith) d.0 d.1 (omega (arith, t.1, c.in_default-checked_add.ensures)))

pub loop-i-preserved : goal.loop-i-preserved
loop-i-preserved c =
    let l = c.loop-i in
    let d = c.if-not-is_ascii_digit.ensures.cases in
    let t = c.in-Some.ensures in
    let m = c.in-Some-checked_add.ensures in
    rw (m.1, t.1, c.from.ensures) (l.invariant ∙ digits_more c.args.text.now l.i refl (omega arith) l.value (omega arith) d.0 d.1 (omega (arith, t.1, m.0)))

pub returns : goal.returns
returns c = let l = c.loop-i in sym (l.invariant ∙ digits-end c.args.text.now l.i l.value (omega arith))
