-- `next_word` reads digits from where the blanks end. Assumes nothing.
use Rattle.std.proofs.Common.{◌≡◌, Err, rules, sym, ap, ◌∙◌, arith}
use Rattle.words.specs.Words.{number_of, read_of}
use Rattle.words.proofs.ScanLaws.{next-past, next-end, next-digits}
use Rattle.words.proofs.scan.next_word.Goals as goal

pub returns-then-text-at : goal.returns-then-text-at
returns-then-text-at c = sym (next-past c.args.text.now c.args.at (omega arith))

pub returns-in_default : goal.returns-in_default
returns-in_default c = sym (next-end c.args.text.now c.args.at (omega arith) (sym c.blanks.ensures ∙ c.in_default.is))

pub returns-in_err-digits : goal.returns-in_err-digits
returns-in_err-digits c =
    let e = next-digits c.args.text.now c.args.at c.in-Some.blanks (sym c.blanks.ensures ∙ c.in-Some.is) in
    let h : c.from_residual.result ≡ Err c.in_err-digits.field-0.0 = search rules in
    ap read_of h ∙ c.in_err-digits.ensures ∙ sym e

pub returns : goal.returns
returns c =
    let e = next-digits c.args.text.now c.args.at c.in-Some.blanks (sym c.blanks.ensures ∙ c.in-Some.is) in
    sym (ap number_of c.in_ok-digits.was) ∙ c.digits.ensures ∙ sym e
