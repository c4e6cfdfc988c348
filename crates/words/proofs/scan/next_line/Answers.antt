-- `next_line` reads a count, and then as many numbers if there is room. Assumes nothing.
use Rattle.std.proofs.Common.{◌≡◌, Ok, Err, rules, sym, ap, ◌∙◌, arith}
use Rattle.words.specs.Words.{read_of}
use Rattle.words.proofs.LineLaws.{count-read, line-fill, line-long, line-end, line-fault}
use Rattle.words.proofs.scan.next_line.Goals as goal

pub returns-in_err-count-clause-line : goal.returns-in_err-count-clause-line
returns-in_err-count-clause-line c =
    let a = c.args in
    let h : c.from_residual.result ≡ Err c.in_err-count.field-0.0 = search rules in
    ap (λ r. (read_of r, a.out.now)) h ∙ sym (line-fault a.text.now a.at a.out.now c.in_err-count.ensures)

pub returns-in_default-clause-line : goal.returns-in_default-clause-line
returns-in_default-clause-line c =
    let a = c.args in
    sym (line-end a.text.now a.at a.out.now (sym (ap (λ r. read_of (Ok r)) c.in_default.is) ∙ c.in_ok-count.ensures))

pub returns-then-out-n-clause-line : goal.returns-then-out-n-clause-line
returns-then-out-n-clause-line c =
    let a = c.args in
    sym (line-long a.text.now a.at a.out.now (count-read _ c.index-n.ensures c.in-Some.is c.in_ok-count.ensures) (omega arith))

pub returns-in_err-end-clause-line : goal.returns-in_err-end-clause-line
returns-in_err-end-clause-line c =
    let a = c.args in
    let h : c.from_residual-in_err-end.result ≡ Err c.in_err-end.field-0.0 = search rules in
    ap (λ r. (read_of r, c.fill.new.out)) h ∙ c.in_err-end.ensures
    ∙ sym (line-fill a.text.now a.at a.out.now (count-read _ c.index-n.ensures c.in-Some.is c.in_ok-count.ensures) (omega arith))

pub returns-clause-line : goal.returns-clause-line
returns-clause-line c =
    let a = c.args in
    c.in_ok-end.ensures ∙ sym (line-fill a.text.now a.at a.out.now (count-read _ c.index-n.ensures c.in-Some.is c.in_ok-count.ensures) (omega arith))
