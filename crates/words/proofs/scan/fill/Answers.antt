-- `fill` puts number after number, until one does not stand there. Assumes nothing.
use Rattle.std.proofs.Common.{◌≡◌, Ok, Err, rules, sym, ap, ◌∙◌, arith}
use Rattle.words.specs.Words.{read_of}
use Rattle.words.specs.Lines.{filled}
use Rattle.words.proofs.LineLaws.{fill_done, fill_more, fill_end, fill-fault}
use Rattle.words.proofs.scan.fill.Goals as goal

pub returns-in_err-number : goal.returns-in_err-number
returns-in_err-number c =
    let a = c.args in
    let l = c.loop-i in
    let h : c.from_residual.result ≡ Err c.in_err-number.field-0.0 = search rules in
    ap (λ r. (filled a.n r, l.out)) h ∙ sym (l.invariant ∙ fill-fault a.text.now a.n l.place l.i l.out (omega arith) c.in_err-number.ensures)

pub returns-in_default : goal.returns-in_default
returns-in_default c =
    let a = c.args in
    let l = c.loop-i in
    sym (l.invariant ∙ fill_end a.text.now a.n l.place l.i l.out (omega arith) (sym (ap (λ r. read_of (Ok r)) c.in_default.is) ∙ c.in_ok-number.ensures))

pub loop-i-preserved : goal.loop-i-preserved
loop-i-preserved c =
    let a = c.args in
    let l = c.loop-i in
    l.invariant ∙ fill_more a.text.now a.n l.place l.i l.out (omega arith) (sym (ap (λ r. read_of (Ok r)) c.in-Some.is) ∙ c.in_ok-number.ensures)

pub returns : goal.returns
returns c =
    let a = c.args in
    let l = c.loop-i in
    sym (l.invariant ∙ fill_done a.text.now a.n l.place l.i l.out (omega arith))
