-- `full` looks at word after word. Assumes nothing.
use Rattle.std.proofs.Common.{refl, sym, ap, ◌∙◌, arith}
use Rattle.words.proofs.Answers.{says-no}
use Rattle.listed_pager.proofs.Cleared.{full-done, full-word}
use Rattle.listed_pager.proofs.work.full.Goals as goal

pub returns-then-wide-all : goal.returns-then-wide-all
returns-then-wide-all g c =
    let a = c.args in
    let w = g.T.Word.number in
    let i = c.word-item in
    says-no
    (λ e. c.if-wide-all.true
    (c.wide.ensures ∙ ap w i.is ∙ full-word w a.words.now a.all c.loop-word.word-index i.result c.loop-word-test.true (sym (g.met.T.Word.each a.words.now) ∙ e)))

pub returns : goal.returns
returns g c =
    let a = c.args in
    let w = g.T.Word.number in
    (λ _. g.met.T.Word.each a.words.now ∙ full-done w a.words.now a.all c.loop-word.word-index (omega arith) (omega arith) c.loop-word.invariant, λ _. refl)
