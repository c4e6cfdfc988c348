-- `begins` compares the length, then the words. Assumes nothing.
use Rattle.std.proofs.Common.{true, sym, ◌↔◌, ◌≡◌, subst, arith}
use borrow.Author.Tests.{eqb-false}
use Rattle.words.proofs.BeginLaws.{begins-by, length-same}
use Rattle.words.proofs.parts.begins.Goals as goal

pub returns : goal.returns
returns g c =
    let a = c.args in
    let ws = g.T.Word.numbers a.buffer.now in
    let l = length-same g.T.Word.number a.buffer.now ws (g.met.T.Word.each a.buffer.now) in
    begins-by a.words.now ws (omega (arith, eqb-false _ _ (sym c.if-is_empty.ensures))) (omega (arith, l))
    (subst (λ p. (c.same.result ≡ true) ↔ (p ≡ ws)) c.part.ensures c.same.ensures)
