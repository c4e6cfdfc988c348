-- `same` compares word after word. Assumes nothing.
use Rattle.std.proofs.Common.{refl, sym, ◌∙◌, arith}
use Rattle.words.proofs.BeginLaws.{all-same}
use Rattle.words.proofs.parts.same.Goals as goal

pub returns : goal.returns
returns g c =
    let a = c.args in
    let w = g.T.Word.number in
    (λ _. all-same w a.a.now a.b.now c.loop-i.i (omega arith) (omega arith) c.loop-i.invariant ∙ sym (g.met.T.Word.each a.b.now), λ _. refl)
