-- `given` is the part, if all its words were put. Assumes nothing.
use Rattle.std.proofs.Common.{sym, ap, ◌∙◌, ◌≡◌, length}
use Rattle.words.specs.Parts.{part_of}
use Rattle.words.proofs.GivenLaws.{part-back, narrowed, narrow-count, narrow-words}
use Rattle.words.proofs.PartLaws.{cut-not}
use Rattle.words.proofs.parts.given.Goals as goal

pub returns-in_err-part : goal.returns-in_err-part
returns-in_err-part c = rw c.from_residual.ensures (λ ws rest e n. cut-not c.args.words.now ws rest c.in_err-part.ensures.2 e)

pub returns-then-n-part : goal.returns-then-n-part
returns-then-n-part c =
    let i = c.in_ok-part in
    λ ws rest e n.
    let same : i.part.now ≡ ws = i.ensures.0 ∙ ap part_of e ∙ part-back ws rest in
    let put = narrow-count ws c.args.room.now c.narrow-n.new.out c.narrow-n.result (rw (← same) c.narrow-n.ensures.put) n in
    c.if-n-part.true (put ∙ sym (ap length same))

pub returns : goal.returns
returns c =
    let i = c.in_ok-part in
    let n = c.narrow-n in
    let all = c.if-n-part.false in
    let put = narrow-words i.part.now c.args.room.now n.new.out n.result n.ensures.put all in
    rw put (i.ensures.2, narrowed i.part.now c.args.room.now n.new.out n.result n.ensures.put all)
