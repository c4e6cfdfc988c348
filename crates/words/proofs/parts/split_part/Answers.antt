-- `split_part` takes the length, and then so many words if they are there. Assumes nothing.
use Rattle.words.proofs.PartLaws.{no_part, split-says}
use Rattle.words.proofs.parts.split_part.Goals as goal

pub returns-in_err-count : goal.returns-in_err-count
returns-in_err-count c = rw c.from_residual.ensures (no_part c.args.words.now c.in_err-count.ensures.cases)

pub returns : goal.returns
returns c =
    let i = c.in_ok-count in
    split-says (λ p. p.0.now) (λ p. p.1.now) c.args.words.now i.rest.now c.index.result (rw c.index.ensures i.ensures.cases.0) c.split_at_checked.result c.split_at_checked.ensures.cases
