-- `numbers_begin` is what `starts_with` says. Assumes nothing.
use Rattle.std.proofs.lemmas.Bool.Decides.{Decides-eqb}
use Rattle.std.proofs.lemmas.Slice.Eq.{starts_is}
use Rattle.words.proofs.parts.numbers_begin.Goals as goal

pub returns : goal.returns
returns c =
    let s = starts_is Decides-eqb c.args.words.now c.args.numbers.now c.starts_with.result c.starts_with.ensures.value in
    (s.0, λ e. s.1 _ e)
