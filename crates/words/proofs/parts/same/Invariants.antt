-- `same` compares word after word. Assumes nothing.
use Rattle.std.proofs.Common.{◌≡◌, take, map}
use Rattle.words.proofs.parts.same.Given as goal

abbrev pub invariant-loop-i : goal.invariant-loop-i
invariant-loop-i g l = take l.i l.a ≡ map g.T.Word.number (take l.i l.b)
