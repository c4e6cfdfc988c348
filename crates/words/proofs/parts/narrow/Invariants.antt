-- `narrow` puts word after word. Assumes nothing.
use Rattle.std.proofs.Common.{◌≡◌, ◌≤◌, length, drop}
use Rattle.words.specs.Parts.{narrow_from}
use Rattle.words.proofs.parts.narrow.Given as goal

abbrev pub invariant-loop-i : goal.invariant-loop-i
invariant-loop-i l = (narrow_from l.words 0 l.initial.out ≡ narrow_from (drop l.i l.words) l.i l.out) × (l.i ≤ length l.out)
