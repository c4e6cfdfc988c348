-- `fill` puts number after number, until one does not stand there. Assumes nothing.
use Rattle.std.proofs.Common.{◌≡◌, ◌-◌}
use Rattle.words.specs.Lines.{fill_from}
use Rattle.words.proofs.scan.fill.Given as goal

abbrev pub invariant-loop-i : goal.invariant-loop-i
invariant-loop-i l = fill_from l.text l.n l.at 0 l.initial.out ≡ fill_from l.text (l.n - l.i) l.place l.i l.out
