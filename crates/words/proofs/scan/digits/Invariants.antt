-- `digits` goes on at digits, as long as the value fits. Assumes nothing.
use Rattle.std.proofs.Common.{◌≡◌, drop}
use Rattle.words.specs.Words.{digits_from}
use Rattle.words.proofs.scan.digits.Given as goal

abbrev pub invariant-loop-i : goal.invariant-loop-i
invariant-loop-i l = digits_from (drop l.at l.text) l.at 0 ≡ digits_from (drop l.i l.text) l.i l.value
