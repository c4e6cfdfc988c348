-- Each answer can be read back from what was read. Assumes nothing.
use mathlib.Core.Path.{◌≡◌, refl, sym, ap, ◌∙◌}
use Rattle.std.specs.Prelude.{Option, Some, None, Result, Ok, Err, ℕ}
use Rattle.words.specs.declared.scan.Fault.{Fault}
use Rattle.words.specs.Words.{Read, number, end, fault, read_of}
use Rattle.words.specs.Unique.{ClaimWord, ClaimLine}

abbrev answer : Read → Result (Option (ℕ × ℕ)) Fault
answer (number v k) = Ok (Some (v, k))
answer end = Ok None
answer (fault k) = Err record { place = k }

answer-is : (r : Result (Option (ℕ × ℕ)) Fault) → r ≡ answer (read_of r)
answer-is (Ok (Some w)) = refl
answer-is (Ok None) = refl
answer-is (Err f) = refl

pub word-one : ClaimWord
word-one a r r' e e' = answer-is r ∙ ap answer (e ∙ sym e') ∙ sym (answer-is r')

pub line-one : ClaimLine
line-one = word-one
