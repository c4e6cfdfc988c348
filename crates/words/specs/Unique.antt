-- What was read tells the answer: two answers of `next_word`, or of `next_line`, that a contract allows coincide. Assumes nothing.
use Rattle.std.specs.Prelude.{Option, Result, ◌≡◌, ℕ}
use Rattle.words.specs.declared.scan.Fault.{Fault}
use Rattle.words.specs.Words.{Read, read_of}
use Rattle.words.specs.Lines.{line_of}

abbrev pub ClaimWord : Type 0
ClaimWord = (a : Read) (r r' : Result (Option (ℕ × ℕ)) Fault) → read_of r ≡ a → read_of r' ≡ a → r ≡ r'

abbrev pub ClaimLine : Type 0
ClaimLine = (a : Read) (r r' : Result (Option (ℕ × ℕ)) Fault) → line_of r ≡ a → line_of r' ≡ a → r ≡ r'
