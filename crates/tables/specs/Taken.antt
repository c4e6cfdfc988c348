-- What was taken of a text lies in the slots. Assumes nothing.
use Rattle.std.specs.Prelude.{List, Result, Ok, Err, ℕ}
use Rattle.words.specs.Parts.{Counts}
use Rattle.tables.specs.declared.reading.NoBlock.{NoBlock}

-- the words of an answer stand at the front of the slots
abbrev pub Fits : Result ℕ NoBlock → List ℕ → Type 0
Fits (Ok n) out = Counts n out
Fits (Err why) out = Unit
