-- What a caller may name at most, and the words of a record; src/limits.rt has the same names. Assumes nothing.
use Rattle.std.specs.Prelude.{ℕ}

-- most records that a list may have room for
abbrev pub RECORDS : ℕ
RECORDS = 65536

-- words of a reduce/reduce record
abbrev pub RR : ℕ
RR = 4

-- words of a shift/reduce record
abbrev pub SR : ℕ
SR = 3
