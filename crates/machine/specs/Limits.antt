-- What a caller may ask of a run at most, each named once; src/limits.rt has the same names. Assumes nothing.
use Rattle.std.specs.Prelude.{ℕ}

-- most tokens of an input
abbrev pub INPUT : ℕ
INPUT = 4096

-- most steps
abbrev pub STEPS : ℕ
STEPS = 1000000
