-- The rooms that listed cases are given; src/rooms.rt has the same names. Assumes nothing.
use Rattle.std.specs.Prelude.{ℕ, min}

-- most words of a block, a table or an input in a case
abbrev pub BLOCK : ℕ
BLOCK = 16384

-- words of each buffer that a case may lend
abbrev pub ROOM : ℕ
ROOM = 16384

-- a count, or the most that there is room for: a line that showed a longer buffer would have more numbers than `replay` reads
abbrev pub bounded_of : ℕ → ℕ
bounded_of n = min n ROOM
