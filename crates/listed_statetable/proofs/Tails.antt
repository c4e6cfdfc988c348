-- The words of a line from a place on, as they are lent. Assumes nothing.
use mathlib.Core.List.{List}
use Prim.Native.Nat.{ℕ, ◌-◌}
use lib.ListN.{length, take, drop}

abbrev pub from : ℕ → List ℕ → List ℕ
from k l = take (length l - k) (drop k l)
