-- A place in a table: row by row, so many words to a row. Assumes nothing.
use Prim.Native.Nat.{ℕ, suc, ◌+◌, ◌*◌, ◌≤◌, ◌<◌}
use native.Mathlib.Nat.{mul-le-mul_right}
use native.Mathlib.Omega.{arith}

pub row_inside : (s n w k N : ℕ) → s < n → k < w → n * w ≤ N → s * w + k < N
row_inside s n w k N h g l = let q = mul-le-mul_right {m = suc s} {n = n} w h in omega arith
