-- A table of as many rows as states may be named fits a number. Assumes nothing.
use Prim.Native.Nat.{ℕ, ◌*◌, ◌≤◌}
use native.Mathlib.Nat.{mul-le-mul}
use Rattle.pager.specs.Held.{STATES}

pub table-part : (s w most : ℕ) → s ≤ STATES → w ≤ most → s * w ≤ STATES * most
table-part s w most h g = mul-le-mul h g
