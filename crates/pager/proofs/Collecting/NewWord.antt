-- The new word of no edge. Assumes nothing.
use mathlib.Core.List.{List}
use mathlib.Core.Path.{◌≡◌, refl}
use Prim.Native.Nat.{ℕ}
use Rattle.pager.specs.Collecting.{number_in}

pub number-zero : (marks : List ℕ) → number_in marks 0 ≡ 0
unfolding number_in
number-zero marks = refl
