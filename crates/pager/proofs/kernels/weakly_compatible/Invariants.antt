-- Each row up to i is apart from every later one. Assumes nothing.
use Rattle.std.proofs.Common.{◌≡◌, true, ℕ, ◌<◌, ◌/◌, length}
use Rattle.block.specs.Limits.{ITEM}
use Rattle.pager.specs.RowWords.{apart_at}
use Rattle.pager.proofs.kernels.weakly_compatible.Given as goal

abbrev pub invariant-loop-i : goal.invariant-loop-i
invariant-loop-i l = (k j : ℕ) → k < l.i → k < j → j < length l.a / ITEM → apart_at l.a l.b k j ≡ true
