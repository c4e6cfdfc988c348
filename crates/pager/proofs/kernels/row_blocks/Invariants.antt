-- Row i and each later one up to j are apart. Assumes nothing.
use Rattle.std.proofs.Common.{◌≡◌, true, ℕ, ◌<◌}
use Rattle.pager.specs.RowWords.{apart_at}
use Rattle.pager.proofs.kernels.row_blocks.Given as goal

abbrev pub invariant-loop-j : goal.invariant-loop-j
invariant-loop-j l = (k : ℕ) → l.i < k → k < l.j → apart_at l.a l.b l.i k ≡ true
