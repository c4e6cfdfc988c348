-- No word below i has a bit in both. Assumes nothing.
use Rattle.std.proofs.Common.{◌≡◌, ◌<◌, ℕ, slice_index_or, bit_and}
use Rattle.block.proofs.set.TokenSet.meets.Given as goal

abbrev pub invariant-loop-i : goal.invariant-loop-i
invariant-loop-i l = (k : ℕ) → k < l.i → bit_and (slice_index_or l.self.words k 0) (slice_index_or l.other.words k 0) ≡ 0
