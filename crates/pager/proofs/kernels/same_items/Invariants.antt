-- The items of the first i rows are the same. Assumes nothing.
use Rattle.std.proofs.Common.{◌≡◌, ℕ, ◌<◌, ◌*◌, get_or}
use Rattle.block.specs.Limits.{ITEM}
use Rattle.pager.proofs.kernels.same_items.Given as goal

abbrev pub invariant-loop-i : goal.invariant-loop-i
invariant-loop-i l = (k : ℕ) → k < l.i → get_or l.a (ITEM * k) 0 ≡ get_or l.b (ITEM * k) 0
