use Rattle.std.proofs.Common.{List, ◌≡◌, ℕ, length, drop}
use Rattle.pager.specs.Lists.{find}
use Rattle.pager.specs.Place.{State}
use Rattle.pager.specs.Building.{Marks}
use Rattle.pager.proofs.Marked.{unclosed}
use Rattle.pager.proofs.build.marked_from.Given as goal

abbrev pub invariant-loop-s : goal.invariant-loop-s
invariant-loop-s l =
    (N : ℕ) (ss : List State) (z : List ℕ) → Marks N ss z l.marks → l.fn.states ≡ length ss → find unclosed l.from (drop l.from ss) ≡ find unclosed l.s (drop l.s ss)
