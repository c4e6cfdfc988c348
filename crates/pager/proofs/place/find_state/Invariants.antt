-- `find_state` meets its contract: no state up to s is what is sought. Assumes nothing.
use Rattle.std.proofs.Common.{false, ◌≡◌, ℕ, ◌<◌}
use Rattle.pager.specs.Held.{View, Ready}
use Rattle.pager.specs.declared.room.Room.{Room}
use Rattle.pager.proofs.Putting.{tested}
use Rattle.pager.proofs.place.find_state.Given as goal

abbrev pub invariant-loop-s : goal.invariant-loop-s
invariant-loop-s g l =
    (room : Room) (v : View) → Ready room l.fn.count l.made l.kernel l.items l.spans l.marks v → (j : ℕ) → j < l.s → tested g.P.Placing.takes v j ≡ false
