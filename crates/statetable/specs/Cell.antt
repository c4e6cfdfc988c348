-- The word of a cell and the action that it is read as. Assumes nothing.

use Rattle.std.specs.Prelude.{ℕ, zero, suc, ◌+◌, ◌*◌, ◌/◌, ◌%◌}
use Rattle.knuth.specs.Tables.{Action}

-- the low two bits decide
abbrev pub of_kind : ℕ → ℕ → Action
of_kind zero v = Action.error
of_kind (suc zero) v = Action.shift v
of_kind (suc (suc zero)) v = Action.reduce v
of_kind (suc (suc (suc k))) v = Action.accept

unfoldable pub decode : ℕ → Action
decode w = of_kind (w % 4) (w / 4)

unfoldable pub encode : Action → ℕ
encode Action.error = 0
encode (Action.shift s) = 4 * s + 1
encode (Action.reduce p) = 4 * p + 2
encode Action.accept = 3
