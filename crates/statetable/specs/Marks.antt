-- The marks of a state, from its cells. Assumes nothing.
use Rattle.std.specs.Prelude.{Bool, not, ◌&&◌, cond, ℕ, ◌+◌, ◌/◌, ◌%◌, eqb}
use mathlib.Core.List.{List, map, foldl}
use Rattle.block.specs.Lists.{any, upto}

abbrev pub one : Bool → ℕ
one c = cond c 1 0

-- state_shifts: the cell shifts
abbrev pub shift_mark : ℕ → ℕ
shift_mark w = one (eqb (w % 4) 1)

-- the cell reduces p
abbrev pub reduces_by : ℕ → ℕ → Bool
reduces_by p w = eqb (w % 4) 2 && eqb (w / 4) p

-- core_reduces: for each of P productions, whether a cell reduces it
unfoldable pub core_marks : ℕ → List ℕ → List ℕ
core_marks P cells = map (λ p. one (any (reduces_by p) cells)) (upto P)

-- a cell shifts or accepts
abbrev pub moves_on : ℕ → Bool
moves_on w = eqb (w % 2) 1

-- reduce_states: one production reduced, and no shift or accept
unfoldable pub reduce_only : ℕ → List ℕ → ℕ
reduce_only P cells = one (eqb (foldl ◌+◌ 0 (core_marks P cells)) 1 && not (any moves_on cells))
