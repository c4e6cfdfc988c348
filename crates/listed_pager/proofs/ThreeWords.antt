-- A line of three words and more. Assumes nothing.
use mathlib.Core.List.{List, [], ◌∷◌}
use mathlib.Core.Path.{◌≡◌, refl}
use Prim.Native.Nat.{ℕ, ◌≤◌}
use native.Mathlib.Omega.{arith}
use lib.ListN.{length, get_or, drop}

pub three-words : (ws : List ℕ) → 3 ≤ length ws → ws ≡ get_or ws 0 0 ∷ get_or ws 1 0 ∷ get_or ws 2 0 ∷ drop 3 ws
three-words [] h = absurd (omega arith)
three-words (a ∷ []) h = absurd (omega arith)
three-words (a ∷ b ∷ []) h = absurd (omega arith)
three-words (a ∷ b ∷ c ∷ ws) h = refl
