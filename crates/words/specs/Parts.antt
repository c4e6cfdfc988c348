-- The parts of a line, a length and then so many words, and what is done with them. Assumes nothing.
use Rattle.std.specs.Prelude.{◌&&◌, cond, List, [], ◌∷◌, ◌≡◌, ℕ, suc, ◌^◌, ◌≤◌, leb, ltb, length, take, drop, set}

-- the part that the words begin with, and what stands behind it; nothing where none stands whole
unfoldable pub part_of : List ℕ → List ℕ
part_of [] = []
part_of (n ∷ ws) = cond (leb n (length ws)) (take n ws) []

unfoldable pub behind_of : List ℕ → List ℕ
behind_of [] = []
behind_of (n ∷ ws) = cond (leb n (length ws)) (drop n ws) []

-- the words put into the slots from i on, up to the first that is no u32 word or has no slot, and the slot behind them
unfoldable pub narrow_from : List ℕ → ℕ → List ℕ → ℕ × List ℕ
narrow_from [] i out = (i, out)
narrow_from (w ∷ ws) i out = cond (ltb i (length out) && ltb w (2 ^ 32)) (narrow_from ws (suc i) (set out i w)) (i, out)

-- n counts words at the front of the slots
abbrev pub Counts : ℕ → List ℕ → Type 0
Counts n out = (n ≤ length out) × (n ≡ length (take n out))
