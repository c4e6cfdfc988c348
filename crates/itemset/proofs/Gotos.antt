-- All goto kernels of closed rows, by number. Assumes nothing.
use mathlib.Core.List.{List}
use mathlib.Core.Path.{◌≡◌}
use Prim.Native.Nat.{ℕ}
use lib.ListN.{length, get_or, length-map, get_or-map}
use Rattle.itemset.specs.Rows.{Row}
use Rattle.itemset.specs.Goto.{sights_of, goto_of, gotos_of}

pub gotos-length : (b : List ℕ) (C : List Row) → length (gotos_of b C) ≡ length (sights_of b C)
unfolding gotos_of
gotos-length b C = length-map (sights_of b C) (λ x. (x, goto_of b C x))

pub gotos-at : (b : List ℕ) (C : List Row) (i : ℕ)
    → get_or (gotos_of b C) i (0, goto_of b C 0) ≡ (get_or (sights_of b C) i 0, goto_of b C (get_or (sights_of b C) i 0))
unfolding gotos_of
gotos-at b C i = get_or-map (λ x. (x, goto_of b C x)) (sights_of b C) i 0
