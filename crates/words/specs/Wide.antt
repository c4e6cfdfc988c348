-- Words of 32 and of 64 bits are the same numbers. Assumes nothing.
use Rattle.std.specs.Prelude.{List, map, ◌≡◌, ℕ}
use Rattle.std.proofs.lemmas.List.{map-id}
use mathlib.Core.Path.{sym}

pub each_same : (ws : List ℕ) → ws ≡ map (λ w. w) ws
each_same ws = sym (map-id ws)
