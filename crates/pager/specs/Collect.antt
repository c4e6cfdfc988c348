-- Rule 7: the states reachable from 0, renumbered in order. Assumes nothing.
use Rattle.std.specs.Prelude.{Bool, true, false, ℕ, zero, suc, ◌-◌, length, set, replicate}
use Rattle.std.specs.Bool.{beq}
use mathlib.Core.List.{List, [], ◌∷◌, map, foldl}
use Rattle.block.specs.Lists.{same, settle}
use Rattle.pager.specs.Place.{State}

-- the target of an edge word is marked
unfoldable pub mark_to : List Bool → ℕ → List Bool
mark_to ms zero = ms
mark_to ms (suc t) = set ms t true

-- the targets of the states that qs marks are marked
unfoldable pub spread : List Bool → List State → List Bool → List Bool
spread [] ss ms = ms
spread (q ∷ qs) [] ms = ms
spread (false ∷ qs) (st ∷ ss) ms = spread qs ss ms
spread (true ∷ qs) (st ∷ ss) ms = spread qs ss (foldl mark_to ms st.edges)

-- the states that edges lead to from state 0
unfoldable pub reach_of : List State → List Bool
reach_of ss = settle (same beq) (λ ms. spread ms ss ms) (length ss) (true ∷ replicate (length ss - 1) false)

-- how many of the first n are marked
unfoldable pub rank : List Bool → ℕ → ℕ
rank [] n = 0
rank (m ∷ ms) zero = 0
rank (true ∷ ms) (suc n) = suc (rank ms n)
rank (false ∷ ms) (suc n) = rank ms n

-- an edge word after renumbering
unfoldable pub renumber : List Bool → ℕ → ℕ
renumber ms zero = 0
renumber ms (suc t) = suc (rank ms t)

unfoldable pub kept : List Bool → List Bool → List State → List State
kept marks [] ss = []
kept marks (m ∷ ms) [] = []
kept marks (false ∷ ms) (st ∷ ss) = kept marks ms ss
kept marks (true ∷ ms) (st ∷ ss) =
    record { made = st.made; rows = st.rows; edges = map (renumber marks) st.edges; closed = true } ∷ kept marks ms ss

unfoldable pub collect_of : List State → List State
collect_of ss = let ms : List Bool = reach_of ss in kept ms ms ss
