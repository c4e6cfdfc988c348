-- Rule 2: the closure of a kernel, as rows. Assumes nothing.
use Rattle.std.specs.Prelude.{true, false, cond, ℕ, ◌+◌, ◌*◌, ◌/◌, ◌%◌, ◌^◌, ltb, eqb, drop}
use mathlib.Core.List.{List, [], ◌∷◌, foldl}
use Rattle.block.specs.Limits.{WORDS, DOTS}
use Rattle.block.specs.Lists.{settle}
use Rattle.block.specs.Block.{prods, body_of, prods_of}
use Rattle.block.specs.Sets.{join}
use Rattle.block.specs.First.{Ahead, ahead, ahead_of}
use Rattle.itemset.specs.Rows.{Row, row, same_rows}

-- an item with a context comes into ascending rows
unfoldable pub put : ℕ → List ℕ → List Row → List Row
put i s [] = row i s ∷ []
put i s (row j t ∷ rs) =
    elim (ltb i j) [
      | true ↦ row i s ∷ row j t ∷ rs
      | false ↦ elim (eqb i j) [ true ↦ row j (join t s) ∷ rs | false ↦ row j t ∷ put i s rs ]
    ]

-- what stands behind the dot
unfoldable pub rest_of : List ℕ → ℕ → List ℕ
rest_of b i = drop (i % DOTS) (body_of b (i / DOTS))

-- what an item with the context s hands to the productions of the rule behind its dot: FIRST of what follows that rule, and its own
-- context if that is nullable
unfoldable pub handed : List ℕ → Ahead → List ℕ
handed s (ahead true f) = join f s
handed s (ahead false f) = f

-- every production of rule r comes in with dot 0 and the context s
unfoldable pub opening : List ℕ → ℕ → List ℕ → List Row → List Row
opening b r s rs = foldl (λ a q. put (DOTS * q) s a) rs (prods_of b r)

-- what one row gives: each production of the rule behind its dot
unfoldable pub give : List ℕ → List Ahead → List Row → Row → List Row
give b F rs (row i s) =
    elim (rest_of b i) [
      | [] ↦ rs
      | x ∷ w ↦ cond (eqb (x % 2) 0) (opening b (x / 2) (handed s (ahead_of F w)) rs) rs
    ]

-- Far fewer rounds than the fuel change something (proofs/Fuel).
unfoldable pub close_of : List ℕ → List Ahead → List Row → List Row
close_of b F K = settle same_rows (λ rs. foldl (give b F) rs rs) (DOTS * prods b * (WORDS * 2 ^ 64 + 1)) K
