-- Rule 4: the symbols behind dots in order of first sight, and the goto kernel of each. Assumes nothing.
use Rattle.std.specs.Prelude.{cond, ℕ, suc, eqb}
use mathlib.Core.List.{List, [], ◌∷◌, ◌++◌, foldl, map}
use Rattle.block.specs.Lists.{any}
use Rattle.itemset.specs.Rows.{Row, row}
use Rattle.itemset.specs.Close.{rest_of}

unfoldable pub sight : List ℕ → List ℕ → Row → List ℕ
sight b seen (row i s) =
    elim (rest_of b i) [
      | [] ↦ seen
      | x ∷ w ↦ cond (any (eqb x) seen) seen (seen ++ (x ∷ []))
    ]

unfoldable pub sights_of : List ℕ → List Row → List ℕ
sights_of b rs = foldl (sight b) [] rs

-- the row with its dot moved over x, if x stands behind it
unfoldable pub move : List ℕ → ℕ → Row → List Row
move b x (row i s) =
    elim (rest_of b i) [
      | [] ↦ []
      | y ∷ w ↦ cond (eqb x y) (row (suc i) s ∷ []) []
    ]

unfoldable pub goto_of : List ℕ → List Row → ℕ → List Row
goto_of b [] x = []
goto_of b (r ∷ rs) x = move b x r ++ goto_of b rs x

-- the goto kernels of closed rows, each with its symbol
unfoldable pub gotos_of : List ℕ → List Row → List (ℕ × List Row)
gotos_of b C = map (λ x. (x, goto_of b C x)) (sights_of b C)
