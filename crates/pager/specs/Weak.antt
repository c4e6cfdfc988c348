-- Rule 6: weak compatibility of two kernels, and their union. Assumes nothing.
use Rattle.std.specs.Prelude.{Bool, not, ◌||◌, ◌&&◌, List, [], ◌∷◌, ℕ, eqb}
use Rattle.block.specs.Lists.{same}
use Rattle.block.specs.Sets.{join, meets}
use Rattle.itemset.specs.Rows.{Row, row}
use Rattle.pager.specs.Lists.{pairwise}

unfoldable pub item_same : Row → Row → Bool
item_same (row i s) (row j t) = eqb i j

-- the contexts of each item, here and there
unfoldable pub contexts : List Row → List Row → List (List ℕ × List ℕ)
contexts [] ls = []
contexts (r ∷ ks) [] = []
contexts (row i s ∷ ks) (row j t ∷ ls) = (s, t) ∷ contexts ks ls

-- of two items, each with its context here and there: no token shared crosswise, or one is shared here, or there
unfoldable pub apart : List ℕ × List ℕ → List ℕ × List ℕ → Bool
apart i j = not (meets i.0 j.1 || meets j.0 i.1) || meets i.0 j.0 || meets i.1 j.1

unfoldable pub compatible : List Row → List Row → Bool
compatible K L = same item_same K L && pairwise apart (contexts K L)

-- the union of two kernels with the same items
unfoldable pub union : List Row → List Row → List Row
union [] ls = []
union (r ∷ ks) [] = r ∷ ks
union (row i s ∷ ks) (row j t ∷ ls) = row i (join s t) ∷ union ks ls
