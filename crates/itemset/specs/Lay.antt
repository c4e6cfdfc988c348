-- Closed rows laid out from marks and contexts of the productions and the kernel's rows, by two cursors. Assumes nothing.
use Rattle.std.specs.Prelude.{Bool, true, false, ◌&&◌, cond, List, [], ◌∷◌, ◌++◌, ℕ, zero, suc, ◌+◌, ◌-◌, ◌*◌, ◌%◌, ltb, eqb, length, get_or}
use Rattle.block.specs.Limits.{DOTS, ITEM, PRODS}
use Rattle.block.specs.Block.{prods}
use Rattle.itemset.specs.Rows.{Row, row}
use Rattle.itemset.specs.declared.closure.Closure.{Closure}

-- the marks of the items with dot 0 that are there, and their contexts, by production
abbrev pub marks_of : Closure → ℕ → Bool
marks_of z q = get_or z.here q false

abbrev pub contexts_of : Closure → ℕ → List ℕ
contexts_of z q = (get_or z.contexts q (record { words = [] })).words

-- the item of row k in the words, or behind the last row a number above every item
unfoldable pub next_item : List ℕ → ℕ → ℕ
next_item ws k = cond (ltb (ITEM * k) (length ws)) (get_or ws (ITEM * k) 0) (DOTS * PRODS)

-- the row of production p with dot 0, if it is marked
unfoldable pub zero_row : (ℕ → Bool) → (ℕ → List ℕ) → ℕ → List Row
zero_row here ctx p = cond (here p) (row (DOTS * p) (ctx p) ∷ []) []

-- a kernel's row, if its dot is not 0
unfoldable pub kept_row : Row → List Row
kept_row (row i s) = cond (eqb (i % DOTS) 0) [] (row i s ∷ [])

-- dot 0 of production p stands before the rows
unfoldable pub first : ℕ → List Row → Bool
first p [] = true
first p (row i s ∷ rs) = ltb (DOTS * p) i

-- n steps, from production p of N and the kernel's rows rs on
unfoldable pub lay : (ℕ → Bool) → (ℕ → List ℕ) → ℕ → ℕ → ℕ → List Row → List Row
lay here ctx N zero p rs = []
lay here ctx N (suc n) p rs =
    elim (ltb p N && first p rs) [
      | true ↦ zero_row here ctx p ++ lay here ctx N n (suc p) rs
      | false ↦ elim rs [ [] ↦ [] | r ∷ ss ↦ kept_row r ++ lay here ctx N n p ss ]
    ]

-- all that is left from there on
unfoldable pub lay_from : (ℕ → Bool) → (ℕ → List ℕ) → ℕ → ℕ → List Row → List Row
lay_from here ctx N p rs = lay here ctx N (N - p + length rs) p rs

unfoldable pub lay_of : List ℕ → (ℕ → Bool) → (ℕ → List ℕ) → List Row → List Row
lay_of b here ctx K = lay_from here ctx (prods b) 0 K
