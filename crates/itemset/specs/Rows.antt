-- Kernels and closed states as rows: an item and its context, ascending by item. Assumes nothing.
use Rattle.std.specs.Prelude.{Bool, ◌&&◌, List, [], ◌∷◌, ◌++◌, ◌⊎◌, ◌≡◌, ℕ, suc, ◌/◌, ◌%◌, ◌≤◌, ◌<◌, eqb}
use Rattle.block.specs.Limits.{WORDS, DOTS}
use Rattle.block.specs.Lists.{same}
use Rattle.block.specs.Block.{prods, length_of}
use Rattle.block.specs.Sets.{In, Fits, same_set}

-- an item, DOTS × production + dot, and its context
pub data Row : Type 0 where
  row : (item : ℕ) (context : List ℕ) → Row

-- the words of rows, one row behind the other
unfoldable pub words_of : List Row → List ℕ
words_of [] = []
words_of (row i s ∷ rs) = i ∷ (s ++ words_of rs)

unfoldable pub same_row : Row → Row → Bool
same_row (row i s) (row j t) = eqb i j && same_set s t

abbrev pub same_rows : List Row → List Row → Bool
same_rows = same same_row

-- item k is there; and with token t
abbrev pub Present : ℕ → List Row → Type 0
Present k [] = ⊥
Present k (row i s ∷ rs) = (k ≡ i) ⊎ Present k rs

abbrev pub Token : ℕ → ℕ → List Row → Type 0
Token k t [] = ⊥
Token k t (row i s ∷ rs) = ((k ≡ i) × In s t) ⊎ Token k t rs

-- the rows ascend strictly from n on
abbrev pub From : ℕ → List Row → Type 0
From n [] = Unit {0}
From n (row i s ∷ rs) = (n ≤ i) × From (suc i) rs

-- each context is a token set
abbrev pub Sets : List Row → Type 0
Sets [] = Unit {0}
Sets (row i s ∷ rs) = Fits WORDS s × Sets rs

-- an item of the grammar: a production, and a dot within its right side
pub record Item (b : List ℕ) (k : ℕ) : Type 0 where
  pub prod : k / DOTS < prods b
  pub dot : k % DOTS ≤ length_of b (k / DOTS)

-- rows as a state has them: items of the grammar, ascending, each with a token set
pub record Rows (b : List ℕ) (rs : List Row) : Type 0 where
  pub ascend : From 0 rs
  pub sets : Sets rs
  pub items : (k : ℕ) → Present k rs → Item b k
