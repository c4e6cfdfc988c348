-- Rows as words, as the calls that compare and join them are lent them. Assumes nothing.
use Rattle.std.specs.Prelude.{Bool, List, ◌++◌, ◌≡◌, ℕ, ◌+◌, ◌*◌, length, take, drop}
use Rattle.block.specs.Limits.{WORDS, ITEM}
use Rattle.itemset.specs.Rows.{Row, words_of, Sets}
use Rattle.pager.specs.Weak.{apart}

-- the words are rows, each with a token set
pub record RowWords (ws : List ℕ) (K : List Row) : Type 0 where
  pub sets : Sets K
  pub words : ws ≡ words_of K

-- the rows K stand from row n on, with other words before and behind
pub record RowsAt (n : ℕ) (before : List ℕ) (K : List Row) (behind ws : List ℕ) : Type 0 where
  pub place : length before ≡ ITEM * n
  pub sets : Sets K
  pub words : ws ≡ before ++ (words_of K ++ behind)

-- the context of row n
unfoldable pub context_at : List ℕ → ℕ → List ℕ
context_at ws n = take WORDS (drop (ITEM * n + 1) ws)

-- rule 6's test of rows i and j
unfoldable pub apart_at : List ℕ → List ℕ → ℕ → ℕ → Bool
apart_at ws us i j = apart (context_at ws i, context_at us i) (context_at ws j, context_at us j)
