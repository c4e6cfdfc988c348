-- What the calls of this crate are lent, and what they leave. Assumes nothing.
use Rattle.std.specs.Prelude.{List, ◌++◌, ◌≡◌, ℕ, ◌+◌, ◌*◌, ◌≤◌, ◌<◌, length, drop}
use Rattle.block.specs.Limits.{WORDS, ITEM}
use Rattle.block.specs.Block.{prods, symbols}
use Rattle.block.specs.Refusal.{Good}
use Rattle.block.specs.Sets.{Fits}
use Rattle.itemset.specs.Rows.{Row, Rows, words_of}

-- the words are rows of a good block
pub record RowsIn (b ws : List ℕ) (rs : List Row) : Type 0 where
  pub good : Good b
  pub rows : Rows b rs
  pub words : ws ≡ words_of rs

-- for a closure: the rows of a kernel, and room for every row
pub record ForClosure (b ws out : List ℕ) (K : List Row) : Type 0 where
  pub kernel : RowsIn b ws K
  pub room : ITEM * (symbols b + prods b) ≤ length out

-- to lay rows out: the rows of a kernel, contexts that are token sets, and room for every row
pub record ForLay (b ws out : List ℕ) (ctx : ℕ → List ℕ) (K : List Row) : Type 0 where
  pub kernel : RowsIn b ws K
  pub fits : (q : ℕ) → q < prods b → Fits WORDS (ctx q)
  pub room : ITEM * (symbols b + prods b) ≤ length out

-- for a goto: closed rows, and room for every row with its dot moved
pub record ForGoto (b ws out : List ℕ) (C : List Row) : Type 0 where
  pub closed : RowsIn b ws C
  pub room : ITEM * symbols b ≤ length out

-- the words ws, and behind them what stood in out
unfoldable pub over : List ℕ → List ℕ → List ℕ
over ws out = ws ++ drop (length ws) out

-- the rows stand in front, and the answer is their number
pub record Wrote (rs : List Row) (n : ℕ) (before after : List ℕ) : Type 0 where
  pub count : n ≡ length rs
  pub words : after ≡ over (words_of rs) before
