-- Rule 2 as a statement: the closure's rows are the closure of knuth, item by item and token by token, an item with an empty context
-- included; and so the least map that holds the kernel and is closed. Assumes nothing.
use mathlib.Core.List.{List, foldl}
use Rattle.std.specs.Prelude.{◌↔◌, ◌≡◌, ℕ, ◌+◌, ◌*◌, ◌<◌}
use Rattle.knuth.specs.Kernel.{Kernel, ◌⊑◌}
use Rattle.knuth.specs.Closure.{Closed, Holds, Closing}
use Rattle.block.specs.Limits.{DOTS}
use Rattle.block.specs.Grammar.{grammar_of}
use Rattle.block.specs.First.{Ahead}
use Rattle.itemset.specs.Rows.{Row, Present, Token, Rows}
use Rattle.itemset.specs.Close.{give, close_of}
use Rattle.itemset.specs.Kernel.{kernel_of}

pub record Rule2 (b : List ℕ) (F : List Ahead) (K : List Row) : Type 1 where
  pub rows : Rows b (close_of b F K)
  pub items : (p d : ℕ) → d < DOTS → Present (DOTS * p + d) (close_of b F K) ↔ Closed (grammar_of b) (kernel_of K) p d
  pub tokens : (p d t : ℕ) → d < DOTS → Token (DOTS * p + d) t (close_of b F K) ↔ Holds (grammar_of b) (kernel_of K) p d t
  -- the least map
  pub closing : Closing (grammar_of b) (kernel_of K) (kernel_of (close_of b F K))
  pub least : (L : Kernel) → Closing (grammar_of b) (kernel_of K) L → kernel_of (close_of b F K) ⊑ L
  -- the fuel was not used up: one more round changes nothing
  pub fixed : foldl (give b F) (close_of b F K) (close_of b F K) ≡ close_of b F K
