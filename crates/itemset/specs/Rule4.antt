-- Rule 4 as a statement: the symbols sighted are those behind the dots of the closure, each once; and the goto rows of each are goto of knuth.
-- Assumes nothing.
use mathlib.Core.List.{List, [], Memᴰ}
use Rattle.std.specs.Prelude.{◌↔◌, ◌≢◌, ◌≡◌, ℕ, ◌+◌, ◌%◌, ◌≤◌, ◌<◌, length, get_or}
use Rattle.knuth.specs.Grammar.{In}
use Rattle.knuth.specs.Kernel.{◌≈◌}
use Rattle.knuth.specs.Closure.{goto}
use Rattle.knuth.specs.Automaton.{Before}
use Rattle.block.specs.Limits.{DOTS, RULES, TOKENS}
use Rattle.block.specs.Block.{tokens, rules, symbols}
use Rattle.block.specs.Grammar.{symbol, grammar_of}
use Rattle.block.specs.First.{Ahead, Within}
use Rattle.itemset.specs.Rows.{Row, Present, Rows}
use Rattle.itemset.specs.Kernel.{kernel_of}
use Rattle.itemset.specs.Close.{close_of}
use Rattle.itemset.specs.Goto.{sights_of, goto_of}

-- the symbols sighted in rows: none twice, each within the limits and of the grammar, and so not many
pub record Sights (b : List ℕ) (C : List Row) : Type 0 where
  pub once : (i j : ℕ) → i < length (sights_of b C) → j < length (sights_of b C) → get_or (sights_of b C) i 0 ≡ get_or (sights_of b C) j 0 → i ≡ j
  pub within : (x : ℕ) → Memᴰ x (sights_of b C) → Within x
  pub known : (x : ℕ) → Memᴰ x (sights_of b C) → In (grammar_of b) (symbol x)
  pub few : length (sights_of b C) ≤ rules b + tokens b
  pub limit : length (sights_of b C) ≤ RULES + TOKENS

-- the goto rows of rows: rows of the grammar with no dot in front, and so not many
pub record Moves (b : List ℕ) (C : List Row) (x : ℕ) : Type 0 where
  pub rows : Rows b (goto_of b C x)
  pub dots : (k : ℕ) → Present k (goto_of b C x) → 1 ≤ k % DOTS
  pub few : length (goto_of b C x) ≤ symbols b

pub record Rule4 (b : List ℕ) (F : List Ahead) (K : List Row) : Type 0 where
  pub sights : Sights b (close_of b F K)
  pub moves : (x : ℕ) → Moves b (close_of b F K) x
  -- exactly the symbols behind the dots of the closure are sighted
  pub sighted : (x : ℕ) → Memᴰ x (sights_of b (close_of b F K)) ↔ ((p : ℕ) × (d : ℕ) × Before (grammar_of b) (kernel_of K) (symbol x) p d)
  -- the goto rows are goto, item by item and token by token
  pub goes : (x : ℕ) → kernel_of (goto_of b (close_of b F K) x) ≈ goto (grammar_of b) (kernel_of K) (symbol x)
  pub some : (x : ℕ) → Memᴰ x (sights_of b (close_of b F K)) → goto_of b (close_of b F K) x ≢ []
