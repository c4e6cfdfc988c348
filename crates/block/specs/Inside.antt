-- What is known of the productions of a block: where they lie, and which numbers stand in them. Assumes nothing.
use Rattle.std.specs.Prelude.{List, ℕ, ◌+◌, ◌<◌, ◌≤◌}
use Rattle.block.specs.Block.{rules, prods, symbols, rule_of, first_of, length_of}

-- the right sides lie among the symbols
pub record Inside (b : List ℕ) : Type 0 where
  pub body : (p : ℕ) → p < prods b → first_of b p + length_of b p ≤ symbols b

pub record RulesBelow (b : List ℕ) : Type 0 where
  pub rule : (p : ℕ) → p < prods b → rule_of b p < rules b
