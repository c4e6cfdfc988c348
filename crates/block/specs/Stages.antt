-- What the checks so far have shown of a block, for the next ones and for whoever reads it. Assumes nothing.
use Rattle.std.specs.Prelude.{List, ◌≡◌, ℕ, ◌+◌, ◌<◌, ◌≤◌, length}
use Rattle.block.specs.Limits.{HEADER, TOKENS, RULES, PRODS, SYMBOLS}
use Rattle.block.specs.Block.{tokens, rules, prods, symbols, start_prod, precs_at, first_of, length_of}
use Rattle.block.specs.Refusal.{Good}

-- it has a header
pub record Headed (b : List ℕ) : Type 0 where
  pub words : HEADER ≤ length b

-- its sizes are in range
pub record Sized (b : List ℕ) : Type 0 where
  pub words : HEADER ≤ length b
  pub tokens-least : 1 ≤ tokens b
  pub tokens-most : tokens b ≤ TOKENS
  pub rules-least : 1 ≤ rules b
  pub rules-most : rules b ≤ RULES
  pub prods-least : 1 ≤ prods b
  pub prods-most : prods b ≤ PRODS
  pub symbols-most : symbols b ≤ SYMBOLS

-- its sizes are in range, and its length is what they say
pub record Placed (b : List ℕ) : Type 0 where
  pub tokens-least : 1 ≤ tokens b
  pub tokens-most : tokens b ≤ TOKENS
  pub rules-least : 1 ≤ rules b
  pub rules-most : rules b ≤ RULES
  pub prods-least : 1 ≤ prods b
  pub prods-most : prods b ≤ PRODS
  pub symbols-most : symbols b ≤ SYMBOLS
  pub whole : length b ≡ precs_at b + tokens b

-- its right sides lie among its symbols
pub record Listed (b : List ℕ) : Type 0 where
  pub placed : Placed b
  pub inside : (p : ℕ) → p < prods b → first_of b p + length_of b p ≤ symbols b

-- its start production is one
pub record Started (b : List ℕ) : Type 0 where
  pub placed : Placed b
  pub start-in : start_prod b < prods b

-- a token of a good block
pub record KnownToken (b : List ℕ) (t : ℕ) : Type 0 where
  pub good : Good b
  pub below : t < tokens b
