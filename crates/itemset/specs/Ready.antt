-- What is known of a block that is not refused and of its FIRST sets: all that rules 2 and 4 ask of it. Assumes nothing.
use mathlib.Core.List.{List, map, Memᴰ}
use Rattle.std.specs.Prelude.{◌≡◌, ℕ, ◌≤◌, ◌<◌, length}
use Rattle.knuth.specs.Grammar.{Sym, In}
use Rattle.block.specs.Limits.{WORDS, LENGTH}
use Rattle.block.specs.Block.{rules, prods, symbols, rule_of, length_of, body_of}
use Rattle.block.specs.Refusal.{lengths}
use Rattle.block.specs.Grammar.{symbol, grammar_of}
use Rattle.block.specs.Sets.{Fits}
use Rattle.block.specs.First.{Ahead, first_in, ahead_of, Small}
use Rattle.block.specs.Rule1.{Rule1}

pub record Ready (b : List ℕ) (F : List Ahead) : Type 0 where
  -- rule 1, and what it gives is a token set
  pub rule1 : Rule1 b F
  pub fits : (w : List ℕ) → Fits WORDS (first_in (ahead_of F w))
  -- numbers are in range: of rules, of symbols within the limits, and of symbols within the grammar
  pub lhs : (p : ℕ) → p < prods b → rule_of b p < rules b
  pub bodies : (p : ℕ) → p < prods b → Small (body_of b p)
  pub inside : (p : ℕ) → p < prods b → (X : Sym) → Memᴰ X (map symbol (body_of b p)) → In (grammar_of b) X
  -- right sides are as long as they say, not too long, and all of them as long as the symbols
  pub lengthy : (p : ℕ) → p < prods b → length (body_of b p) ≡ length_of b p
  pub short : (p : ℕ) → p < prods b → length_of b p ≤ LENGTH
  pub total : lengths b (prods b) ≡ symbols b
