-- Rule 1 as a statement: what the rounds give is nullable and FIRST of derivations (knuth). Assumes nothing.
use Rattle.std.specs.Prelude.{true, List, [], ◌∷◌, map, ◌↔◌, ◌≡◌, ℕ, get_or}
use Rattle.knuth.specs.Grammar.{rule}
use Rattle.knuth.specs.First.{First, Nullable}
use Rattle.block.specs.Grammar.{symbol, grammar_of}
use Rattle.block.specs.Sets.{In}
use Rattle.block.specs.First.{Ahead, is_null, first_in, nothing, ahead_of, Small}

-- F is right of every rest of symbols, and of every rule
pub record Rule1 (b : List ℕ) (F : List Ahead) : Type 0 where
  pub null : (w : List ℕ) → Small w → (is_null (ahead_of F w) ≡ true) ↔ Nullable (grammar_of b) (map symbol w)
  pub first : (w : List ℕ) → Small w → (t : ℕ) → In (first_in (ahead_of F w)) t ↔ First (grammar_of b) (map symbol w) t
  pub rule-null : (r : ℕ) → (is_null (get_or F r nothing) ≡ true) ↔ Nullable (grammar_of b) (rule r ∷ [])
  pub rule-first : (r t : ℕ) → In (first_in (get_or F r nothing)) t ↔ First (grammar_of b) (rule r ∷ []) t
