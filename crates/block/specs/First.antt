-- Rule 1: nullable and FIRST, by rounds over the productions. Assumes nothing.
use Rattle.std.specs.Prelude.{Bool, true, false, ◌||◌, ◌&&◌, cond, ◌≡◌, ℕ, ◌+◌, ◌*◌, ◌/◌, ◌%◌, ◌^◌, ◌<◌, eqb, get_or, replicate}
use Rattle.std.specs.Bool.{beq}
use mathlib.Core.List.{List, [], ◌∷◌, foldl}
use Rattle.block.specs.Limits.{WORDS, RULES, TOKENS}
use Rattle.block.specs.Lists.{upto, same, settle, change}
use Rattle.block.specs.Block.{rules, prods, rule_of, body_of}
use Rattle.block.specs.Sets.{empty, with, join, same_set}
use Rattle.block.specs.declared.lookahead.Lookahead.{Lookahead}

-- whether nothing may be derived, and the tokens that may come first
pub data Ahead : Type 0 where
  ahead : (null : Bool) (first : List ℕ) → Ahead

abbrev pub is_null : Ahead → Bool
is_null (ahead n f) = n

abbrev pub first_in : Ahead → List ℕ
first_in (ahead n f) = f

abbrev pub nothing : Ahead
nothing = ahead false empty

-- one with another behind it
unfoldable pub behind : Ahead → Ahead → Ahead
behind (ahead false s) a = ahead false s
behind (ahead true s) (ahead n t) = ahead n (join s t)

unfoldable pub either : Ahead → Ahead → Ahead
either (ahead m s) (ahead n t) = ahead (m || n) (join s t)

unfoldable pub ahead_same : Ahead → Ahead → Bool
ahead_same (ahead m s) (ahead n t) = beq m n && same_set s t

-- of one symbol, F being the list of the rules' own
unfoldable pub ahead_sym : List Ahead → ℕ → Ahead
ahead_sym F x = cond (eqb (x % 2) 0) (get_or F (x / 2) nothing) (ahead false (with empty (x / 2)))

-- of a list of symbols
unfoldable pub ahead_of : List Ahead → List ℕ → Ahead
ahead_of F [] = ahead true empty
ahead_of F (x ∷ w) = behind (ahead_sym F x) (ahead_of F w)

-- production p adds what its body has ahead to its rule
unfoldable pub add_prod : List ℕ → List Ahead → ℕ → List Ahead
add_prod b F p = change (λ a. either a (ahead_of F (body_of b p))) (rule_of b p) F

-- one round: the productions in order
abbrev pub round_of : List ℕ → List Ahead → List Ahead
round_of b F = foldl (add_prod b) F (upto (prods b))

-- Far fewer rounds than the fuel change something (proofs/FirstFuel).
unfoldable pub firsts_of : List ℕ → List Ahead
firsts_of b = settle (same ahead_same) (round_of b) (rules b * (WORDS * 2 ^ 64 + 1)) (replicate (rules b) nothing)

-- what `Lookahead::of` answers is a
pub record AheadIs (l : Lookahead) (a : Ahead) : Type 0 where
  pub null : l.null ≡ is_null a
  pub words : l.set.words ≡ first_in a

-- the number of a symbol is within the limits
pub record Within (x : ℕ) : Type 0 where
  pub rule : x % 2 ≡ 0 → x / 2 < RULES
  pub token : x % 2 ≡ 1 → x / 2 < TOKENS

-- every symbol's is
abbrev pub Small : List ℕ → Type 0
Small [] = Unit {0}
Small (x ∷ w) = Within x × Small w
