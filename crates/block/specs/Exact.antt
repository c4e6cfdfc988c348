-- Document 01's rows 1 to 6 in plain words, and the number of the first that holds. Assumes nothing.
use Rattle.std.specs.Prelude.{List, [], ◌∷◌, ◌≢◌, ◌⊎◌, ◌≡◌, ℕ, ◌+◌, ◌*◌, ◌/◌, ◌%◌, ◌<◌, ◌≤◌, length, get_or}
use Rattle.block.specs.Limits.{HEADER, TOKENS, RULES, PRODS, SYMBOLS, LENGTH, LEVEL}
use Rattle.block.specs.Block.{tokens, rules, prods, symbols, end_token_of, start_prod, symbols_at, precs_at, rule_of, first_of, length_of, prod_prec, symbol_at, token_prec}
use Rattle.block.specs.Refusal.{lengths}

-- 1: fewer than 9 words
abbrev pub Short : List ℕ → Type 0
Short b = length b < HEADER

-- 2: T, R, P or L outside its range
pub data Outside (lo hi n : ℕ) : Type 0 where
  under : n < lo → Outside lo hi n
  over : hi < n → Outside lo hi n

pub data TooLarge (b : List ℕ) : Type 0 where
  tokens-out : Outside 1 TOKENS (tokens b) → TooLarge b
  rules-out : Outside 1 RULES (rules b) → TooLarge b
  prods-out : Outside 1 PRODS (prods b) → TooLarge b
  symbols-out : Outside 0 SYMBOLS (symbols b) → TooLarge b

-- 1: places or whole length differ
pub data Misplaced (b : List ℕ) : Type 0 where
  prods-differ : get_or b 6 0 ≢ HEADER → Misplaced b
  symbols-differ : get_or b 7 0 ≢ symbols_at b → Misplaced b
  precs-differ : get_or b 8 0 ≢ precs_at b → Misplaced b
  length-differs : length b ≢ precs_at b + tokens b → Misplaced b

-- 3: rule not below R, wrong first index, length over 64, or lengths not summing to L
pub data WrongProduction (b : List ℕ) (p : ℕ) : Type 0 where
  no-rule : rules b ≤ rule_of b p → WrongProduction b p
  first-wrong : first_of b p ≢ lengths b p → WrongProduction b p
  too_long : LENGTH < length_of b p → WrongProduction b p

pub data BadProduction (b : List ℕ) : Type 0 where
  wrong-production : (p : ℕ) → p < prods b → WrongProduction b p → BadProduction b
  sum-differs : lengths b (prods b) ≢ symbols b → BadProduction b

-- 4: end token not below T; start production not below P, not one symbol, not a rule; or its rule has another production
pub data BadStart (b : List ℕ) : Type 0 where
  end-past : tokens b ≤ end_token_of b → BadStart b
  start-past : prods b ≤ start_prod b → BadStart b
  not-one : length_of b (start_prod b) ≢ 1 → BadStart b
  not-rule : symbol_at b (first_of b (start_prod b)) % 2 ≢ 0 → BadStart b
  again : (p : ℕ) → p < prods b → rule_of b p ≡ rule_of b (start_prod b) → p ≢ start_prod b → BadStart b

-- 5: number not below R or T, the end token, or the start rule in any body
pub data WrongSymbol (b : List ℕ) (x : ℕ) : Type 0 where
  rule-past : (r : ℕ) → x ≡ 2 * r → rules b ≤ r → WrongSymbol b x
  start-rule : x ≡ 2 * rule_of b (start_prod b) → WrongSymbol b x
  token-past : (t : ℕ) → x ≡ 2 * t + 1 → tokens b ≤ t → WrongSymbol b x
  end_token : x ≡ 2 * end_token_of b + 1 → WrongSymbol b x

pub data BadSymbol (b : List ℕ) : Type 0 where
  wrong-symbol : (i : ℕ) → i < symbols b → WrongSymbol b (symbol_at b i) → BadSymbol b

-- 6: nonzero word with kind 0 or level too large
pub data WrongPrec (w : ℕ) : Type 0 where
  no_kind : w ≢ 0 → w % 4 ≡ 0 → WrongPrec w
  level-past : LEVEL < w / 4 → WrongPrec w

pub data BadPrecedence (b : List ℕ) : Type 0 where
  of-prod : (p : ℕ) → p < prods b → WrongPrec (prod_prec b p) → BadPrecedence b
  of-token : (t : ℕ) → t < tokens b → WrongPrec (token_prec b t) → BadPrecedence b

-- the rows with their numbers, in the order in which they are looked at
abbrev pub rows : List ℕ → List (Type 0 × ℕ)
rows b =
    (Short b, 1) ∷ (TooLarge b, 2) ∷ (Misplaced b, 1) ∷ (BadProduction b, 3) ∷ (BadStart b, 4) ∷ (BadSymbol b, 5) ∷ (BadPrecedence b, 6) ∷ []

-- n is the number of the first row that holds, 0 where none does
abbrev pub FirstRow : List (Type 0 × ℕ) → ℕ → Type 0
FirstRow [] n = n ≡ 0
FirstRow (r ∷ rs) n = (r.0 × (n ≡ r.1)) ⊎ ((r.0 → ⊥) × FirstRow rs n)

-- no row holds
pub record Clear (b : List ℕ) : Type 0 where
  pub short : Short b → ⊥
  pub large : TooLarge b → ⊥
  pub places : Misplaced b → ⊥
  pub productions : BadProduction b → ⊥
  pub start : BadStart b → ⊥
  pub syms : BadSymbol b → ⊥
  pub precs : BadPrecedence b → ⊥

-- header, places, limits and precedences are right: all that the grammar of a block does not show
pub record Laid (b : List ℕ) : Type 0 where
  pub short : Short b → ⊥
  pub large : TooLarge b → ⊥
  pub places : Misplaced b → ⊥
  pub first-is : (p : ℕ) → p < prods b → first_of b p ≡ lengths b p
  pub length_most : (p : ℕ) → p < prods b → length_of b p ≤ LENGTH
  pub sum : lengths b (prods b) ≡ symbols b
  pub precs : BadPrecedence b → ⊥
