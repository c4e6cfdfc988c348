-- When a block is refused: document 01's table, 1 to 6 and 18, a test a row. Assumes nothing.
use Rattle.std.specs.Prelude.{Bool, true, false, ◌||◌, ◌&&◌, not, cond, List, [], ◌∷◌, ◌≡◌, ℕ, zero, suc, ◌+◌, ◌/◌, ◌%◌, ◌<◌, ltb, leb, eqb, length, get_or}
use Rattle.block.specs.Limits.{HEADER, TOKENS, RULES, PRODS, SYMBOLS, LENGTH, LEVEL}
use Rattle.block.specs.Lists.{any, upto}
use Rattle.block.specs.Block.{tokens, rules, prods, symbols, end_token_of, start_prod, symbols_at, precs_at, rule_of, first_of, length_of, prod_prec, symbol_at, token_prec, body_of}

-- ---- 1, first half
unfoldable pub short_block : List ℕ → Bool
short_block b = ltb (length b) HEADER

-- ---- 2
abbrev pub between : ℕ → ℕ → ℕ → Bool
between lo hi n = leb lo n && leb n hi

unfoldable pub too_large : List ℕ → Bool
too_large b =
    not (between 1 TOKENS (tokens b) && between 1 RULES (rules b) && between 1 PRODS (prods b) && between 0 SYMBOLS (symbols b))

-- ---- 1, second half
unfoldable pub misplaced : List ℕ → Bool
misplaced b =
    not (eqb (get_or b 6 0) HEADER && eqb (get_or b 7 0) (symbols_at b) && eqb (get_or b 8 0) (precs_at b) && eqb (length b) (precs_at b + tokens b))

-- ---- 3
-- the sum of the lengths of the first n productions
unfoldable pub lengths : List ℕ → ℕ → ℕ
lengths b zero = 0
lengths b (suc n) = lengths b n + length_of b n

unfoldable pub good_production : List ℕ → ℕ → Bool
good_production b p = ltb (rule_of b p) (rules b) && eqb (first_of b p) (lengths b p) && leb (length_of b p) LENGTH

unfoldable pub bad_production : List ℕ → Bool
bad_production b = any (λ p. not (good_production b p)) (upto (prods b)) || not (eqb (lengths b (prods b)) (symbols b))

-- ---- 4
-- another production than the start production has its rule
unfoldable pub start_again : List ℕ → ℕ → Bool
start_again b p = eqb (rule_of b p) (rule_of b (start_prod b)) && not (eqb p (start_prod b))

unfoldable pub bad_start : List ℕ → Bool
bad_start b =
    not (ltb (end_token_of b) (tokens b) && ltb (start_prod b) (prods b) && eqb (length_of b (start_prod b)) 1 && eqb (symbol_at b (first_of b (start_prod b)) % 2) 0)
    || any (start_again b) (upto (prods b))

-- ---- 5
-- a rule below R but not the start rule, or a token below T but not the end token
unfoldable pub good_symbol : List ℕ → ℕ → Bool
good_symbol b x =
    cond (eqb (x % 2) 0)
    (ltb (x / 2) (rules b) && not (eqb (x / 2) (rule_of b (start_prod b))))
    (ltb (x / 2) (tokens b) && not (eqb (x / 2) (end_token_of b)))

unfoldable pub bad_symbol : List ℕ → Bool
bad_symbol b = any (λ i. not (good_symbol b (symbol_at b i))) (upto (symbols b))

-- ---- 6
unfoldable pub good_prec : ℕ → Bool
good_prec w = eqb w 0 || not (eqb (w % 4) 0) && leb (w / 4) LEVEL

unfoldable pub bad_precedence : List ℕ → Bool
bad_precedence b =
    any (λ p. not (good_prec (prod_prec b p))) (upto (prods b)) || any (λ t. not (good_prec (token_prec b t))) (upto (tokens b))

-- ---- in document 01's order
-- the first test that holds gives its number; 0 for none
unfoldable pub first_fault : List ℕ → List ((List ℕ → Bool) × ℕ) → ℕ
first_fault b [] = 0
first_fault b (c ∷ cs) = elim (c.0 b) [ true ↦ c.1 | false ↦ first_fault b cs ]

unfoldable pub refusal_of : List ℕ → ℕ
refusal_of b =
    first_fault b
    ((short_block, 1) ∷ (too_large, 2) ∷ (misplaced, 1) ∷ (bad_production, 3) ∷ (bad_start, 4) ∷ (bad_symbol, 5) ∷ (bad_precedence, 6) ∷ [])

-- a block that is not refused
pub record Good (b : List ℕ) : Type 0 where
  pub unrefused : refusal_of b ≡ 0

-- a production of a good block
pub record Known (b : List ℕ) (p : ℕ) : Type 0 where
  pub good : Good b
  pub below : p < prods b

-- ---- the two queries of a right side: why it is empty, and the part
unfoldable pub body_refusal : List ℕ → ℕ → ℕ
body_refusal b p = elim (refusal_of b) [ zero ↦ cond (ltb p (prods b)) 0 18 | suc n ↦ suc n ]

unfoldable pub body_part : List ℕ → ℕ → List ℕ
body_part b p = elim (body_refusal b p) [ zero ↦ body_of b p | suc n ↦ [] ]
