-- The grammar block as a list of words: what stands where. Assumes nothing.
use Rattle.std.specs.Prelude.{List, ℕ, ◌+◌, ◌*◌, eqb, get_or, take, drop}
use Rattle.block.specs.Limits.{HEADER}
use Rattle.block.specs.Lists.{keep, upto}

-- ---- the header
abbrev pub tokens : List ℕ → ℕ
tokens b = get_or b 0 0

abbrev pub rules : List ℕ → ℕ
rules b = get_or b 1 0

abbrev pub prods : List ℕ → ℕ
prods b = get_or b 2 0

abbrev pub symbols : List ℕ → ℕ
symbols b = get_or b 3 0

abbrev pub end_token_of : List ℕ → ℕ
end_token_of b = get_or b 4 0

abbrev pub start_prod : List ℕ → ℕ
start_prod b = get_or b 5 0

-- where the symbols begin, and the token precedences
abbrev pub symbols_at : List ℕ → ℕ
symbols_at b = HEADER + 4 * prods b

abbrev pub precs_at : List ℕ → ℕ
precs_at b = HEADER + 4 * prods b + symbols b

-- ---- production p: rule, index of its first symbol, length, precedence
abbrev pub rule_of : List ℕ → ℕ → ℕ
rule_of b p = get_or b (HEADER + 4 * p) 0

abbrev pub first_of : List ℕ → ℕ → ℕ
first_of b p = get_or b (HEADER + 4 * p + 1) 0

abbrev pub length_of : List ℕ → ℕ → ℕ
length_of b p = get_or b (HEADER + 4 * p + 2) 0

abbrev pub prod_prec : List ℕ → ℕ → ℕ
prod_prec b p = get_or b (HEADER + 4 * p + 3) 0

-- ---- symbol i of all right sides, and the precedence of token t
abbrev pub symbol_at : List ℕ → ℕ → ℕ
symbol_at b i = get_or b (symbols_at b + i) 0

abbrev pub token_prec : List ℕ → ℕ → ℕ
token_prec b t = get_or b (precs_at b + t) 0

-- the right side of production p
unfoldable pub body_of : List ℕ → ℕ → List ℕ
body_of b p = take (length_of b p) (drop (symbols_at b + first_of b p) b)

-- the productions of rule r, ascending
unfoldable pub prods_of : List ℕ → ℕ → List ℕ
prods_of b r = keep (λ p. eqb (rule_of b p) r) (upto (prods b))
