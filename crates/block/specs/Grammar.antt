-- The grammar that a block stands for. Assumes nothing.
use Rattle.std.specs.Prelude.{cond, List, map, ℕ, ◌/◌, ◌%◌, eqb}
use Rattle.knuth.specs.Grammar.{Sym, rule, token, Grammar}
use Rattle.block.specs.Block.{tokens, rules, prods, end_token_of, start_prod, rule_of, body_of}

-- rule r is 2r, token t is 2t + 1
abbrev pub symbol : ℕ → Sym
symbol x = cond (eqb (x % 2) 0) (rule (x / 2)) (token (x / 2))

abbrev pub grammar_of : List ℕ → Grammar
grammar_of b =
    record {
      tokens = tokens b;
      rules = rules b;
      prods = prods b;
      lhs = λ p. rule_of b p;
      body = λ p. map symbol (body_of b p);
      start = start_prod b;
      end = end_token_of b;
    }
