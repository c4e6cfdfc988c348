-- Each test of a block decides its row of document 01's table. Assumes nothing.
use mathlib.Core.Bool.{not}
use mathlib.Core.List.{List}
use mathlib.Core.Logic.{inl, inr, ⊎_elim, ◌≢◌}
use mathlib.Core.Path.{◌≡◌}
use Prim.Native.Nat.{ℕ, ◌+◌, ◌/◌, ◌%◌, ◌<◌}
use native.Mathlib.Omega.{arith}
use lib.ListN.{length, get_or}
use Rattle.block.specs.Limits.{HEADER, TOKENS, RULES, PRODS, SYMBOLS, LENGTH, LEVEL}
use Rattle.block.specs.Lists.{any, upto}
use Rattle.block.specs.Block.{tokens, rules, prods, symbols, end_token_of, start_prod, symbols_at, precs_at, rule_of, first_of, length_of, prod_prec, symbol_at, token_prec}
use Rattle.block.specs.Refusal.{between, short_block, too_large, misplaced, lengths, good_production, bad_production, start_again, bad_start, good_symbol, bad_symbol, good_prec, bad_precedence}
use Rattle.block.specs.Exact.{Short, Outside, under, over, TooLarge, tokens-out, rules-out, prods-out, symbols-out, Misplaced, prods-differ, symbols-differ, precs-differ, length-differs, WrongProduction, no-rule, first-wrong, too_long, BadProduction, wrong-production, sum-differs, BadStart, end-past, start-past, not-one, not-rule, again, WrongSymbol, rule-past, start-rule, token-past, end_token, BadSymbol, wrong-symbol, WrongPrec, no_kind, level-past, BadPrecedence, of-prod, of-token}
use Rattle.block.proofs.Says.{Says, Denies, says-not, says_map, says-or, says-and, denies-map, denies-or, denies-and, denies-not, denies-cond, says-lt, denies-lt, denies-le, says_eq, denies-eq, says_any}

pub between-denies : (lo hi n : ℕ) → Denies (between lo hi n) (Outside lo hi n)
between-denies lo hi n =
    denies-map (⊎_elim under over) (elim [ under h ↦ inl h | over h ↦ inr h ]) (denies-and (denies-le lo n) (denies-le n hi))

-- a word that is no precedence
pub prec-denies : (w : ℕ) → Denies (good_prec w) (WrongPrec w)
unfolding good_prec
prec-denies w =
    denies-map (λ h. ⊎_elim (λ k. no_kind h.0 k) level-past h.1) (elim [ no_kind n k ↦ (n, inl k) | level-past k ↦ ((λ e. omega arith), inr k) ])
    (denies-or (denies-eq w 0) (denies-and (denies-not (says_eq (w % 4) 0)) (denies-le (w / 4) LEVEL)))

module _ (b : List ℕ) where
  pub short-says : Says (short_block b) (Short b)
  unfolding short_block
  short-says = says-lt (length b) HEADER

  pub large-says : Says (too_large b) (TooLarge b)
  unfolding too_large
  large-says =
      says_map (⊎_elim (⊎_elim (⊎_elim tokens-out rules-out) prods-out) symbols-out)
      (elim [ tokens-out h ↦ inl (inl (inl h)) | rules-out h ↦ inl (inl (inr h)) | prods-out h ↦ inl (inr h) | symbols-out h ↦ inr h ])
      (says-not (denies-and (denies-and (denies-and (between-denies 1 TOKENS (tokens b)) (between-denies 1 RULES (rules b))) (between-denies 1 PRODS (prods b)))
      (between-denies 0 SYMBOLS (symbols b))))

  pub misplaced-says : Says (misplaced b) (Misplaced b)
  unfolding misplaced
  misplaced-says =
      says_map (⊎_elim (⊎_elim (⊎_elim prods-differ symbols-differ) precs-differ) length-differs)
      (elim [ prods-differ h ↦ inl (inl (inl h)) | symbols-differ h ↦ inl (inl (inr h)) | precs-differ h ↦ inl (inr h) | length-differs h ↦ inr h ])
      (says-not (denies-and (denies-and (denies-and (denies-eq (get_or b 6 0) HEADER) (denies-eq (get_or b 7 0) (symbols_at b))) (denies-eq (get_or b 8 0) (precs_at b)))
      (denies-eq (length b) (precs_at b + tokens b))))

  pub production-denies : (p : ℕ) → Denies (good_production b p) (WrongProduction b p)
  unfolding good_production
  production-denies p =
      denies-map (⊎_elim (⊎_elim no-rule first-wrong) too_long) (elim [ no-rule h ↦ inl (inl h) | first-wrong h ↦ inl (inr h) | too_long h ↦ inr h ])
      (denies-and (denies-and (denies-lt (rule_of b p) (rules b)) (denies-eq (first_of b p) (lengths b p))) (denies-le (length_of b p) LENGTH))

  pub productions-says : Says (bad_production b) (BadProduction b)
  unfolding bad_production
  productions-says =
      says_map (⊎_elim (λ h. wrong-production h.0 h.1 h.2) sum-differs) (elim [ wrong-production p l h ↦ inl (p, l, h) | sum-differs h ↦ inr h ])
      (says-or (says_any (λ p. not (good_production b p)) (λ p. says-not (production-denies p)) (prods b)) (says-not (denies-eq (lengths b (prods b)) (symbols b))))

  pub again-says : (p : ℕ) → Says (start_again b p) ((rule_of b p ≡ rule_of b (start_prod b)) × (p ≢ start_prod b))
  unfolding start_again
  again-says p = says-and (says_eq (rule_of b p) (rule_of b (start_prod b))) (says-not (denies-eq p (start_prod b)))

  pub start-says : Says (bad_start b) (BadStart b)
  unfolding bad_start
  start-says =
      says_map (⊎_elim (⊎_elim (⊎_elim (⊎_elim end-past start-past) not-one) not-rule) (λ h. again h.0 h.1 h.2.0 h.2.1))
      (elim [ end-past h ↦ inl (inl (inl (inl h))) | start-past h ↦ inl (inl (inl (inr h))) | not-one h ↦ inl (inl (inr h)) | not-rule h ↦ inl (inr h) | again p l e n ↦ inr (p, l, (e, n)) ])
      (says-or
      (says-not (denies-and (denies-and (denies-and (denies-lt (end_token_of b) (tokens b)) (denies-lt (start_prod b) (prods b))) (denies-eq (length_of b (start_prod b)) 1))
      (denies-eq (symbol_at b (first_of b (start_prod b)) % 2) 0)))
      (says_any (start_again b) again-says (prods b)))

  pub symbol-denies : (x : ℕ) → Denies (good_symbol b x) (WrongSymbol b x)
  unfolding good_symbol
  symbol-denies x =
      denies-map
      (⊎_elim (λ h. ⊎_elim (λ k. rule-past (x / 2) (omega (arith, h.0)) k) (λ k. start-rule (omega (arith, h.0))) h.1)
      (λ h. ⊎_elim (λ k. token-past (x / 2) (omega (arith, h.0)) k) (λ k. end_token (omega (arith, h.0))) h.1))
      (elim [
        | rule-past r e k ↦ inl (omega arith, inl (omega arith))
        | start-rule e ↦ inl (omega arith, inr (omega arith))
        | token-past t e k ↦ inr ((λ z. omega arith), inl (omega arith))
        | end_token e ↦ inr ((λ z. omega arith), inr (omega arith))
      ])
      (denies-cond (says_eq (x % 2) 0)
      (denies-and (denies-lt (x / 2) (rules b)) (denies-not (says_eq (x / 2) (rule_of b (start_prod b)))))
      (denies-and (denies-lt (x / 2) (tokens b)) (denies-not (says_eq (x / 2) (end_token_of b)))))

  pub symbols-says : Says (bad_symbol b) (BadSymbol b)
  unfolding bad_symbol
  symbols-says =
      says_map (λ h. wrong-symbol h.0 h.1 h.2) (elim [ wrong-symbol i l h ↦ (i, l, h) ])
      (says_any (λ i. not (good_symbol b (symbol_at b i))) (λ i. says-not (symbol-denies (symbol_at b i))) (symbols b))

  pub prod-precs-says : Says (any (λ p. not (good_prec (prod_prec b p))) (upto (prods b))) ((p : ℕ) × (p < prods b) × WrongPrec (prod_prec b p))
  prod-precs-says = says_any (λ p. not (good_prec (prod_prec b p))) (λ p. says-not (prec-denies (prod_prec b p))) (prods b)

  pub token-precs-says : Says (any (λ t. not (good_prec (token_prec b t))) (upto (tokens b))) ((t : ℕ) × (t < tokens b) × WrongPrec (token_prec b t))
  token-precs-says = says_any (λ t. not (good_prec (token_prec b t))) (λ t. says-not (prec-denies (token_prec b t))) (tokens b)

  pub precs-says : Says (bad_precedence b) (BadPrecedence b)
  unfolding bad_precedence
  precs-says =
      says_map (⊎_elim (λ h. of-prod h.0 h.1 h.2) (λ h. of-token h.0 h.1 h.2))
      (elim [ of-prod p l h ↦ inl (p, l, h) | of-token t l h ↦ inr (t, l, h) ]) (says-or prod-precs-says token-precs-says)
