-- A good block stands for a valid grammar, and a block laid out rightly that does is good. Assumes nothing.
use mathlib.Core.List.{List, [], ◌∷◌, map, head-eq_of_cons-eq, Memᴰ}
use mathlib.Core.Logic.{◌↔◌}
use mathlib.Core.Path.{◌≡◌, refl, sym, ap, ◌∙◌, subst}
use Prim.Native.Nat.{ℕ, ◌+◌, ◌-◌, ◌/◌, ◌%◌, ◌<◌, ◌≤◌}
use native.Mathlib.Omega.{arith}
use lib.ListN.{get_or, length, length-map}
use Rattle.knuth.specs.Grammar.{Sym, rule, token, In, Valid}
use Rattle.block.specs.Block.{tokens, rules, prods, symbols, end_token_of, start_prod, rule_of, first_of, length_of, symbol_at, body_of}
use Rattle.block.specs.Grammar.{symbol, grammar_of}
use Rattle.block.specs.Refusal.{Good, Known}
use Rattle.block.specs.Exact.{no-rule, first-wrong, too_long, BadProduction, wrong-production, sum-differs, BadStart, end-past, start-past, not-one, not-rule, again, WrongSymbol, rule-past, start-rule, token-past, end_token, BadSymbol, wrong-symbol, Laid}
use Rattle.block.proofs.Exact.{good-clear, clear-good}
use Rattle.block.proofs.Good.{equal, clear-rule, clear_first, clear-length, clear-sum, clear-start, clear-placed, sums-inside, sums-find, body_at, part_length, body-length}
use Rattle.block.proofs.Bodies.{rule-number, token-number, rule-symbol, token-symbol, mem-place, place-mem, one_symbol, symbol-in, body-symbol}

module _ {b : List ℕ} (g : Good b) where
  known : (p : ℕ) → p < prods b → Known b p
  known p l = record { good = g; below = l }

  pub end_below : end_token_of b < tokens b
  end_below = let z : tokens b ≤ end_token_of b → ⊥ = λ h. (good-clear g).start (end-past h) in omega arith

  pub start-below : start_prod b < prods b
  start-below = clear-start (good-clear g).start

  pub start-one : length_of b (start_prod b) ≡ 1
  start-one = equal (length_of b (start_prod b)) 1 (λ h. (good-clear g).start (not-one h))

  start-even : symbol_at b (first_of b (start_prod b)) % 2 ≡ 0
  start-even = equal (symbol_at b (first_of b (start_prod b)) % 2) 0 (λ h. (good-clear g).start (not-rule h))

  -- the start production's only symbol
  start_is : body_of b (start_prod b) ≡ symbol_at b (first_of b (start_prod b)) ∷ []
  start_is =
      let o = start-one in
      one_symbol (body_of b (start_prod b)) (symbol_at b (first_of b (start_prod b))) (body-length (start_prod b) (known (start_prod b) start-below) ∙ o)
      (body_at b (start_prod b) 0 (omega arith) ∙ ap (symbol_at b) (let z : first_of b (start_prod b) + 0 ≡ first_of b (start_prod b) = omega arith in z))

  -- no symbol of a right side is wrong
  module _ (p : ℕ) (l : p < prods b) where
    absent : (X : Sym) → Memᴰ X (map symbol (body_of b p)) → ((x : ℕ) → X ≡ symbol x → WrongSymbol b x) → ⊥
    absent X m f = let r = mem-place X (body_of b p) m in body-symbol (known p l) r.0 r.1 (f (get_or (body_of b p) r.0 0) r.2)

    present : (X : Sym) → Memᴰ X (map symbol (body_of b p)) → In (grammar_of b) X
    present X m = let r = mem-place X (body_of b p) m in subst (In (grammar_of b)) (sym r.2) (symbol-in (body-symbol (known p l) r.0 r.1))

  pub good-valid : Valid (grammar_of b)
  good-valid =
      record {
        top = symbol_at b (first_of b (start_prod b)) / 2;
        lhs-in = clear-rule (good-clear g).productions;
        body-in = present;
        end-in = end_below;
        start-in = start-below;
        start-body = ap (map symbol) start_is ∙ ap {B = List Sym} (λ X. X ∷ []) (rule-symbol (symbol_at b (first_of b (start_prod b))) (symbol_at b (first_of b (start_prod b)) / 2) (let e = start-even in omega arith));
        start-only = λ p l e. equal p (start_prod b) (λ n. (good-clear g).start (again p l e n));
        start-inside-none = λ p l m. absent p l (rule (rule_of b (start_prod b))) m (λ x e. start-rule (rule-number x (rule_of b (start_prod b)) e));
        end-inside-none = λ p l m. absent p l (token (end_token_of b)) m (λ x e. end_token (token-number x (end_token_of b) e));
      }

-- ---- the other way
module _ {b : List ℕ} (h : Laid b) (v : Valid (grammar_of b)) where
  within : (p : ℕ) → p < prods b → length (body_of b p) ≡ length_of b p
  within p l = part_length b p (clear-placed h.large h.places) (sums-inside b h.first-is h.sum p l)

  productions-right : BadProduction b → ⊥
  productions-right (wrong-production p l (no-rule k)) = let z = v.lhs-in p l in omega arith
  productions-right (wrong-production p l (first-wrong k)) = k (h.first-is p l)
  productions-right (wrong-production p l (too_long k)) = let z = h.length_most p l in omega arith
  productions-right (sum-differs k) = k h.sum

  -- the start production's only symbol
  start-length : length_of b (start_prod b) ≡ 1
  start-length = sym (within (start_prod b) v.start-in) ∙ sym (length-map (body_of b (start_prod b)) symbol) ∙ ap length v.start-body

  start-symbol : rule v.top ≡ symbol (symbol_at b (first_of b (start_prod b)))
  start-symbol =
      let o = start-length in
      let at : get_or (body_of b (start_prod b)) 0 0 ≡ symbol_at b (first_of b (start_prod b)) =
      body_at b (start_prod b) 0 (omega arith) ∙ ap (symbol_at b) (let z : first_of b (start_prod b) + 0 ≡ first_of b (start_prod b) = omega arith in z) in
      let is = one_symbol (body_of b (start_prod b)) (symbol_at b (first_of b (start_prod b))) (within (start_prod b) v.start-in ∙ o) at in
      head-eq_of_cons-eq (sym v.start-body ∙ ap (map symbol) is)

  start_right : BadStart b → ⊥
  start_right (end-past k) = let z = v.end-in in omega arith
  start_right (start-past k) = let z = v.start-in in omega arith
  start_right (not-one k) = k start-length
  start_right (not-rule k) = let z = rule-number (symbol_at b (first_of b (start_prod b))) v.top start-symbol in omega arith
  start_right (again p l e n) = n (v.start-only p l e)

  -- every symbol stands in a right side
  stands : (i : ℕ) → i < symbols b → (p : ℕ) × (p < prods b) × Memᴰ (symbol (symbol_at b i)) (map symbol (body_of b p))
  stands i l =
      let (p, k, f, t) = sums-find b h.first-is h.sum i l in
      let n = within p k in
      let e : get_or (body_of b p) (i - first_of b p) 0 ≡ symbol_at b i =
      body_at b p (i - first_of b p) (omega arith) ∙ ap (symbol_at b) (let z : first_of b p + (i - first_of b p) ≡ i = omega arith in z) in
      (p, k, subst (λ x. Memᴰ (symbol x) (map symbol (body_of b p))) e (place-mem (body_of b p) (i - first_of b p) (omega arith)))

  symbols-right : BadSymbol b → ⊥
  symbols-right (wrong-symbol i l w) = let (p, k, m) = stands i l in go p k m (symbol_at b i) refl w
    where
      go : (p : ℕ) → p < prods b → Memᴰ (symbol (symbol_at b i)) (map symbol (body_of b p)) → (x : ℕ) → symbol_at b i ≡ x → WrongSymbol b x → ⊥
      go p k m x e (rule-past r q c) =
          let z : r < rules b = v.body-in p k (rule r) (subst (λ X. Memᴰ X (map symbol (body_of b p))) (rule-symbol (symbol_at b i) r (e ∙ q)) m) in
          omega arith
      go p k m x e (token-past t q c) =
          let z : t < tokens b = v.body-in p k (token t) (subst (λ X. Memᴰ X (map symbol (body_of b p))) (token-symbol (symbol_at b i) t (e ∙ q)) m) in
          omega arith
      go p k m x e (start-rule q) =
          v.start-inside-none p k (subst (λ X. Memᴰ X (map symbol (body_of b p))) (rule-symbol (symbol_at b i) (rule_of b (start_prod b)) (e ∙ q)) m)
      go p k m x e (end_token q) =
          v.end-inside-none p k (subst (λ X. Memᴰ X (map symbol (body_of b p))) (token-symbol (symbol_at b i) (end_token_of b) (e ∙ q)) m)

  pub valid-good : Good b
  valid-good =
      clear-good (
      record {
        short = h.short;
        large = h.large;
        places = h.places;
        productions = productions-right;
        start = start_right;
        syms = symbols-right;
        precs = h.precs;
      }
      )

pub good-laid : {b : List ℕ} → Good b → Laid b
good-laid g =
    let c = good-clear g in
    record {
      short = c.short;
      large = c.large;
      places = c.places;
      first-is = clear_first c.productions;
      length_most = clear-length c.productions;
      sum = clear-sum c.productions;
      precs = c.precs;
    }

-- good is laid out rightly and valid, no more and no less
pub good-exactly : (b : List ℕ) → Good b ↔ (Laid b × Valid (grammar_of b))
good-exactly b = (λ g. (good-laid g, good-valid g), λ h. valid-good h.0 h.1)
