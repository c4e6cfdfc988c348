-- What a good block is known to be: sizes, places, right sides. Assumes nothing.
use mathlib.Core.List.{List}
use mathlib.Core.Path.{◌≡◌, ap, subst}
use Prim.Native.Nat.{ℕ, zero, suc, ◌+◌, ◌-◌, ◌≤◌, ◌<◌}
use native.Mathlib.Decide.{ℕ_discrete, dec_lt}
use native.Mathlib.Omega.{arith}
use lib.ListN.{get_or, length, drop, length-drop}
use lib.Seq.{get_or-drop, get_or-take, length-take-le}
use Rattle.block.specs.Limits.{TOKENS, RULES, PRODS, SYMBOLS, LENGTH}
use Rattle.block.specs.Block.{tokens, rules, prods, symbols, start_prod, symbols_at, precs_at, rule_of, first_of, length_of, symbol_at, body_of}
use Rattle.block.specs.Refusal.{lengths, Good, Known}
use Rattle.block.specs.Stages.{Placed}
use Rattle.block.specs.Exact.{under, over, TooLarge, tokens-out, rules-out, prods-out, symbols-out, Misplaced, length-differs, no-rule, first-wrong, too_long, BadProduction, wrong-production, sum-differs, BadStart, start-past}
use Rattle.block.proofs.Exact.{good-clear}

pub equal : (m n : ℕ) → ((m ≡ n → ⊥) → ⊥) → m ≡ n
equal m n h = elim (ℕ_discrete m n) [ yes e ↦ e | no d ↦ absurd (h d) ]

-- the first lengths are at most all of them
pub lengths-mono : (b : List ℕ) (n d : ℕ) → lengths b n ≤ lengths b (n + d)
unfolding lengths
lengths-mono b n zero = subst (λ m. lengths b n ≤ lengths b m) (let z : n ≡ n + 0 = omega arith in z) (omega arith)
lengths-mono b n (suc d) = subst (λ m. lengths b n ≤ lengths b m) (let z : suc (n + d) ≡ n + suc d = omega arith in z) (let k = lengths-mono b n d in omega arith)

-- ---- where first indices are sums of lengths
module _ (b : List ℕ) (first : (p : ℕ) → p < prods b → first_of b p ≡ lengths b p) (sum : lengths b (prods b) ≡ symbols b) where
  -- a right side lies among the symbols
  pub sums-inside : (p : ℕ) → p < prods b → first_of b p + length_of b p ≤ symbols b
  unfolding lengths
  sums-inside p l =
      let e = first p l in
      let m = lengths-mono b (suc p) (prods b - suc p) in
      let z : lengths b (suc p + (prods b - suc p)) ≡ lengths b (prods b) = ap (lengths b) (let q : suc p + (prods b - suc p) ≡ prods b = omega arith in q) in
      omega arith

  -- and every symbol lies in one
  pub sums-find : (i : ℕ) → i < symbols b → (p : ℕ) × (p < prods b) × (first_of b p ≤ i) × (i < first_of b p + length_of b p)
  unfolding lengths
  sums-find i l = go (prods b) (omega arith) (omega arith)
    where
      go : (n : ℕ) → n ≤ prods b → i < lengths b n → (p : ℕ) × (p < prods b) × (first_of b p ≤ i) × (i < first_of b p + length_of b p)
      go zero k h = absurd (omega arith)
      go (suc n) k h =
          elim (dec_lt i (lengths b n)) [
            | yes d ↦ go n (omega arith) d
            | no d ↦ let e = first n (omega arith) in (n, omega arith, omega arith, omega arith)
          ]

-- ---- a right side as a list
module _ (b : List ℕ) (p : ℕ) where
  pub body_at : (j : ℕ) → j < length_of b p → get_or (body_of b p) j 0 ≡ symbol_at b (first_of b p + j)
  unfolding body_of
  body_at j l = rw (get_or-take, get_or-drop) (ap (λ n. get_or b n 0) (let z : symbols_at b + first_of b p + j ≡ symbols_at b + (first_of b p + j) = omega arith in z))

  pub part_length : Placed b → first_of b p + length_of b p ≤ symbols b → length (body_of b p) ≡ length_of b p
  unfolding body_of
  part_length w i = length-take-le (length_of b p) (drop (symbols_at b + first_of b p) b) (simp length-drop (omega arith))

-- ---- what no row of document 01 says
module _ {b : List ℕ} where
  pub clear-placed : (TooLarge b → ⊥) → (Misplaced b → ⊥) → Placed b
  clear-placed t m =
      record {
        tokens-least = let z : tokens b < 1 → ⊥ = λ h. t (tokens-out (under h)) in omega arith;
        tokens-most = let z : TOKENS < tokens b → ⊥ = λ h. t (tokens-out (over h)) in omega arith;
        rules-least = let z : rules b < 1 → ⊥ = λ h. t (rules-out (under h)) in omega arith;
        rules-most = let z : RULES < rules b → ⊥ = λ h. t (rules-out (over h)) in omega arith;
        prods-least = let z : prods b < 1 → ⊥ = λ h. t (prods-out (under h)) in omega arith;
        prods-most = let z : PRODS < prods b → ⊥ = λ h. t (prods-out (over h)) in omega arith;
        symbols-most = let z : SYMBOLS < symbols b → ⊥ = λ h. t (symbols-out (over h)) in omega arith;
        whole = equal (length b) (precs_at b + tokens b) (λ h. m (length-differs h));
      }

  pub placed : Good b → Placed b
  placed g = clear-placed (good-clear g).large (good-clear g).places

  -- ---- productions
  module _ (h : BadProduction b → ⊥) where
    pub clear-rule : (p : ℕ) → p < prods b → rule_of b p < rules b
    clear-rule p l = let z : rules b ≤ rule_of b p → ⊥ = λ k. h (wrong-production p l (no-rule k)) in omega arith

    pub clear_first : (p : ℕ) → p < prods b → first_of b p ≡ lengths b p
    clear_first p l = equal (first_of b p) (lengths b p) (λ k. h (wrong-production p l (first-wrong k)))

    pub clear-length : (p : ℕ) → p < prods b → length_of b p ≤ LENGTH
    clear-length p l = let z : LENGTH < length_of b p → ⊥ = λ k. h (wrong-production p l (too_long k)) in omega arith

    pub clear-sum : lengths b (prods b) ≡ symbols b
    clear-sum = equal (lengths b (prods b)) (symbols b) (λ k. h (sum-differs k))

    pub clear-inside : (p : ℕ) → p < prods b → first_of b p + length_of b p ≤ symbols b
    clear-inside = sums-inside b clear_first clear-sum

  pub clear-start : (BadStart b → ⊥) → start_prod b < prods b
  clear-start h = let z : prods b ≤ start_prod b → ⊥ = λ k. h (start-past k) in omega arith

  pub inside : Good b → (p : ℕ) → p < prods b → first_of b p + length_of b p ≤ symbols b
  inside g = clear-inside (good-clear g).productions

  module _ (p : ℕ) (k : Known b p) where
    pub rule-below : rule_of b p < rules b
    rule-below = clear-rule (good-clear k.good).productions p k.below

    pub first-is : first_of b p ≡ lengths b p
    first-is = clear_first (good-clear k.good).productions p k.below

    pub length_most : length_of b p ≤ LENGTH
    length_most = clear-length (good-clear k.good).productions p k.below

    pub body-inside : first_of b p + length_of b p ≤ symbols b
    body-inside = inside k.good p k.below

    pub body-length : length (body_of b p) ≡ length_of b p
    body-length = part_length b p (placed k.good) body-inside
