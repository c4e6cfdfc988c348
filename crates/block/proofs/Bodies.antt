-- The symbols of right sides: numbers, their meaning, and where they stand. Assumes nothing.
use mathlib.Core.Bool.{Bool, true, false, cond}
use mathlib.Core.List.Memᴰ
use mathlib.Core.List.{List, [], ◌∷◌, map, Memᴰ}
use mathlib.Core.Logic.{⊎_elim}
use mathlib.Core.Path.{◌≡◌, refl, ap, subst}
use Prim.Native.Nat.{ℕ, zero, suc, ◌+◌, ◌*◌, ◌/◌, ◌%◌, ◌<◌, ◌≤◌}
use native.Mathlib.Omega.{arith}
use lib.Dec.{eqb}
use lib.ListN.{get_or, length}
use borrow.Author.Tests.{eqb-true, eqb-false, eq-eqb, ne_eqb}
use Rattle.knuth.specs.Grammar.{Sym, rule, token, In}
use Rattle.block.specs.Block.{tokens, rules, first_of, body_of}
use Rattle.block.specs.Grammar.{symbol, grammar_of}
use Rattle.block.specs.Refusal.{Known}
use Rattle.block.specs.Stages.{Placed}
use Rattle.block.specs.First.{Within, Small}
use Rattle.block.specs.Exact.{WrongSymbol, rule-past, token-past, wrong-symbol}
use Rattle.block.proofs.Exact.{good-clear}
use Rattle.block.proofs.Good.{placed, body_at, body-length, body-inside}

-- ---- a number and the symbol that it stands for
pub rule-number : (x r : ℕ) → rule r ≡ symbol x → x ≡ 2 * r
rule-number x r e = go (eqb (x % 2) 0) refl e
  where
    go : (c : Bool) → eqb (x % 2) 0 ≡ c → rule r ≡ cond c (rule (x / 2)) (token (x / 2)) → x ≡ 2 * r
    go true q e = let h = eqb-true (x % 2) 0 q in let z : r ≡ x / 2 = cc in omega arith
    go false q e = absurd (let z : ◌≡◌ {A = ℕ} 0 1 = cc in omega arith)

pub token-number : (x t : ℕ) → token t ≡ symbol x → x ≡ 2 * t + 1
token-number x t e = go (eqb (x % 2) 0) refl e
  where
    go : (c : Bool) → eqb (x % 2) 0 ≡ c → token t ≡ cond c (rule (x / 2)) (token (x / 2)) → x ≡ 2 * t + 1
    go true q e = absurd (let z : ◌≡◌ {A = ℕ} 0 1 = cc in omega arith)
    go false q e = let h = eqb-false (x % 2) 0 q in let z : t ≡ x / 2 = cc in omega arith

pub rule-symbol : (x r : ℕ) → x ≡ 2 * r → symbol x ≡ rule r
rule-symbol x r e = let h = eq-eqb (x % 2) 0 (omega arith) in let z : x / 2 ≡ r = omega arith in rw (h, z)

pub token-symbol : (x t : ℕ) → x ≡ 2 * t + 1 → symbol x ≡ token t
token-symbol x t e = let h = ne_eqb (x % 2) 0 (λ z. omega arith) in let z : x / 2 ≡ t = omega arith in rw (h, z)

-- ---- members of a list of numbers, by their places
pub mem-place : (X : Sym) (w : List ℕ) → Memᴰ X (map symbol w) → (j : ℕ) × (j < length w) × (X ≡ symbol (get_or w j 0))
mem-place X [] m = absurd (Memᴰ.not-nil m)
mem-place X (x ∷ w) m =
    ⊎_elim (λ e. (0, omega arith, e)) (λ n. let r = mem-place X w n in (suc r.0, omega (arith, r.1), r.2)) (Memᴰ.cases_cons m)

pub place-mem : (w : List ℕ) (j : ℕ) → j < length w → Memᴰ (symbol (get_or w j 0)) (map symbol w)
place-mem [] j l = absurd (omega arith)
place-mem (x ∷ w) zero l = Memᴰ.head refl
place-mem (x ∷ w) (suc j) l = Memᴰ.tail (place-mem w j (omega arith))

pub one_symbol : (w : List ℕ) (x : ℕ) → length w ≡ 1 → get_or w 0 0 ≡ x → w ≡ x ∷ []
one_symbol [] x l e = absurd (omega arith)
one_symbol (y ∷ []) x l e = ap {B = List ℕ} (λ z. z ∷ []) e
one_symbol (y ∷ z ∷ w) x l e = absurd (omega arith)

-- ---- a symbol that is not wrong
module _ {b : List ℕ} {x : ℕ} (h : WrongSymbol b x → ⊥) where
  pub symbol-in : In (grammar_of b) (symbol x)
  symbol-in = go (eqb (x % 2) 0) refl
    where
      go : (c : Bool) → eqb (x % 2) 0 ≡ c → In (grammar_of b) (cond c (rule (x / 2)) (token (x / 2)))
      go true q = let e = eqb-true (x % 2) 0 q in let z : rules b ≤ x / 2 → ⊥ = λ k. h (rule-past (x / 2) (omega arith) k) in omega arith
      go false q = let e = eqb-false (x % 2) 0 q in let z : tokens b ≤ x / 2 → ⊥ = λ k. h (token-past (x / 2) (omega arith) k) in omega arith

  pub symbol-within : Placed b → Within x
  symbol-within w =
      record {
        rule = λ e. let z : rules b ≤ x / 2 → ⊥ = λ k. h (rule-past (x / 2) (omega arith) k) in omega arith;
        token = λ e. let z : tokens b ≤ x / 2 → ⊥ = λ k. h (token-past (x / 2) (omega arith) k) in omega arith;
      }

-- ---- right sides of a good block
small : (w : List ℕ) → ((j : ℕ) → j < length w → Within (get_or w j 0)) → Small w
small [] h = tt
small (x ∷ w) h = (h 0 (omega arith), small w (λ j l. h (suc j) (omega arith)))

module _ {b : List ℕ} {p : ℕ} (k : Known b p) where
  pub body-symbol : (j : ℕ) → j < length (body_of b p) → WrongSymbol b (get_or (body_of b p) j 0) → ⊥
  body-symbol j l h =
      let n = body-length p k in
      let i = body-inside p k in
      (good-clear k.good).syms (wrong-symbol (first_of b p + j) (omega arith) (subst (WrongSymbol b) (body_at b p j (omega arith)) h))

  pub body-small : Small (body_of b p)
  body-small = small (body_of b p) (λ j l. symbol-within (body-symbol j l) (placed k.good))
