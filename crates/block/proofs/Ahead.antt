-- Laws of what is ahead: of one symbol, of one behind another, of either; and the order on them. Assumes nothing.
use mathlib.Core.Bool.{true, false, cond, true≢false, ◌||◌}
use mathlib.Core.List.{List, [], ◌∷◌}
use mathlib.Core.Logic.{◌⊎◌, inl, inr}
use mathlib.Core.Path.{◌≡◌, refl, sym, ap, ◌∙◌, subst}
use Prim.Native.Nat.{ℕ, ◌/◌, ◌%◌, ◌<◌}
use native.Mathlib.Decide.{ℕ_discrete}
use native.Mathlib.Nat.{mod-lt}
use native.Mathlib.Omega.{arith}
use lib.Dec.{eqb}
use lib.ListN.{get_or}
use borrow.Author.Tests.{eqb-true, eq-eqb, ne_eqb}
use Rattle.knuth.specs.Grammar.{Sym, rule, token}
use Rattle.block.specs.Limits.{TOKENS}
use Rattle.block.specs.Grammar.{symbol}
use Rattle.block.specs.Sets.{mem, In, empty, with}
use Rattle.block.specs.First.{Ahead, ahead, is_null, first_in, nothing, behind, either, ahead_sym, ahead_of, Within}
use Rattle.block.proofs.ListLaws.{or_cases, or_left, or_right}
use Rattle.block.proofs.SetLaws.{mem-empty, mem-with, empty-fits}
use Rattle.block.proofs.Joins.{In-join, In-join-left, In-join-right}

-- ---- sets
pub empty-none : (u : ℕ) → In empty u → ⊥
empty-none u m = true≢false (sym m ∙ mem-empty u)

single-is : (t u : ℕ) → t < TOKENS → mem (with empty t) u ≡ (mem empty u || eqb u t)
single-is t u l = mem-with empty t (omega (arith, empty-fits.0)) u

single-only : (t u : ℕ) → t < TOKENS → In (with empty t) u → u ≡ t
single-only t u l m = elim (or_cases (mem empty u) (eqb u t) (sym (single-is t u l) ∙ m)) [ inl e ↦ absurd (empty-none u e) | inr e ↦ eqb-true u t e ]

single-in : (t : ℕ) → t < TOKENS → In (with empty t) t
single-in t l = single-is t t l ∙ or_right (mem empty t) (eqb t t) (eq-eqb t t refl)

-- ---- one symbol: a rule is even, a token odd
pub parity : (x : ℕ) → (x % 2 ≡ 0) ⊎ (x % 2 ≡ 1)
parity x = let l : x % 2 < 2 = mod-lt x (omega arith) in elim (ℕ_discrete (x % 2) 0) [ yes e ↦ inl e | no n ↦ inr (omega arith) ]

pub even-sym : (F : List Ahead) (x : ℕ) → x % 2 ≡ 0 → ahead_sym F x ≡ get_or F (x / 2) nothing
unfolding ahead_sym
even-sym F x e = rw (eq-eqb (x % 2) 0 e)

pub odd-sym : (F : List Ahead) (x : ℕ) → x % 2 ≡ 1 → ahead_sym F x ≡ ahead false (with empty (x / 2))
unfolding ahead_sym
odd-sym F x e = rw (ne_eqb (x % 2) 0 (λ z. omega arith))

pub even-symbol : (x : ℕ) → x % 2 ≡ 0 → symbol x ≡ rule (x / 2)
even-symbol x e = ap {B = Sym} (λ c. cond c (rule (x / 2)) (token (x / 2))) (eq-eqb (x % 2) 0 e)

pub odd-symbol : (x : ℕ) → x % 2 ≡ 1 → symbol x ≡ token (x / 2)
odd-symbol x e = ap {B = Sym} (λ c. cond c (rule (x / 2)) (token (x / 2))) (ne_eqb (x % 2) 0 (λ z. omega arith))

-- what holds of each rule and of each token
pub sym-cases : (P : Ahead → Sym → Type 0) (F : List Ahead) (x : ℕ) → (x % 2 ≡ 0 → P (get_or F (x / 2) nothing) (rule (x / 2)))
    → (x % 2 ≡ 1 → P (ahead false (with empty (x / 2))) (token (x / 2))) → P (ahead_sym F x) (symbol x)
sym-cases P F x h k =
    elim (parity x) [
      | inl e ↦ subst (λ a. P a (symbol x)) (sym (even-sym F x e)) (subst (λ X. P (get_or F (x / 2) nothing) X) (sym (even-symbol x e)) (h e))
      | inr e ↦ subst (λ a. P a (symbol x)) (sym (odd-sym F x e)) (subst (λ X. P (ahead false (with empty (x / 2))) X) (sym (odd-symbol x e)) (k e))
    ]

pub token-only : (x t : ℕ) → Within x → x % 2 ≡ 1 → In (with empty (x / 2)) t → t ≡ x / 2
token-only x t l e m = single-only (x / 2) t (l.token e) m

pub token-in : (x : ℕ) → Within x → x % 2 ≡ 1 → In (with empty (x / 2)) (x / 2)
token-in x l e = single-in (x / 2) (l.token e)

-- ---- the order
pub record Under (a c : Ahead) : Type 0 where
  pub nulls : is_null a ≡ true → is_null c ≡ true
  pub firsts : (t : ℕ) → In (first_in a) t → In (first_in c) t

pub under-refl : (a : Ahead) → Under a a
under-refl a = record { nulls = λ e. e; firsts = λ t m. m }

pub under-trans : (a c d : Ahead) → Under a c → Under c d → Under a d
under-trans a c d h k = record { nulls = λ e. k.nulls (h.nulls e); firsts = λ t m. k.firsts t (h.firsts t m) }

-- ---- either
pub either_left : (a c : Ahead) → Under a (either a c)
unfolding either
either_left (ahead m s) (ahead n t) = record { nulls = λ e. or_left m n e; firsts = λ u k. In-join-left s t u k }

pub either-right : (a c : Ahead) → Under c (either a c)
unfolding either
either-right (ahead m s) (ahead n t) = record { nulls = λ e. or_right m n e; firsts = λ u k. In-join-right s t u k }

pub either-null : (a c : Ahead) → is_null (either a c) ≡ true → (is_null a ≡ true) ⊎ (is_null c ≡ true)
unfolding either
either-null (ahead m s) (ahead n t) e = or_cases m n e

pub either_first : (a c : Ahead) (t : ℕ) → In (first_in (either a c)) t → In (first_in a) t ⊎ In (first_in c) t
unfolding either
either_first (ahead m s) (ahead n f) t k = In-join s f t k

-- ---- behind
pub behind-null : (a c : Ahead) → is_null (behind a c) ≡ true → (is_null a ≡ true) × (is_null c ≡ true)
unfolding behind
behind-null (ahead false s) c e = absurd (true≢false (sym e))
behind-null (ahead true s) (ahead n t) e = (refl, e)

pub null-behind : (a c : Ahead) → is_null a ≡ true → is_null c ≡ true → is_null (behind a c) ≡ true
unfolding behind
null-behind (ahead false s) c e k = absurd (true≢false (sym e))
null-behind (ahead true s) (ahead n t) e k = k

pub behind-first : (a c : Ahead) (t : ℕ) → In (first_in (behind a c)) t → In (first_in a) t ⊎ ((is_null a ≡ true) × In (first_in c) t)
unfolding behind
behind-first (ahead false s) c t m = inl m
behind-first (ahead true s) (ahead n f) t m = elim (In-join s f t m) [ inl h ↦ inl h | inr h ↦ inr (refl, h) ]

pub first-behind : (a c : Ahead) (t : ℕ) → In (first_in a) t → In (first_in (behind a c)) t
unfolding behind
first-behind (ahead false s) c t m = m
first-behind (ahead true s) (ahead n f) t m = In-join-left s f t m

pub second-behind : (a c : Ahead) (t : ℕ) → is_null a ≡ true → In (first_in c) t → In (first_in (behind a c)) t
unfolding behind
second-behind (ahead false s) c t e m = absurd (true≢false (sym e))
second-behind (ahead true s) (ahead n f) t e m = In-join-right s f t m

behind-under : (a a' c c' : Ahead) → Under a a' → Under c c' → Under (behind a c) (behind a' c')
behind-under a a' c c' h k =
    record {
      nulls = λ e. let p = behind-null a c e in null-behind a' c' (h.nulls p.0) (k.nulls p.1);
      firsts = λ t m. elim (behind-first a c t m) [ inl x ↦ first-behind a' c' t (h.firsts t x) | inr x ↦ second-behind a' c' t (h.nulls x.0) (k.firsts t x.1) ];
    }

-- ---- of a list of symbols: a larger F gives more
abbrev pub Below : List Ahead → List Ahead → Type 0
Below F F' = (r : ℕ) → Under (get_or F r nothing) (get_or F' r nothing)

sym-mono : (F F' : List Ahead) → Below F F' → (x : ℕ) → Under (ahead_sym F x) (ahead_sym F' x)
sym-mono F F' h x =
    elim (parity x) [
      | inl e ↦ rw (even-sym F x e, even-sym F' x e) (h (x / 2))
      | inr e ↦ rw (odd-sym F x e, odd-sym F' x e) (under-refl (ahead false (with empty (x / 2))))
    ]

pub ahead-mono : (F F' : List Ahead) → Below F F' → (w : List ℕ) → Under (ahead_of F w) (ahead_of F' w)
unfolding ahead_of
ahead-mono F F' h [] = under-refl (ahead true empty)
ahead-mono F F' h (x ∷ w) = behind-under (ahead_sym F x) (ahead_sym F' x) (ahead_of F w) (ahead_of F' w) (sym-mono F F' h x) (ahead-mono F F' h w)
