-- A test and the plain statement that it decides. Assumes nothing.
use mathlib.Core.Bool.{Bool, true, false, true≢false, cond, ◌&&◌, ◌||◌, not}
use mathlib.Core.Logic.{◌⊎◌, inl, inr, ⊎_elim, ◌≢◌}
use mathlib.Core.Path.{◌≡◌, refl, sym, subst}
use Prim.Native.Nat.{ℕ, zero, suc, ◌+◌, ◌<◌, ◌≤◌}
use native.Mathlib.Decide.{ℕ_discrete}
use native.Mathlib.Omega.{arith}
use lib.Dec.{ltb, leb, eqb}
use borrow.Author.Tests.{ltb-true, ltb-false, leb-true, leb-false, eqb-true, eqb-false}
use Rattle.block.specs.Lists.{any, upto, from}

-- the test c holds just when P does
pub record Says (c : Bool) (P : Type 0) : Type 0 where
  pub holds : c ≡ true → P
  pub fails : c ≡ false → P → ⊥

-- the test c fails just when P holds
pub record Denies (c : Bool) (P : Type 0) : Type 0 where
  pub fails : c ≡ false → P
  pub holds : c ≡ true → P → ⊥

module _ {P : Type 0} {c : Bool} where
  pub says-true : Says c P → P → c ≡ true
  says-true s p = go c refl
    where
      go : (a : Bool) → c ≡ a → a ≡ true
      go true e = refl
      go false e = absurd (s.fails e p)

  pub says-false : Says c P → (P → ⊥) → c ≡ false
  says-false s n = go c refl
    where
      go : (a : Bool) → c ≡ a → a ≡ false
      go true e = absurd (n (s.holds e))
      go false e = refl

module _ {P : Type 0} where
  pub says-not : {c : Bool} → Denies c P → Says (not c) P
  says-not {c = true} s = record { holds = λ e. absurd (true≢false (sym e)); fails = λ e. s.holds refl }
  says-not {c = false} s = record { holds = λ e. s.fails refl; fails = λ e. absurd (true≢false e) }

  pub denies-not : {c : Bool} → Says c P → Denies (not c) P
  denies-not {c = true} s = record { fails = λ e. s.holds refl; holds = λ e. absurd (true≢false (sym e)) }
  denies-not {c = false} s = record { fails = λ e. absurd (true≢false e); holds = λ e. s.fails refl }

module _ {P Q : Type 0} where
  pub says_map : {c : Bool} → (P → Q) → (Q → P) → Says c P → Says c Q
  says_map f g s = record { holds = λ e. f (s.holds e); fails = λ e q. s.fails e (g q) }

  pub denies-map : {c : Bool} → (P → Q) → (Q → P) → Denies c P → Denies c Q
  denies-map f g s = record { fails = λ e. f (s.fails e); holds = λ e q. s.holds e (g q) }

  pub says-or : {a c : Bool} → Says a P → Says c Q → Says (a || c) (P ⊎ Q)
  says-or {a = true} s t = record { holds = λ e. inl (s.holds refl); fails = λ e. absurd (true≢false e) }
  says-or {a = false} s t = record { holds = λ e. inr (t.holds e); fails = λ e. ⊎_elim (s.fails refl) (t.fails e) }

  pub says-and : {a c : Bool} → Says a P → Says c Q → Says (a && c) (P × Q)
  says-and {a = true} s t = record { holds = λ e. (s.holds refl, t.holds e); fails = λ e h. t.fails e h.1 }
  says-and {a = false} s t = record { holds = λ e. absurd (true≢false (sym e)); fails = λ e h. s.fails refl h.0 }

  pub denies-or : {a c : Bool} → Denies a P → Denies c Q → Denies (a || c) (P × Q)
  denies-or {a = true} s t = record { fails = λ e. absurd (true≢false e); holds = λ e h. s.holds refl h.0 }
  denies-or {a = false} s t = record { fails = λ e. (s.fails refl, t.fails e); holds = λ e h. t.holds e h.1 }

  pub denies-and : {a c : Bool} → Denies a P → Denies c Q → Denies (a && c) (P ⊎ Q)
  denies-and {a = true} s t = record { fails = λ e. inr (t.fails e); holds = λ e. ⊎_elim (s.holds refl) (t.holds e) }
  denies-and {a = false} s t = record { fails = λ e. inl (s.fails refl); holds = λ e. absurd (true≢false (sym e)) }

  pub denies-cond : {T : Type 0} {t a c : Bool} → Says t T → Denies a P → Denies c Q → Denies (cond t a c) ((T × P) ⊎ ((T → ⊥) × Q))
  denies-cond {t = true} w s t =
      record { fails = λ e. inl (w.holds refl, s.fails e); holds = λ e. ⊎_elim (λ h. s.holds e h.1) (λ h. h.0 (w.holds refl)) }
  denies-cond {t = false} w s t =
      record { fails = λ e. inr (w.fails refl, t.fails e); holds = λ e. ⊎_elim (λ h. w.fails refl h.0) (λ h. t.holds e h.1) }

module _ (m n : ℕ) where
  pub says-lt : Says (ltb m n) (m < n)
  says-lt = record { holds = ltb-true m n; fails = λ e h. let z = ltb-false m n e in omega arith }

  pub denies-lt : Denies (ltb m n) (n ≤ m)
  denies-lt = record { fails = ltb-false m n; holds = λ e h. let z = ltb-true m n e in omega arith }

  pub denies-le : Denies (leb m n) (n < m)
  denies-le = record { fails = leb-false m n; holds = λ e h. let z = leb-true m n e in omega arith }

  pub says_eq : Says (eqb m n) (m ≡ n)
  says_eq = record { holds = eqb-true m n; fails = eqb-false m n }

  pub denies-eq : Denies (eqb m n) (m ≢ n)
  denies-eq = record { fails = eqb-false m n; holds = λ e h. h (eqb-true m n e) }

-- some number below n passes the test f
module _ {P : ℕ → Type 0} (f : ℕ → Bool) (s : (i : ℕ) → Says (f i) (P i)) where
  says-from : (n k : ℕ) → Says (any f (from k n)) ((i : ℕ) × (k ≤ i) × (i < k + n) × P i)
  unfolding any from
  says-from zero k = record { holds = λ e. absurd (true≢false (sym e)); fails = λ e h. omega (arith, h.1, h.2) }
  says-from (suc n) k =
      says_map (λ h. elim h [ inl p ↦ (k, omega arith, omega arith, p) | inr q ↦ (q.0, omega (arith, q.1), omega (arith, q.2), q.3) ])
      (λ h. elim (ℕ_discrete k h.0) [ yes e ↦ inl (subst P (sym e) h.3) | no d ↦ inr (h.0, omega (arith, h.1), omega (arith, h.2), h.3) ])
      (says-or (s k) (says-from n (suc k)))

  pub says_any : (n : ℕ) → Says (any f (upto n)) ((i : ℕ) × (i < n) × P i)
  unfolding upto
  says_any n = says_map (λ h. (h.0, omega (arith, h.2), h.3)) (λ h. (h.0, omega arith, omega (arith, h.1), h.2)) (says-from n 0)
