-- The binary digits of one number. Assumes nothing.
use mathlib.Core.Bool.{Bool, ◌||◌}
use mathlib.Core.Logic.{◌⊎◌, inl, inr}
use mathlib.Core.Path.{◌≡◌, sym, ap, ◌∙◌, subst}
use Prim.Native.Nat.{ℕ, zero, suc, ◌+◌, ◌-◌, ◌*◌, ◌/◌, ◌%◌, ◌^◌, ◌<◌, min, max}
use native.Mathlib.Nat.{mod-lt, zero-div, div-eq_of_lt, mul-mod_left, pow-suc, one-mul}
use native.Mathlib.Numerals.{one-add}
use native.Mathlib.Omega.{arith}
use native.Mathlib.Decide.{dec_lt, ℕ_discrete}
use lib.Arith.{digits_mod}
use lib.Bits.{bit_or, bit_and, or_step, and_step, or_shr, and_shr}
use lib.Dec.{eqb}
use lib.Pow.{pow-lt, pow-add, shl-shr, shr-shr, shl_exact}
use borrow.Author.Tests.{eq-eqb, ne_eqb, eqb-true}
use Rattle.block.specs.Sets.{bit}

pub bit-lt : (x k : ℕ) → bit x k < 2
unfolding bit
bit-lt x k = mod-lt (x / 2 ^ k) (omega arith)

or-odd : (x y : ℕ) → bit_or x y % 2 ≡ max (x % 2) (y % 2)
or-odd x y = ap (λ (n : ℕ). n % 2) (or_step x y) ∙ digits_mod (bit_or (x / 2) (y / 2)) (omega arith)

and-odd : (x y : ℕ) → bit_and x y % 2 ≡ min (x % 2) (y % 2)
and-odd x y = ap (λ (n : ℕ). n % 2) (and_step x y) ∙ digits_mod (bit_and (x / 2) (y / 2)) (omega arith)

pub bit-or : (x y k : ℕ) → bit (bit_or x y) k ≡ max (bit x k) (bit y k)
unfolding bit
bit-or x y k = ap (λ (n : ℕ). n % 2) (or_shr x y k) ∙ or-odd (x / 2 ^ k) (y / 2 ^ k)

pub bit-and : (x y k : ℕ) → bit (bit_and x y) k ≡ min (bit x k) (bit y k)
unfolding bit
bit-and x y k = ap (λ (n : ℕ). n % 2) (and_shr x y k) ∙ and-odd (x / 2 ^ k) (y / 2 ^ k)

pub bit-zero : (k : ℕ) → bit 0 k ≡ 0
unfolding bit
bit-zero k = ap (λ (n : ℕ). n % 2) (zero-div (2 ^ k))

-- 2 ^ k has the digit k
pub bit-pow-same : (k : ℕ) → bit (2 ^ k) k ≡ 1
unfolding bit
bit-pow-same k = ap (λ (n : ℕ). n % 2) (ap (λ (n : ℕ). n / 2 ^ k) (sym (one-mul (2 ^ k))) ∙ shl-shr 1 k)

pow-above : (k d : ℕ) → 2 ^ (suc d + k) / 2 ^ k % 2 ≡ 0
pow-above k d =
    ap (λ (n : ℕ). n / 2 ^ k % 2) (pow-add 2 (suc d) k)
    ∙ ap (λ (n : ℕ). n % 2) (shl-shr (2 ^ suc d) k)
    ∙ ap (λ (n : ℕ). n % 2) (pow-suc 2 d)
    ∙ mul-mod_left (2 ^ d) 2

-- and no other
pub bit-pow-other : (j k : ℕ) → (j ≡ k → ⊥) → bit (2 ^ j) k ≡ 0
unfolding bit
bit-pow-other j k h =
    elim (dec_lt j k) [
      | yes l ↦ ap (λ (n : ℕ). n % 2) (div-eq_of_lt (pow-lt l))
      | no g ↦
          let e : suc (j - suc k) + k ≡ j = omega arith in
          subst (λ (n : ℕ). 2 ^ n / 2 ^ k % 2 ≡ 0) e (pow-above k (j - suc k))
    ]

-- digit k + 1 is digit k of the half
pub bit-suc : (x k : ℕ) → bit x (suc k) ≡ bit (x / 2) k
unfolding bit
bit-suc x k = ap (λ (n : ℕ). n % 2) (sym (shr-shr x 1 k ∙ ap (λ (n : ℕ). x / 2 ^ n) (one-add k)))

pub bit-cases : (x k : ℕ) → (bit x k ≡ 0) ⊎ (bit x k ≡ 1)
bit-cases x k = two (bit x k) (bit-lt x k)
  where
    two : (n : ℕ) → n < 2 → (n ≡ 0) ⊎ (n ≡ 1)
    two n l = elim (dec_lt n 1) [ yes z ↦ inl (omega arith) | no z ↦ inr (omega arith) ]

-- numbers below 2 ^ n with the same n digits are equal
pub bit-ext : (n x y : ℕ) → x < 2 ^ n → y < 2 ^ n → ((k : ℕ) → k < n → bit x k ≡ bit y k) → x ≡ y
unfolding bit
bit-ext zero x y hx hy h = omega arith
bit-ext (suc n) x y hx hy h =
    let hx' : x < 2 ^ n * 2 = rw pow-suc at hx in
    let hy' : y < 2 ^ n * 2 = rw pow-suc at hy in
    let half : x / 2 ≡ y / 2 =
    bit-ext n (x / 2) (y / 2) (omega arith) (omega arith)
    (λ k l. sym (bit-suc x k) ∙ h (suc k) (omega arith) ∙ bit-suc y k) in
    let odd : x / 1 % 2 ≡ y / 1 % 2 = h 0 (omega arith) in
    omega arith

bit-low : (x : ℕ) → x ≡ 1 → bit x 0 ≡ 1
unfolding bit
bit-low x e = rw e

-- a number that is not 0 has a digit 1
pub bit-some : (n x : ℕ) → x < 2 ^ n → (x ≡ 0 → ⊥) → (k : ℕ) × (k < n) × (bit x k ≡ 1)
bit-some zero x hx h = absurd (h (omega arith))
bit-some (suc n) x hx h =
    let hx' : x < 2 ^ n * 2 = rw pow-suc at hx in
    elim (ℕ_discrete (x / 2) 0) [
      | yes z ↦ (0, omega arith, bit-low x (omega arith))
      | no z ↦
          let r : (k : ℕ) × (k < n) × (bit (x / 2) k ≡ 1) = bit-some n (x / 2) (omega arith) z in
          (suc r.0, omega (arith, r.1), bit-suc x r.0 ∙ r.2)
    ]

-- ---- the test of a digit
max-one : (p q : ℕ) → p < 2 → q < 2 → eqb (max p q) 1 ≡ (eqb p 1 || eqb q 1)
max-one p q hp hq =
    elim (ℕ_discrete p 1) [
      | yes e ↦ rw (eq-eqb p 1 e) (eq-eqb (max p q) 1 (omega arith))
      | no n ↦
          rw (ne_eqb p 1 n)
          (elim (ℕ_discrete q 1) [
            | yes e ↦ rw (eq-eqb q 1 e) (eq-eqb (max p q) 1 (omega arith))
            | no m ↦ rw (ne_eqb q 1 m) (ne_eqb (max p q) 1 (λ e. omega arith))
          ])
    ]

pub test-or : (x y k : ℕ) → eqb (bit (bit_or x y) k) 1 ≡ (eqb (bit x k) 1 || eqb (bit y k) 1)
test-or x y k = ap (λ (d : ℕ). eqb d 1) (bit-or x y k) ∙ max-one (bit x k) (bit y k) (bit-lt x k) (bit-lt y k)

-- `or` with 2 ^ j sets digit j
pub test-with : (x j k : ℕ) → eqb (bit (bit_or x (2 ^ j)) k) 1 ≡ (eqb (bit x k) 1 || eqb k j)
test-with x j k = test-or x (2 ^ j) k ∙ ap (λ (b : Bool). eqb (bit x k) 1 || b) (single (ℕ_discrete k j))
  where
    single : Dec (k ≡ j) → eqb (bit (2 ^ j) k) 1 ≡ eqb k j
    single (yes e) = eq-eqb (bit (2 ^ j) k) 1 (rw e (bit-pow-same j)) ∙ sym (eq-eqb k j e)
    single (no n) = ne_eqb (bit (2 ^ j) k) 1 (λ e. omega (arith, bit-pow-other j k (λ f. n (sym f)))) ∙ sym (ne_eqb k j n)

-- digits are equal where the tests of them are
pub test_bit : (x y k : ℕ) → eqb (bit x k) 1 ≡ eqb (bit y k) 1 → bit x k ≡ bit y k
test_bit x y k e = go (bit-cases x k) (bit-cases y k)
  where
    go : (bit x k ≡ 0) ⊎ (bit x k ≡ 1) → (bit y k ≡ 0) ⊎ (bit y k ≡ 1) → bit x k ≡ bit y k
    go (inl p) (inl q) = p ∙ sym q
    go (inr p) (inr q) = p ∙ sym q
    go (inr p) (inl q) = sym (eqb-true (bit y k) 1 (sym e ∙ eq-eqb (bit x k) 1 p) ∙ sym p)
    go (inl p) (inr q) = eqb-true (bit x k) 1 (e ∙ eq-eqb (bit y k) 1 q) ∙ sym q

-- the code's `1 << k`
pub one_shl : (k : ℕ) → k < 64 → 1 * 2 ^ k % 2 ^ 64 ≡ 2 ^ k
one_shl k h = shl_exact 1 k 64 (omega arith) (omega arith) ∙ one-mul (2 ^ k)
