-- What was read is one thing: numbers, an end or a fault. Assumes nothing.
use mathlib.Core.Path.{◌≡◌, sym, ap, ◌∙◌}
use Prim.Native.Nat.{ℕ}
use native.Mathlib.Omega.{arith}
use Rattle.words.specs.Words.{Read, number, end, fault}

-- the place behind a line, or in it, and the numbers of it
abbrev place_of : Read → ℕ
place_of (number n p) = p
place_of end = 0
place_of (fault p) = p

abbrev count_of : Read → ℕ
count_of (number n p) = n
count_of end = 0
count_of (fault p) = 0

abbrev kind : Read → ℕ
kind (number n p) = 0
kind end = 1
kind (fault p) = 2

module _ {x : Read} where
  pub same_place : {n n' p p' : ℕ} → x ≡ number n p → x ≡ number n' p' → p' ≡ p
  same_place e f = ap place_of (sym f ∙ e)

  pub same_count : {n n' p p' : ℕ} → x ≡ number n p → x ≡ number n' p' → n' ≡ n
  same_count e f = ap count_of (sym f ∙ e)

  pub not_end : {n p : ℕ} → x ≡ number n p → x ≡ end → ⊥
  not_end e f = let k = ap kind (sym e ∙ f) in omega (arith, k)

  pub not-fault : {n p q : ℕ} → x ≡ number n p → x ≡ fault q → ⊥
  not-fault e f = let k = ap kind (sym e ∙ f) in omega (arith, k)

  pub fault-not-end : {q : ℕ} → x ≡ fault q → x ≡ end → ⊥
  fault-not-end e f = let k = ap kind (sym e ∙ f) in omega (arith, k)
