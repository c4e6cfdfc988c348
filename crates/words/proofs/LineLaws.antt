-- One number more of a line, or its end. Assumes nothing.
use mathlib.Core.List.{List}
use mathlib.Core.Path.{◌≡◌, refl, sym, ap, ◌∙◌}
use Prim.Native.Nat.{ℕ, suc, ◌+◌, ◌-◌, ◌<◌, ◌≤◌}
use native.Mathlib.Omega.{arith}
use native.Mathlib.Numerals.{add-one}
use lib.ListN.{length, set}
use borrow.Author.Tests.{le-leb, lt-leb}
use Rattle.std.specs.Prelude.{Option, Some, Ok}
use Rattle.words.specs.Words.{Read, read_of, number, end, fault, next_word}
use Rattle.words.specs.Lines.{fill_from, line_from}

-- a count that was read, as an index
pub count-read : {n count place : ℕ} {r : Read} (o : Option (ℕ × ℕ)) → n ≡ count → o ≡ Some (count, place) → read_of (Ok o) ≡ r → number n place ≡ r
count-read {place = k} o i e h = ap (λ m. number m k) i ∙ sym (ap (λ p. read_of (Ok p)) e) ∙ h

module _ (text : List ℕ) (n k i : ℕ) (out : List ℕ) where
  pub fill_done : i ≡ n → fill_from text (n - i) k i out ≡ (number n k, out)
  unfolding fill_from
  fill_done e = let z : n - i ≡ 0 = omega arith in rw (z, e) refl

  module _ (h : i < n) where
    one_left : n - i ≡ suc (n - (i + 1))
    one_left = omega arith

    pub fill_more : {v p : ℕ} → number v p ≡ next_word text k → fill_from text (n - i) k i out ≡ fill_from text (n - (i + 1)) p (i + 1) (set out i v)
    unfolding fill_from
    fill_more {v} {p} e = rw (one_left, ← e, ← add-one i) refl

    pub fill_end : end ≡ next_word text k → fill_from text (n - i) k i out ≡ (fault (length text), out)
    unfolding fill_from
    fill_end e = rw (one_left, ← e) refl

    pub fill-fault : {p : ℕ} → fault p ≡ next_word text k → fill_from text (n - i) k i out ≡ (fault p, out)
    unfolding fill_from
    fill-fault e = rw (one_left, ← e) refl

module _ (text : List ℕ) (k : ℕ) (out : List ℕ) where
  pub line-fill : {n p : ℕ} → number n p ≡ next_word text k → n ≤ length out → line_from text k out ≡ fill_from text n p 0 out
  unfolding line_from
  line-fill {n} e h = rw (← e, le-leb n (length out) h) refl

  pub line-long : {n p : ℕ} → number n p ≡ next_word text k → length out < n → line_from text k out ≡ (fault p, out)
  unfolding line_from
  line-long {n} e h = rw (← e, lt-leb n (length out) h) refl

  pub line-end : end ≡ next_word text k → line_from text k out ≡ (end, out)
  unfolding line_from
  line-end e = rw (← e) refl

  pub line-fault : {p : ℕ} → fault p ≡ next_word text k → line_from text k out ≡ (fault p, out)
  unfolding line_from
  line-fault e = rw (← e) refl
