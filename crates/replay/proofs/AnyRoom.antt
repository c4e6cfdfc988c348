-- The line that is read does not depend on what stood in the slots before. Assumes nothing.
use mathlib.Core.Bool.{Bool, true, false, cond}
use mathlib.Core.List.{List, [], ◌∷◌, ◌++◌}
use mathlib.Core.Path.{◌≡◌, refl, sym, ap, subst, ◌∙◌}
use Prim.Native.Nat.{ℕ, zero, suc, ◌+◌, ◌≤◌}
use native.Mathlib.Omega.{arith}
use lib.Dec.{leb}
use lib.ListN.{length, take, set}
use borrow.Author.Tests.{leb-true}
use Rattle.std.proofs.lemmas.List.{length-set}
use Rattle.std.proofs.Math.Seq.{take-suc-set}
use Rattle.words.specs.Words.{Read, number, end, fault, next_word}
use Rattle.words.specs.Lines.{reading, fill_from, line_from}
use Rattle.replay.proofs.Readings.{same_count, not_end, not-fault}

-- two readings: the same answer, and the same numbers in the slots that it names
abbrev pub Alike : Read × List ℕ → Read × List ℕ → Type 0
Alike x y = (x.0 ≡ y.0) × ((m p : ℕ) → x.0 ≡ number m p → take m x.1 ≡ take m y.1)

module _ (text : List ℕ) where
  fill-alike : (n k i : ℕ) (R S : List ℕ) → length R ≡ length S → take i R ≡ take i S → i + n ≤ length R → Alike (fill_from text n k i R) (fill_from text n k i S)
  unfolding fill_from
  fill-alike zero k i R S e t l = (refl, λ m p q. subst (λ x. take x R ≡ take x S) (same_count q refl) t)
  fill-alike (suc n) k i R S e t l =
      go (next_word text k)
      (λ v p. fill-alike n p (suc i) (set R i v) (set S i v) (length-set R i v ∙ e ∙ sym (length-set S i v))
      (take-suc-set R i v (omega arith) ∙ ap (λ x. x ++ (v ∷ [])) t ∙ sym (take-suc-set S i v (omega (arith, e))))
      (omega (arith, length-set R i v)))
    where
      go : (w : Read) → ((v p : ℕ) → Alike (fill_from text n p (suc i) (set R i v)) (fill_from text n p (suc i) (set S i v)))
          → Alike (reading w (λ v p. fill_from text n p (suc i) (set R i v)) (fault (length text), R) (λ p. (fault p, R)))
          (reading w (λ v p. fill_from text n p (suc i) (set S i v)) (fault (length text), S) (λ p. (fault p, S)))
      go (number v p) more = more v p
      go end more = (refl, λ m p q. absurd (not-fault q refl))
      go (fault p) more = (refl, λ m p' q. absurd (not-fault q refl))

  pub line-alike : (k : ℕ) (R S : List ℕ) → length R ≡ length S → Alike (line_from text k R) (line_from text k S)
  unfolding line_from
  line-alike k R S e = go (next_word text k)
    where
      test : (n p : ℕ) (c : Bool) → leb n (length R) ≡ c → Alike (cond c (fill_from text n p 0 R) (fault p, R)) (cond c (fill_from text n p 0 S) (fault p, S))
      test n p true q = fill-alike n p 0 R S e refl (omega (arith, leb-true n (length R) q))
      test n p false q = (refl, λ m p' z. absurd (not-fault z refl))

      go : (w : Read)
          → Alike (reading w (λ n p. cond (leb n (length R)) (fill_from text n p 0 R) (fault p, R)) (end, R) (λ p. (fault p, R)))
          (reading w (λ n p. cond (leb n (length S)) (fill_from text n p 0 S) (fault p, S)) (end, S) (λ p. (fault p, S)))
      go (number n p) =
          subst (λ x. Alike (cond (leb n (length R)) (fill_from text n p 0 R) (fault p, R)) (cond (leb n x) (fill_from text n p 0 S) (fault p, S))) e (test n p (leb n (length R)) refl)
      go end = (refl, λ m p q. absurd (not_end q refl))
      go (fault p) = (refl, λ m p' q. absurd (not-fault q refl))
