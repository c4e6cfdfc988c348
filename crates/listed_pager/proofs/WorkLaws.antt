-- The words that a graph needs, of a good block and of a bad one. Assumes nothing.
use Rattle.std.proofs.Common.{List, ◌≡◌, refl, ap, ℕ, ◌+◌, ◌*◌, arith}
use borrow.Author.Tests.{eq-eqb, ne_eqb}
use Rattle.block.specs.Block.{prods, symbols}
use Rattle.block.specs.Refusal.{refusal_of}
use Rattle.block.specs.Refused.{number_of}
use Rattle.block.specs.declared.refusal.BlockRefusal.{BlockRefusal}
use Rattle.block.specs.declared.refusal.BlockRefusal.TheVariants.{BadHeader, TooLarge, BadProduction, BadStart, BadSymbol, BadPrecedence}
use Rattle.listed_block.specs.Rooms.{bounded_of}
use Rattle.listed_pager.specs.Work.{of_good, work_of}
use Rattle.listed_pager.specs.declared.work.Work.{Work}

-- the words needed, by the bounded counts
abbrev of : (marks closed kernel : ℕ) → Work
of marks closed kernel = record { marks = marks; closed = closed; kernel = kernel }

same : {m c k m' c' k' : ℕ} → m ≡ m' → c ≡ c' → k ≡ k' → of m c k ≡ of m' c' k'
same e f g = rw (e, f, g) refl

module _ (b : List ℕ) (n : ℕ) where
  of-good : refusal_of b ≡ 0 → n ≡ of_good b n
  of-good e = rw (eq-eqb (refusal_of b) 0 e) refl

  of-bad : (refusal_of b ≡ 0 → ⊥) → 0 ≡ of_good b n
  of-bad d = rw (ne_eqb (refusal_of b) 0 d) refl

-- no refusal has the number 0
pub refused : (e : BlockRefusal) → number_of e ≡ 0 → ⊥
refused BadHeader z = omega arith
refused TooLarge z = omega arith
refused BadProduction z = omega arith
refused BadStart z = omega arith
refused BadSymbol z = omega arith
refused BadPrecedence z = omega arith

module _ (b : List ℕ) (S m : ℕ) (h : m ≡ bounded_of S) where
  pub work-bad : (refusal_of b ≡ 0 → ⊥) → of (2 * m) 0 0 ≡ work_of b S
  work-bad d = same (ap (λ k. 2 * k) h) (of-bad b _ d) (of-bad b _ d)

  pub work-good : (s p : ℕ) → refusal_of b ≡ 0 → s ≡ symbols b → p ≡ prods b → of (2 * m) (5 * (s + p)) (5 * s) ≡ work_of b S
  work-good s p e f g = same (ap (λ k. 2 * k) h) (rw (f, g) (of-good b _ e)) (rw f (of-good b _ e))
