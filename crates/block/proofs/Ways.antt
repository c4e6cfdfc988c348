-- The two queries of a right side, way by way. Assumes nothing.
use mathlib.Core.Bool.{cond}
use mathlib.Core.List.{List, []}
use mathlib.Core.Path.{◌≡◌, refl, sym, ap, ◌∙◌}
use Prim.Native.Nat.{ℕ, zero, suc, ◌<◌, ◌≤◌}
use native.Mathlib.Omega.{arith}
use lib.Dec.{ltb}
use borrow.Author.Tests.{lt-ltb, le-ltb}
use Rattle.block.specs.Block.{prods, body_of}
use Rattle.block.specs.Refused.{number_of}
use Rattle.block.specs.Bodies.{body_number}
use Rattle.block.specs.declared.refusal.BlockRefusal.{BlockRefusal}
use Rattle.block.specs.declared.refusal.BlockRefusal.TheVariants.{BadHeader, TooLarge, BadProduction, BadStart, BadSymbol, BadPrecedence}
use Rattle.block.specs.declared.queries.BodyRefusal.{BodyRefusal}
use Rattle.block.specs.declared.queries.BodyRefusal.TheVariants.{Block, UnknownProduction}
use Rattle.block.specs.Refusal.{refusal_of, body_refusal, body_part}

-- no refusal has the number 0
pub number-some : (e : BlockRefusal) → number_of e ≡ 0 → ⊥
number-some BadHeader h = omega arith
number-some TooLarge h = omega arith
number-some BadProduction h = omega arith
number-some BadStart h = omega arith
number-some BadSymbol h = omega arith
number-some BadPrecedence h = omega arith

pub body-some : (e : BodyRefusal) → body_number e ≡ 0 → ⊥
body-some (Block e) h = number-some e h
body-some UnknownProduction h = omega arith

module _ (b : List ℕ) (p : ℕ) where
  -- the queries over the number of the block's own refusal
  abbrev numbered : ℕ → ℕ
  numbered zero = cond (ltb p (prods b)) 0 18
  numbered (suc n) = suc n

  abbrev parted : ℕ → List ℕ
  parted zero = body_of b p
  parted (suc n) = []

  pub refusal-given : (n : ℕ) → n ≡ refusal_of b → (n ≡ 0 → ⊥) → n ≡ body_refusal b p
  unfolding body_refusal
  refusal-given zero e d = absurd (d refl)
  refusal-given (suc n) e d = ap numbered e

  pub refusal-none : refusal_of b ≡ 0 → p < prods b → 0 ≡ body_refusal b p
  unfolding body_refusal
  refusal-none e l = sym (ap numbered e ∙ ap (λ t. cond t 0 18) (lt-ltb p (prods b) l))

  pub refusal-past : refusal_of b ≡ 0 → prods b ≤ p → 18 ≡ body_refusal b p
  unfolding body_refusal
  refusal-past e l = sym (ap numbered e ∙ ap (λ t. cond t 0 18) (le-ltb p (prods b) l))

  pub part_none : (n : ℕ) → n ≡ body_refusal b p → (n ≡ 0 → ⊥) → [] ≡ body_part b p
  unfolding body_part
  part_none zero e d = absurd (d refl)
  part_none (suc n) e d = ap parted e

  pub part-is : body_refusal b p ≡ 0 → body_of b p ≡ body_part b p
  unfolding body_part
  part-is e = sym (ap parted e)
