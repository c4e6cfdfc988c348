-- A line that begins with three parts, one part after another. Assumes nothing.
use mathlib.Core.Bool.{true}
use mathlib.Core.List.{List, [], ◌∷◌, ◌++◌}
use mathlib.Core.Logic.{◌↔◌}
use mathlib.Core.Path.{◌≡◌, refl, sym, ap, ◌∙◌}
use Prim.Native.Nat.{ℕ}
use native.Mathlib.Omega.{arith}
use lib.Dec.{eqb}
use lib.ListN.{length}
use borrow.Author.Tests.{eqb-true}
use Rattle.words.specs.Given.{as_part}
use Rattle.words.specs.Parts.{behind_of}
use Rattle.words.proofs.GivenLaws.{behind-is, begins-part}

module _ (ws a b c : List ℕ) where
  abbrev next : List ℕ
  next = behind_of ws

  abbrev last : List ℕ
  last = behind_of next

  abbrev pub Three : List ℕ → Type 0
  Three more = ws ≡ as_part a ++ (as_part b ++ (as_part c ++ more))

  module _ (more : List ℕ) (e : Three more) where
    pub first : ws ≡ as_part a ++ next
    first = begins-part ws a _ e

    next-is : next ≡ as_part b ++ (as_part c ++ more)
    next-is = behind-is ws a _ e

    pub second : next ≡ as_part b ++ last
    second = begins-part next b _ next-is

    last-is : last ≡ as_part c ++ more
    last-is = behind-is next b _ next-is

    pub third : last ≡ as_part c ++ behind_of last
    third = begins-part last c more last-is

    pub behind-three : behind_of last ≡ more
    behind-three = behind-is last c more last-is

  pub three : ws ≡ as_part a ++ next → next ≡ as_part b ++ last → last ≡ as_part c ++ behind_of last → Three (behind_of last)
  three f s t = f ∙ ap (λ l. as_part a ++ l) (s ∙ ap (λ l. as_part b ++ l) t)

  -- nothing stands behind the parts
  pub nothing-more : Three [] → Three (behind_of last)
  nothing-more e = e ∙ ap (λ l. as_part a ++ (as_part b ++ (as_part c ++ l))) (sym (behind-three [] e))

  pub by_end : (w : List ℕ) → w ≡ behind_of last → Three (behind_of last) → (eqb (length w) 0 ≡ true) ↔ Three []
  by_end [] q e = (λ t. e ∙ ap (λ l. as_part a ++ (as_part b ++ (as_part c ++ l))) (sym q), λ f. refl)
  by_end (x ∷ w) q e = (λ t. absurd (omega (arith, eqb-true (length (x ∷ w)) 0 t)), λ f. absurd (omega (arith, ap length (q ∙ behind-three [] f))))
