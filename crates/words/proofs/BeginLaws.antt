-- When words begin with a part, or with numbers. Assumes nothing.
use mathlib.Core.Bool.{Bool, true, false, cond}
use mathlib.Core.Logic.{◌↔◌}
use mathlib.Core.List.{List, [], ◌∷◌, ◌++◌}
use mathlib.Core.Path.{◌≡◌, refl, sym, ap, ◌∙◌}
use Prim.Native.Nat.{ℕ, ◌≤◌}
use native.Mathlib.Omega.{arith}
use lib.Dec.{leb}
use Rattle.std.specs.Prelude.{map}
use Rattle.std.proofs.lemmas.List.{length-map}
use lib.ListN.{length, get_or, take, drop, take-append-drop}
use lib.Seq.{take_all}
use borrow.Author.Tests.{leb-false}
use Rattle.words.specs.Parts.{part_of, behind_of}
use Rattle.words.specs.Given.{as_part}
use Rattle.words.proofs.Answers.{says-no}
use Rattle.words.proofs.GivenLaws.{part-back}

-- words compared one after another, the wider with the narrower
pub all-same : {A : Type 0} (number : A → ℕ) (a : List ℕ) (b : List A) (i : ℕ) → length a ≡ length b → length b ≤ i
    → take i a ≡ map number (take i b) → a ≡ map number b
all-same number a b i l h e = sym (take_all i a (omega arith)) ∙ e ∙ ap (map number) (take_all i b h)

pub length-same : {A : Type 0} (number : A → ℕ) (b : List A) (ws : List ℕ) → ws ≡ map number b → length ws ≡ length b
length-same number b ws e = ap length e ∙ length-map b number

module _ (ws buf : List ℕ) where
  -- no word, or another length
  pub begins-not : (1 ≤ length ws → get_or ws 0 0 ≡ length buf → ⊥) → (false ≡ true) ↔ (ws ≡ as_part buf ++ behind_of ws)
  begins-not n = says-no (λ e. n (rw e (omega arith)) (ap (λ l. get_or l 0 0) e))

  whole : (vs : List ℕ) → vs ≡ ws → 1 ≤ length vs → get_or vs 0 0 ≡ length buf → part_of vs ≡ buf → vs ≡ as_part buf ++ behind_of vs
  unfolding part_of behind_of
  whole [] z h e p = absurd (omega arith)
  whole (n ∷ vs) z h e p = go (leb n (length vs)) refl p
    where
      go : (c : Bool) → leb n (length vs) ≡ c → cond c (take n vs) [] ≡ buf → n ∷ vs ≡ length buf ∷ buf ++ cond c (drop n vs) []
      go true l q = rw (sym e, sym q, take-append-drop n vs) refl
      go false l q = absurd (omega (arith, leb-false n (length vs) l, ap length q))

  -- the length is right: the words decide
  pub begins-by : {r : Bool} → 1 ≤ length ws → get_or ws 0 0 ≡ length buf → (r ≡ true) ↔ (part_of ws ≡ buf)
      → (r ≡ true) ↔ (ws ≡ as_part buf ++ behind_of ws)
  begins-by h e i = (λ t. whole ws refl h e (i.0 t), λ l. i.1 (ap part_of l ∙ part-back buf (behind_of ws)))
