-- Words that are parts one behind the other, compared part by part. Assumes nothing.
use mathlib.Core.Bool.{Bool, true}
use mathlib.Core.List.{List, [], ◌++◌, append-nil}
use mathlib.Core.Logic.{◌↔◌}
use mathlib.Core.Path.{◌≡◌, refl, sym, ap, ◌∙◌}
use Prim.Native.Nat.{ℕ}
use lib.Dec.{eqb}
use lib.ListN.{length}
use borrow.Author.Tests.{eqb-true, eq-eqb}
use Rattle.words.specs.Parts.{behind_of}
use Rattle.words.specs.Given.{as_part}
use Rattle.words.proofs.GivenLaws.{behind-back, behind-is, begins-part, none}
use Rattle.listed_statetable.specs.Tables.{table_parts}

-- what stands behind three parts
abbrev behind_three : List ℕ → List ℕ
behind_three ws = behind_of (behind_of (behind_of ws))

-- ---- three parts, and what stands behind them
module _ (ws a b c more : List ℕ) (e : ws ≡ as_part a ++ (as_part b ++ (as_part c ++ more))) where
  pub behind-three-is : behind_three ws ≡ more
  behind-three-is = rw (behind-is ws a (as_part b ++ (as_part c ++ more)) e, behind-back b (as_part c ++ more), behind-back c more) refl

  pub begins-three : ws ≡ as_part a ++ (as_part b ++ (as_part c ++ behind_three ws))
  begins-three = e ∙ ap (λ l. as_part a ++ (as_part b ++ (as_part c ++ l))) (sym behind-three-is)

module _ (ws next last a b c more : List ℕ) (n : next ≡ behind_of ws) (l : last ≡ behind_of next) where
  pub second-of-three : ws ≡ as_part a ++ (as_part b ++ more) → next ≡ as_part b ++ behind_of next
  second-of-three e = begins-part next b more (n ∙ behind-is ws a (as_part b ++ more) e)

  pub three-by : {r : Bool} → ws ≡ as_part a ++ behind_of ws → next ≡ as_part b ++ behind_of next
      → (r ≡ true) ↔ (last ≡ as_part c ++ behind_of last) → (r ≡ true) ↔ (ws ≡ as_part a ++ (as_part b ++ (as_part c ++ behind_three ws)))
  three-by f s i = (
    λ t.
        let z : behind_of last ≡ behind_three ws = ap behind_of (l ∙ ap behind_of n) in
        f ∙ ap (λ x. as_part a ++ x) (sym n ∙ s ∙ ap (λ x. as_part b ++ x) (sym l ∙ i.0 t ∙ ap (λ x. as_part c ++ x) z)),
    λ e. i.1 (begins-part last c (behind_three ws)
        (l ∙ behind-is next b (as_part c ++ behind_three ws) (n ∙ behind-is ws a (as_part b ++ (as_part c ++ behind_three ws)) e))),
  )

-- ---- two parts, and nothing behind them
module _ (ws next last a b : List ℕ) (n : next ≡ behind_of ws) (l : last ≡ behind_of next) where
  next-is : ws ≡ as_part a ++ as_part b → next ≡ as_part b ++ []
  next-is e = n ∙ behind-is ws a (as_part b) e ∙ sym (append-nil (as_part b))

  pub second-of-two : ws ≡ as_part a ++ as_part b → next ≡ as_part b ++ behind_of next
  second-of-two e = begins-part next b [] (next-is e)

  pub two-by : ws ≡ as_part a ++ behind_of ws → next ≡ as_part b ++ behind_of next → (eqb (length last) 0 ≡ true) ↔ (ws ≡ as_part a ++ as_part b)
  two-by f s = (
    λ t. f ∙ ap (λ x. as_part a ++ x) (sym n ∙ s ∙ ap (λ x. as_part b ++ x) (sym l ∙ none last (eqb-true (length last) 0 t)) ∙ append-nil (as_part b)),
    λ e. eq-eqb (length last) 0 (ap length (l ∙ behind-is next b [] (next-is e))),
  )

-- ---- tables, marks and lists: twice three parts, and two
module _ (ws next last actions gotos offered shifts cores only rr sr : List ℕ) (n : next ≡ behind_three ws) (l : last ≡ behind_three next) where
  -- what stands behind the tables
  abbrev marks : List ℕ
  marks = as_part shifts ++ (as_part cores ++ (as_part only ++ (as_part rr ++ as_part sr)))

  pub tables-first : ws ≡ table_parts actions gotos offered shifts cores only rr sr
      → ws ≡ as_part actions ++ (as_part gotos ++ (as_part offered ++ behind_three ws))
  tables-first e = begins-three ws actions gotos offered marks e

  next_marks : ws ≡ table_parts actions gotos offered shifts cores only rr sr → next ≡ marks
  next_marks e = n ∙ behind-three-is ws actions gotos offered marks e

  pub tables-second : ws ≡ table_parts actions gotos offered shifts cores only rr sr
      → next ≡ as_part shifts ++ (as_part cores ++ (as_part only ++ behind_three next))
  tables-second e = begins-three next shifts cores only (as_part rr ++ as_part sr) (next_marks e)

  pub tables-by : {r : Bool} → ws ≡ as_part actions ++ (as_part gotos ++ (as_part offered ++ behind_three ws))
      → next ≡ as_part shifts ++ (as_part cores ++ (as_part only ++ behind_three next)) → (r ≡ true) ↔ (last ≡ as_part rr ++ as_part sr)
      → (r ≡ true) ↔ (ws ≡ table_parts actions gotos offered shifts cores only rr sr)
  tables-by f s i = (
    λ t. f ∙ ap (λ x. as_part actions ++ (as_part gotos ++ (as_part offered ++ x)))
        (sym n ∙ s ∙ ap (λ x. as_part shifts ++ (as_part cores ++ (as_part only ++ x))) (sym l ∙ i.0 t)),
    λ e. i.1 (l ∙ behind-three-is next shifts cores only (as_part rr ++ as_part sr) (next_marks e)),
  )
