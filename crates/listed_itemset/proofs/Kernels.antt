-- The words of the gotos, and how far the words expected agree with them. Assumes nothing.
use Rattle.std.proofs.Common.{Bool, true, false, List, [], ◌∷◌, ◌++◌, ◌↔◌, ◌≡◌, refl, sym, ap, ap₂, ◌∙◌, ℕ, ◌+◌, ◌<◌, ◌≤◌, length, drop, arith}
use mathlib.Core.List.{head-eq_of_cons-eq, tail-eq_of_cons-eq}
use native.Mathlib.Numerals.{add-one}
use lib.ListN.{get_or, drop_of_length-le}
use lib.Seq.{drop-cons}
use Rattle.words.specs.Parts.{part_of, behind_of}
use Rattle.words.specs.Given.{as_part}
use Rattle.words.proofs.Answers.{says-no}
use Rattle.words.proofs.GivenLaws.{part-back, behind-back}
use Rattle.words.proofs.PartLaws.{cut-not}
use Rattle.itemset.specs.Rows.{Row, words_of}
use Rattle.itemset.specs.Goto.{sights_of, goto_of}
use Rattle.listed_itemset.specs.Cases.{kernels_of, goto_words}

-- ---- symbol [kernel rows] in front of other words
module _ (x : ℕ) (rows rest : List ℕ) where
  pub other-symbol : (y : ℕ) (next : List ℕ) → rest ≡ y ∷ next → (y ≡ x → ⊥) → (more : List ℕ) → rest ≡ x ∷ (as_part rows ++ more) → ⊥
  other-symbol y next e n more w = n (head-eq_of_cons-eq (sym e ∙ w))

  module _ (y : ℕ) (next : List ℕ) (e : rest ≡ y ∷ next) where
    pub part-cut : length next ≤ get_or next 0 0 → (more : List ℕ) → rest ≡ x ∷ (as_part rows ++ more) → ⊥
    part-cut h more w = cut-not next rows more h (tail-eq_of_cons-eq (sym e ∙ w))

    module _ (part more : List ℕ) (z : next ≡ as_part part ++ more) where
      pub other-rows : (part ≡ rows → ⊥) → (behind : List ℕ) → rest ≡ x ∷ (as_part rows ++ behind) → ⊥
      other-rows n behind w = n (sym (part-back part more) ∙ ap part_of (sym z ∙ tail-eq_of_cons-eq (sym e ∙ w)) ∙ part-back rows behind)

      pub both-right : y ≡ x → part ≡ rows → rest ≡ x ∷ (as_part rows ++ more)
      both-right s r = e ∙ ap₂ (λ k l. k ∷ l) s (z ∙ ap (λ p. as_part p ++ more) r)

-- ---- the gotos that are left, and the words that are left
module _ (b : List ℕ) (C : List Row) (xs : List ℕ) (i : ℕ) where
  abbrev pub Left : List ℕ → List ℕ → Type 0
  Left gotos rest = (rest ≡ kernels_of b C (drop i xs)) ↔ (gotos ≡ kernels_of b C xs)

  pub none-left : (gotos rest : List ℕ) → length xs ≤ i → Left gotos rest → (rest ≡ []) ↔ (gotos ≡ kernels_of b C xs)
  unfolding kernels_of
  none-left gotos rest h l = let e : drop i xs ≡ [] = drop_of_length-le xs {i = i} h in rw e at l

  module _ (h : i < length xs) where
    abbrev x : ℕ
    x = get_or xs i 0

    abbrev rows : List ℕ
    rows = words_of (goto_of b C x)

    front : kernels_of b C (drop i xs) ≡ x ∷ (as_part rows ++ kernels_of b C (drop (i + 1) xs))
    unfolding kernels_of
    front = ap (kernels_of b C) (drop-cons xs i 0 h) ∙ rw (add-one i) refl

    same-behind : (p q : List ℕ) → ◌≡◌ {A = List ℕ} (x ∷ (as_part rows ++ p)) (x ∷ (as_part rows ++ q)) → p ≡ q
    same-behind p q e = sym (behind-back rows p) ∙ ap behind_of (tail-eq_of_cons-eq e) ∙ behind-back rows q

    pub one-more : (gotos rest next : List ℕ) → Left gotos rest → rest ≡ x ∷ (as_part rows ++ next)
        → (next ≡ kernels_of b C (drop (i + 1) xs)) ↔ (gotos ≡ kernels_of b C xs)
    one-more gotos rest next l n = (
      λ t. l.0 (n ∙ ap (λ p. x ∷ (as_part rows ++ p)) t ∙ sym front),
      λ w. same-behind next _ (sym n ∙ l.1 w ∙ front),
    )

    pub no-more : (gotos rest : List ℕ) → Left gotos rest → ((next : List ℕ) → rest ≡ x ∷ (as_part rows ++ next) → ⊥) → gotos ≡ kernels_of b C xs → ⊥
    no-more gotos rest l f w = f _ (l.1 w ∙ front)

-- ---- the count, and the gotos behind it
module _ (b : List ℕ) (C : List Row) (xs : List ℕ) (s : xs ≡ sights_of b C) (expected : List ℕ) where
  pub no-count : length expected ≡ 0 → expected ≡ goto_words b C → ⊥
  no-count h e = omega (arith, ap length e)

  module _ (n : ℕ) (gotos : List ℕ) (e : expected ≡ n ∷ gotos) where
    pub count-differs : (n ≡ length xs → ⊥) → expected ≡ goto_words b C → ⊥
    count-differs f w = f (head-eq_of_cons-eq (sym e ∙ w) ∙ ap length (sym s))

    gotos-are : expected ≡ goto_words b C → gotos ≡ kernels_of b C xs
    gotos-are w = tail-eq_of_cons-eq (sym e ∙ w) ∙ ap (kernels_of b C) (sym s)

    pub gotos-differ : (gotos ≡ kernels_of b C xs → ⊥) → (false ≡ true) ↔ (expected ≡ goto_words b C)
    gotos-differ f = says-no (λ w. f (gotos-are w))

    pub gotos-by : {r : Bool} → n ≡ length xs → (r ≡ true) ↔ (gotos ≡ kernels_of b C xs) → (r ≡ true) ↔ (expected ≡ goto_words b C)
    gotos-by k i = (
      λ t. e ∙ ap₂ (λ m l. m ∷ l) (k ∙ ap length s) (i.0 t ∙ ap (kernels_of b C) s),
      λ w. i.1 (gotos-are w),
    )
