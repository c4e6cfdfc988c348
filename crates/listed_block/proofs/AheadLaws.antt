-- Marks and sets of the rules, one after another, and how they are stored. Assumes nothing.
use Rattle.std.proofs.Common.{List, [], ◌∷◌, ◌++◌, map, ◌↔◌, ◌≡◌, refl, sym, ap, ◌∙◌, ℕ, suc, ◌+◌, ◌<◌, ◌≤◌, length, take, drop, arith}
use native.Mathlib.Numerals.{add-one}
use lib.ListN.{get_or, drop_of_length-le}
use lib.Seq.{drop-cons}
use Rattle.block.specs.First.{Ahead, is_null, nothing, AheadIs}
use Rattle.block.specs.Firsts.{unread}
use Rattle.block.specs.declared.lookahead.Lookahead.{Lookahead}
use Rattle.listed_block.specs.Cases.{mark_of, first_words}
use Rattle.listed_block.specs.Aheads.{marks_of, words_of}

-- ---- the sets that are left, and the words that are left
pub append-same : (p xs ys : List ℕ) → p ++ xs ≡ p ++ ys → xs ≡ ys
append-same [] xs ys e = e
append-same (x ∷ p) xs ys e = append-same p xs ys cc

module _ (aheads : List Lookahead) (i : ℕ) where
  -- what is left to compare, in the place of all
  abbrev pub Left : List ℕ → List ℕ → Type 0
  Left words rest = (rest ≡ words_of (drop i aheads)) ↔ (words ≡ words_of aheads)

  pub none-left : (words rest : List ℕ) → length aheads ≤ i → Left words rest → (rest ≡ []) ↔ (words ≡ words_of aheads)
  none-left words rest h l = let e : drop i aheads ≡ [] = drop_of_length-le aheads {i = i} h in rw e at l

  module _ (h : i < length aheads) where
    abbrev a : Lookahead
    a = get_or aheads i unread

    front : words_of (drop i aheads) ≡ a.set.words ++ words_of (drop (i + 1) aheads)
    front = ap words_of (drop-cons aheads i unread h) ∙ rw (add-one i) refl

    pub one-more : (words rest next : List ℕ) → Left words rest → rest ≡ a.set.words ++ next → (next ≡ words_of (drop (i + 1) aheads)) ↔ (words ≡ words_of aheads)
    one-more words rest next l n = (
      λ t. l.0 (n ∙ ap (λ x. a.set.words ++ x) t ∙ sym front),
      λ w. append-same a.set.words next _ (sym n ∙ l.1 w ∙ front),
    )

    pub no-more : (words rest : List ℕ) → Left words rest → ((next : List ℕ) → rest ≡ a.set.words ++ next → ⊥) → words ≡ words_of aheads → ⊥
    no-more words rest l f w = f _ (l.1 w ∙ front)

-- ---- as they are stored
pub stored : (F : List Ahead) (l : List Lookahead) → length F ≤ length l → ((r : ℕ) → r < length F → AheadIs (get_or l r unread) (get_or F r nothing))
    → (marks_of (take (length F) l) ≡ map (λ a. mark_of (is_null a)) F) × (words_of (take (length F) l) ≡ first_words F)
unfolding first_words
stored [] l h s = (refl, refl)
stored (a ∷ F) [] h s = absurd (omega arith)
stored (a ∷ F) (x ∷ l) h s =
    let z = s 0 (omega arith) in
    let t = stored F l (omega arith) (λ r k. s (suc r) (omega arith)) in
    (rw (z.null, t.0) refl, rw (z.words, t.1) refl)
