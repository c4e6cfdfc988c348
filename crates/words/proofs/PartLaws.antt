-- Where a part ends, and one word more of those that are put. Assumes nothing.
use Rattle.std.proofs.Common.{Option, None, Some, List, [], ◌∷◌, ◌++◌, ◌≡◌, refl, ap, ◌∙◌, ℕ, suc, ◌+◌, ◌^◌, ◌-◌, ◌<◌, ◌≤◌, length, take, drop, arith}
use native.Mathlib.Numerals.{add-one}
use lib.ListN.{get_or, set, drop_of_length-le, length-drop, take-append-drop, length-append}
use lib.Seq.{drop-cons, length-take-le, take_all}
use borrow.Author.Tests.{le-leb, lt-leb, lt-ltb, le-ltb}
use Rattle.std.specs.Option.{MatchOption}
use Rattle.std.specs.List.{IsSplitAt}
use Rattle.words.specs.Parts.{part_of, behind_of, narrow_from}
use Rattle.words.specs.Given.{as_part}

pub no_part : (ws : List ℕ) → length ws ≡ 0 → (part_of ws ≡ []) × (behind_of ws ≡ []) × (length ws ≤ get_or ws 0 0)
unfolding part_of behind_of
no_part [] h = (refl, refl, omega arith)
no_part (n ∷ ws) h = absurd (omega arith)

module _ (n : ℕ) (rest : List ℕ) where
  part-cut : length rest < n → (part_of (n ∷ rest) ≡ []) × (behind_of (n ∷ rest) ≡ []) × (suc (length rest) ≤ n)
  unfolding part_of behind_of
  part-cut h = let e = lt-leb n (length rest) h in (rw e refl, rw e refl, omega arith)

  part-split : n ≤ length rest
      → (take n rest ≡ part_of (n ∷ rest)) × (drop n rest ≡ behind_of (n ∷ rest)) × (n ∷ rest ≡ as_part (take n rest) ++ drop n rest)
  unfolding part_of behind_of
  part-split h = let e = le-leb n (length rest) h in (rw e refl, rw e refl, rw (length-take-le n rest h, take-append-drop n rest) refl)

-- words that are cut short are no part and more words
pub cut-not : (line ws rest : List ℕ) → length line ≤ get_or line 0 0 → line ≡ as_part ws ++ rest → ⊥
cut-not line ws rest h e = let l = rw e at h in omega (arith, l, length-append ws rest)

-- what stands from place n on, as the code takes it
pub part-tail : (n : ℕ) (ws : List ℕ) → take (length ws - n) (drop n ws) ≡ drop n ws
part-tail n ws = take_all (length ws - n) (drop n ws) (omega (arith, length-drop n ws))

module _ (ws : List ℕ) (i : ℕ) (out : List ℕ) where
  pub narrow-done : i ≡ length ws → narrow_from (drop i ws) i out ≡ (length ws, out)
  unfolding narrow_from
  narrow-done h = ap (λ l. narrow_from l i out) (drop_of_length-le ws {i = i} (omega arith)) ∙ ap (λ k. (k, out)) h

  module _ (h : i < length ws) where
    pub narrow-full : length out ≤ i → narrow_from (drop i ws) i out ≡ (i, out)
    unfolding narrow_from
    narrow-full l = rw (drop-cons ws i 0 h, le-ltb i (length out) l) refl

    module _ (l : i < length out) where
      pub narrow_wide : 2 ^ 32 ≤ get_or ws i 0 → narrow_from (drop i ws) i out ≡ (i, out)
      unfolding narrow_from
      narrow_wide b = rw (drop-cons ws i 0 h, lt-ltb i (length out) l, le-ltb (get_or ws i 0) (2 ^ 32) b) refl

      pub narrow-more : get_or ws i 0 < 2 ^ 32 → narrow_from (drop i ws) i out ≡ narrow_from (drop (i + 1) ws) (i + 1) (set out i (get_or ws i 0))
      unfolding narrow_from
      narrow-more b = rw (add-one, drop-cons ws i 0 h, lt-ltb i (length out) l, lt-ltb (get_or ws i 0) (2 ^ 32) b) refl

-- what `split_at_checked` answered at the length, of the words behind it
module _ {P : Type 0} (front back : P → List ℕ) (ws rest : List ℕ) (n : ℕ) (e : ws ≡ n ∷ rest) where
  pub split-says : (r : Option P) → MatchOption r (length rest < n) (λ p. IsSplitAt rest n (front p) (back p))
      → MatchOption r ((part_of ws ≡ []) × (behind_of ws ≡ []) × (length ws ≤ get_or ws 0 0)) (λ p. (front p ≡ part_of ws) × (back p ≡ behind_of ws) × (ws ≡ as_part (front p) ++ back p))
  split-says None h = rw e (part-cut n rest h)
  split-says (Some p) h =
      let s = part-split n rest h.0 in
      rw (h.1, h.2, e) s
