-- A line and its first part: how it is read back, and when its words were all put. Assumes nothing.
use mathlib.Core.Bool.{Bool, true, false, cond, ◌&&◌}
use mathlib.Core.List.{List, [], ◌∷◌, ◌++◌}
use mathlib.Core.Logic.{◌↔◌}
use mathlib.Core.Path.{◌≡◌, refl, sym, ap, ◌∙◌}
use Prim.Native.Nat.{ℕ, suc, ◌+◌, ◌^◌, ◌<◌, ◌≤◌}
use native.Mathlib.Omega.{arith}
use lib.Dec.{eqb, leb, ltb}
use lib.ListN.{length, take, drop, replicate, length-replicate, length-append, take-append-drop}
use lib.Seq.{length-take-le, take-append_seam, drop-append_seam, set_at, append_snoc}
use borrow.Author.Tests.{eqb-true, le-leb, leb-true, lt-ltb, le-ltb}
use Rattle.words.specs.Parts.{part_of, behind_of, narrow_from}
use Rattle.words.specs.Given.{as_part, Part, narrows, Given}
use Rattle.words.proofs.Answers.{differ, says-no}

-- ---- the part is read back, and what stands behind it
module _ (ws rest : List ℕ) where
  pub part-back : part_of (as_part ws ++ rest) ≡ ws
  unfolding part_of
  part-back = rw (le-leb (length ws) (length (ws ++ rest)) (omega (arith, length-append ws rest))) (take-append_seam ws rest)

  pub behind-back : behind_of (as_part ws ++ rest) ≡ rest
  unfolding behind_of
  behind-back = rw (le-leb (length ws) (length (ws ++ rest)) (omega (arith, length-append ws rest))) (drop-append_seam ws rest)

module _ (line part more : List ℕ) (e : line ≡ as_part part ++ more) where
  pub behind-is : behind_of line ≡ more
  behind-is = ap behind_of e ∙ behind-back part more

  pub begins-part : line ≡ as_part part ++ behind_of line
  begins-part = e ∙ ap (λ l. as_part part ++ l) (sym behind-is)

-- no word
pub none : (l : List ℕ) → length l ≡ 0 → l ≡ []
none [] e = refl
none (x ∷ l) e = absurd (omega arith)

-- something stands behind the part: it stands whole
pub part-whole : (line : List ℕ) → 1 ≤ length (behind_of line) → line ≡ as_part (part_of line) ++ behind_of line
unfolding part_of behind_of
part-whole [] h = absurd (omega arith)
part-whole (n ∷ ws) h = go (leb n (length ws)) refl h
  where
    go : (c : Bool) → leb n (length ws) ≡ c → 1 ≤ length (cond c (drop n ws) [])
        → n ∷ ws ≡ as_part (cond c (take n ws) []) ++ cond c (drop n ws) []
    go true e l = rw (length-take-le n ws (leb-true n (length ws) e), take-append-drop n ws) refl
    go false e l = absurd (omega arith)

module _ {P : List ℕ → List ℕ → Type 0} {line : List ℕ} where
  pub part-holds : Part P line → P (part_of line) (behind_of line)
  part-holds g = rw (g.words, part-back g.part g.rest, behind-back g.part g.rest) g.holds

  pub holds-part : 1 ≤ length (behind_of line) → P (part_of line) (behind_of line) → Part P line
  holds-part l h = record { part = part_of line; rest = behind_of line; words = part-whole line l; holds = h }

-- what `is_empty` answers
pub empty-is : (l : List ℕ) (r : Bool) → r ≡ eqb (length l) 0 → (r ≡ true) ↔ (l ≡ [])
empty-is l r e = (λ t. none l (eqb-true (length l) 0 (sym e ∙ t)), λ z. e ∙ rw z refl)

-- ---- what `given` answers, of a room of m slots
slots : (m : ℕ) → length {A = ℕ} (replicate m 0) ≡ m
slots m = length-replicate {0} {A = ℕ} m 0

module _ (m : ℕ) {P : List ℕ → List ℕ → Type 0} (line : List ℕ) where
  pub case-none : ((ws rest : List ℕ) → line ≡ as_part ws ++ rest → narrows (length {A = ℕ} (replicate m 0)) ws ≡ true → ⊥) → (false ≡ true) ↔ Given m P line
  case-none f = says-no (λ (g : Given m P line). f g.part g.rest g.words (rw (slots m) g.holds.0))

  module _ (b rest : List ℕ) (h : (line ≡ as_part b ++ rest) × (narrows (length {A = ℕ} (replicate m 0)) b ≡ true)) where
    same-part : (g : Given m P line) → P b rest
    same-part g =
        let e : as_part b ++ rest ≡ as_part g.part ++ g.rest = sym (h.0) ∙ g.words in
        let p : b ≡ g.part = sym (part-back b rest) ∙ ap part_of e ∙ part-back g.part g.rest in
        let q : rest ≡ g.rest = sym (behind-back b rest) ∙ ap behind_of e ∙ behind-back g.part g.rest in
        rw (p, q) g.holds.1

    pub case-by : {r : Bool} → (r ≡ true) ↔ P b rest → (r ≡ true) ↔ Given m P line
    case-by i = (λ t. record { part = b; rest = rest; words = h.0; holds = (rw (← slots m) h.1, i.0 t) }, λ g. i.1 (same-part g))

    pub case-not : (P b rest → ⊥) → (false ≡ true) ↔ Given m P line
    case-not f = case-by (says-no f)

-- ---- words put into slots behind others: all of them, or fewer
module _ (w o : ℕ) (ws front out : List ℕ) (i : ℕ) (e : length front ≡ i) where
  -- the word in hand is put, and the others follow
  put_one : ltb w (2 ^ 32) ≡ true → narrow_from (w ∷ ws) i (front ++ o ∷ out) ≡ narrow_from ws (suc i) ((front ++ w ∷ []) ++ out)
  unfolding narrow_from
  put_one h = rw (lt-ltb i (length (front ++ o ∷ out)) (omega (arith, e, length-append front (o ∷ out))), h, set_at front o out w i e, append_snoc front w out) refl

  one_more : length (front ++ w ∷ []) ≡ suc i
  one_more = omega (arith, e, length-append front (w ∷ []))

narrow-all : (ws front out : List ℕ) (i : ℕ) → length front ≡ i → narrows (length out) ws ≡ true
    → narrow_from ws i (front ++ out) ≡ (i + length ws, front ++ (ws ++ drop (length ws) out))
unfolding narrow_from narrows
narrow-all [] front out i e h = let z : i ≡ i + 0 = omega arith in ap (λ k. (k, front ++ out)) z
narrow-all (w ∷ ws) front [] i e h = absurd (differ h)
narrow-all (w ∷ ws) front (o ∷ out) i e h =
    go (ltb w (2 ^ 32)) refl h (narrow-all ws (front ++ w ∷ []) out (suc i) (one_more w o ws front out i e))
  where
    go : (c : Bool) → ltb w (2 ^ 32) ≡ c → (c && narrows (length out) ws) ≡ true
        → (narrows (length out) ws ≡ true
        → narrow_from ws (suc i) ((front ++ w ∷ []) ++ out) ≡ (suc i + length ws, (front ++ w ∷ []) ++ (ws ++ drop (length ws) out)))
        → narrow_from (w ∷ ws) i (front ++ o ∷ out) ≡ (i + suc (length ws), front ++ (w ∷ ws ++ drop (length ws) out))
    go false f g next = absurd (differ g)
    go true f g next =
        let r = next g in
        let z : suc i + length ws ≡ i + suc (length ws) = omega arith in
        put_one w o ws front out i e f ∙ r ∙ rw (z, append_snoc front w (ws ++ drop (length ws) out)) refl

narrow-less : (ws front out : List ℕ) (i : ℕ) → length front ≡ i → narrows (length out) ws ≡ false → (narrow_from ws i (front ++ out)).0 < i + length ws
unfolding narrow_from narrows
narrow-less [] front out i e h = absurd (differ (sym h))
narrow-less (w ∷ ws) front [] i e h = rw (le-ltb i (length (front ++ [])) (omega (arith, e, length-append front []))) (omega arith)
narrow-less (w ∷ ws) front (o ∷ out) i e h =
    go (ltb w (2 ^ 32)) refl h (narrow-less ws (front ++ w ∷ []) out (suc i) (one_more w o ws front out i e))
  where
    go : (c : Bool) → ltb w (2 ^ 32) ≡ c → (c && narrows (length out) ws) ≡ false
        → (narrows (length out) ws ≡ false → (narrow_from ws (suc i) ((front ++ w ∷ []) ++ out)).0 < suc i + length ws)
        → (narrow_from (w ∷ ws) i (front ++ o ∷ out)).0 < i + suc (length ws)
    go false f g next = rw (lt-ltb i (length (front ++ o ∷ out)) (omega (arith, e, length-append front (o ∷ out))), f) (omega arith)
    go true f g next = rw (put_one w o ws front out i e f) (omega (arith, next g))

-- what `narrow` answers and leaves, beginning with the first slot
module _ (ws room after : List ℕ) (n : ℕ) (put : (n, after) ≡ narrow_from ws 0 room) where
  pub narrowed : n ≡ length ws → narrows (length room) ws ≡ true
  narrowed e = go (narrows (length room) ws) refl
    where
      go : (c : Bool) → narrows (length room) ws ≡ c → c ≡ true
      go true f = refl
      go false f = absurd (omega (arith, narrow-less ws [] room 0 refl f, ap (λ x. x.0) put))

  pub narrow-count : narrows (length room) ws ≡ true → n ≡ length ws
  narrow-count h = omega (arith, ap (λ x. x.0) (put ∙ narrow-all ws [] room 0 refl h))

  pub narrow-words : n ≡ length ws → take n after ≡ ws
  narrow-words e =
      let a : after ≡ ws ++ drop (length ws) room = ap (λ x. x.1) (put ∙ narrow-all ws [] room 0 refl (narrowed e)) in
      rw (a, e) (take-append_seam ws (drop (length ws) room))
