-- Rooms that are full of one word, and rooms whose first words are zero and the others a fill, by their two parts. Assumes nothing.
use Rattle.std.proofs.Common.{List, [], ◌∷◌, ◌++◌, map, ◌↔◌, ◌≡◌, refl, sym, ap, ap₂, ◌∙◌, ℕ, ◌-◌, ◌<◌, ◌≤◌, min, length, take, drop, replicate, arith}
use Rattle.std.proofs.lemmas.List.{length-map}
use lib.ListN.{get_or, length-replicate, length-append, get_or-map, get_or-replicate}
use lib.Seq.{take-append_seam, drop-append_seam, take_all}
use Rattle.listed_pager.specs.Work.{Cleared}

module _ {A : Type 0} (number : A → ℕ) where
  -- ---- one word
  module _ (words : List A) (all : ℕ) where
    pub full-done : (i : ℕ) → length words ≤ i → i ≤ length words → map number (take i words) ≡ replicate i all → map number words ≡ replicate (length words) all
    full-done i h l e =
        let k : i ≡ length words = omega arith in
        ap (map number) (sym (take_all i words h)) ∙ e ∙ ap (λ n. replicate n all) k

    pub full-word : (i : ℕ) (d : A) → i < length words → map number words ≡ replicate (length words) all → number (get_or words i d) ≡ all
    full-word i d h e =
        sym (get_or-map number words i d) ∙ ap (λ l. get_or l i (number d)) e ∙ get_or-replicate (length words) i all (number d) h

  map-append : (xs ys : List A) → map number (xs ++ ys) ≡ map number xs ++ map number ys
  map-append [] ys = refl
  map-append (x ∷ xs) ys = ap (λ l. number x ∷ l) (map-append xs ys)

-- ---- two parts of a list that was put together
parts-same : (xs ys us vs : List ℕ) → length xs ≡ length us → xs ++ ys ≡ us ++ vs → (xs ≡ us) × (ys ≡ vs)
parts-same xs ys us vs l e = (
  sym (take-append_seam xs ys) ∙ ap (take (length xs)) e ∙ ap (λ k. take k (us ++ vs)) l ∙ take-append_seam us vs,
  sym (drop-append_seam xs ys) ∙ ap (drop (length xs)) e ∙ ap (λ k. drop k (us ++ vs)) l ∙ drop-append_seam us vs,
)

module _ {A : Type 0} (number : A → ℕ) (room front behind : List A) (s : room ≡ front ++ behind) (numbers nf nb : List ℕ)
    (each : numbers ≡ map number room) (each-front : nf ≡ map number front) (each-behind : nb ≡ map number behind)
    (zeros fill : ℕ) (z : length front ≡ min zeros (length room)) where
  parts : numbers ≡ nf ++ nb
  parts = each ∙ ap (map number) s ∙ map-append number front behind ∙ ap₂ ◌++◌ (sym each-front) (sym each-behind)

  all : length numbers ≡ length room
  all = ap length each ∙ length-map room number

  front-long : length front ≡ min zeros (length numbers)
  front-long = omega (arith, z, all)

  behind-long : length behind ≡ length numbers - zeros
  behind-long = omega (arith, z, all, ap length s, length-append front behind)

  pub cleared-is : Cleared zeros fill numbers ↔ ((nf ≡ replicate (length front) 0) × (nb ≡ replicate (length behind) fill))
  cleared-is = (
    λ c.
        let l : length nf ≡ length {A = ℕ} (replicate (min zeros (length numbers)) 0) =
        ap length each-front ∙ length-map front number ∙ front-long ∙ sym (length-replicate {0} {A = ℕ} (min zeros (length numbers)) 0) in
        let p = parts-same nf nb (replicate (min zeros (length numbers)) 0) (replicate (length numbers - zeros) fill) l (sym parts ∙ c) in
        (p.0 ∙ ap (λ k. replicate k 0) (sym front-long), p.1 ∙ ap (λ k. replicate k fill) (sym behind-long)),
    λ p. parts ∙ ap₂ ◌++◌ (p.0 ∙ ap (λ k. replicate k 0) front-long) (p.1 ∙ ap (λ k. replicate k fill) behind-long),
  )
