-- The marks of a state, cell by cell. Assumes nothing.
use mathlib.Core.Bool.{Bool, true, false, not, ◌&&◌, ◌||◌, or-false}
use mathlib.Core.List.{List, [], ◌∷◌, ◌++◌, map, foldl}
use mathlib.Core.Path.{◌≡◌, refl, sym, ap, ap₂, ◌∙◌, subst}
use Prim.Native.Nat.{ℕ, zero, suc, ◌+◌, ◌/◌, ◌%◌, ◌≤◌, ◌<◌}
use native.Mathlib.Decide.{ℕ_discrete}
use native.Mathlib.Numerals.{add-one}
use native.Mathlib.Omega.{arith}
use mir.Val.{bool_byte}
use borrow.Author.Tests.{eq-eqb, ne_eqb}
use lib.Dec.{eqb}
use lib.ListN.{length, get_or, take, set, replicate, length-set, length-replicate, get_or-replicate}
use lib.Seq.{take-suc, ext_get_or, get_or-set_same, get_or-set_other}
use Rattle.std.specs.Prelude.{sum}
use Rattle.std.specs.List.{fold, list_any, range_with_len}
use Rattle.std.proofs.lemmas.List.Elements.{All-from_get_or}
use Rattle.std.proofs.lemmas.List.Folds.{list_any-append}
use Rattle.std.proofs.lemmas.List.FromFn.{length-map-range_with_len, get_or-map-range_with_len}
use Rattle.std.proofs.lemmas.List.Sums.{sum_by-le}
use Rattle.block.specs.Block.{prods}
use Rattle.block.specs.Lists.{any, from, upto}
use Rattle.block.proofs.ListLaws.{or_right}
use Rattle.statetable.specs.Marks.{one, reduces_by, core_marks, moves_on, reduce_only}
use Rattle.statetable.specs.Laid.{ActionIn, AllIn}
use Rattle.statetable.proofs.Cells.{decode-at}

-- ---- the words of specs/ and those of the library
any-is : {A : Type 0} (f : A → Bool) (xs : List A) → any f xs ≡ list_any f xs
unfolding any
any-is f [] = refl
any-is f (x ∷ xs) = ap (λ t. f x || t) (any-is f xs)

any_last : {A : Type 0} (f : A → Bool) (xs : List A) (x : A) → any f (xs ++ (x ∷ [])) ≡ (any f xs || f x)
any_last f xs x = any-is f (xs ++ (x ∷ [])) ∙ list_any-append f xs (x ∷ []) ∙ ap₂ (λ s t. s || t) (sym (any-is f xs)) (or-false (f x))

sum-is : (xs : List ℕ) (n : ℕ) → fold (λ a x. a + x) n xs ≡ foldl ◌+◌ n xs
sum-is [] n = refl
sum-is (x ∷ xs) n = sum-is xs (n + x)

from-is : (n k : ℕ) → from k n ≡ range_with_len k n
unfolding from
from-is zero k = refl
from-is (suc n) k = ap (λ t. k ∷ t) (from-is n (suc k) ∙ ap (λ j. range_with_len j n) (sym (add-one k)))

-- ---- core_reduces: the mark of production p
module _ (P : ℕ) where
  pub core-length : (cells : List ℕ) → length (core_marks P cells) ≡ P
  unfolding core_marks upto
  core-length cells =
      let f : ℕ → ℕ = λ p. one (any (reduces_by p) cells) in
      ap (λ t. length (map f t)) (from-is P 0) ∙ length-map-range_with_len f 0 P

  core_at : (cells : List ℕ) (p : ℕ) → p < P → get_or (core_marks P cells) p 0 ≡ one (any (reduces_by p) cells)
  unfolding core_marks upto
  core_at cells p l =
      let f : ℕ → ℕ = λ p. one (any (reduces_by p) cells) in
      ap (λ t. get_or (map f t) p 0) (from-is P 0) ∙ get_or-map-range_with_len f 0 P p p 0 l (omega arith)

  one-low : (t : Bool) → one t ≤ 1
  one-low true = omega arith
  one-low false = omega arith

  -- each mark is at most 1
  pub core-sum : (cells : List ℕ) → sum (core_marks P cells) ≤ P
  core-sum cells =
      let m = core_marks P cells in
      let low : (p : ℕ) → p < length m → get_or m p 0 ≤ 1 =
      λ p l. subst (λ (n : ℕ). n ≤ 1) (sym (core_at cells p (omega (arith, core-length cells)))) (one-low (any (reduces_by p) cells)) in
      omega (arith, sum_by-le (λ x. x) 1 m (All-from_get_or (λ x. x ≤ 1) m 0 low), core-length cells)

  -- no cell yet
  pub core-none : replicate P 0 ≡ core_marks P []
  unfolding any
  core-none =
      ext_get_or 0 (replicate P 0) (core_marks P []) (length-replicate {A = ℕ} P 0 ∙ sym (core-length []))
      (λ p l. let h : p < P = omega (arith, length-replicate {A = ℕ} P 0) in get_or-replicate P p 0 0 h ∙ sym (core_at [] p h))

  -- a cell more
  module _ (cells : List ℕ) (w : ℕ) where
    more : (p : ℕ) → p < P → get_or (core_marks P (cells ++ (w ∷ []))) p 0 ≡ one (any (reduces_by p) cells || reduces_by p w)
    more p l = core_at (cells ++ (w ∷ [])) p l ∙ ap one (any_last (reduces_by p) cells w)

    pub core-still : (w % 4 ≡ 2 → ⊥) → core_marks P cells ≡ core_marks P (cells ++ (w ∷ []))
    core-still d =
        ext_get_or 0 (core_marks P cells) (core_marks P (cells ++ (w ∷ []))) (core-length cells ∙ sym (core-length (cells ++ (w ∷ []))))
        (λ p l.
        let h : p < P = omega (arith, core-length cells) in
        core_at cells p h ∙ ap one (sym (or-false (any (reduces_by p) cells)) ∙ ap (λ (t : Bool). any (reduces_by p) cells || (t && eqb (w / 4) p)) (sym (ne_eqb (w % 4) 2 d)))
        ∙ sym (more p h))

    pub core-more : w % 4 ≡ 2 → w / 4 < P → set (core_marks P cells) (w / 4) 1 ≡ core_marks P (cells ++ (w ∷ []))
    core-more e q =
        ext_get_or 0 (set (core_marks P cells) (w / 4) 1) (core_marks P (cells ++ (w ∷ [])))
        (length-set (core_marks P cells) (w / 4) 1 ∙ core-length cells ∙ sym (core-length (cells ++ (w ∷ []))))
        (λ p l.
        let h : p < P = omega (arith, core-length cells, length-set (core_marks P cells) (w / 4) 1) in
        elim (ℕ_discrete p (w / 4)) [
          | yes j ↦ here p h j
          | no j ↦ there p h j
        ])
      where
        kind : (p : ℕ) → reduces_by p w ≡ eqb (w / 4) p
        kind p = ap (λ (t : Bool). t && eqb (w / 4) p) (eq-eqb (w % 4) 2 e)

        here : (p : ℕ) → p < P → p ≡ w / 4 → get_or (set (core_marks P cells) (w / 4) 1) p 0 ≡ get_or (core_marks P (cells ++ (w ∷ []))) p 0
        here p h j =
            ap (λ (k : ℕ). get_or (set (core_marks P cells) (w / 4) 1) k 0) j
            ∙ get_or-set_same (core_marks P cells) (w / 4) 1 0 (omega (arith, core-length cells))
            ∙ ap one (sym (or_right (any (reduces_by p) cells) (reduces_by p w) (kind p ∙ eq-eqb (w / 4) p (sym j))))
            ∙ sym (more p h)

        there : (p : ℕ) → p < P → (p ≡ w / 4 → ⊥) → get_or (set (core_marks P cells) (w / 4) 1) p 0 ≡ get_or (core_marks P (cells ++ (w ∷ []))) p 0
        there p h j =
            get_or-set_other (core_marks P cells) (w / 4) p 1 0 j
            ∙ core_at cells p h
            ∙ ap one (sym (or-false (any (reduces_by p) cells)) ∙ ap (λ (t : Bool). any (reduces_by p) cells || t) (sym (kind p ∙ ne_eqb (w / 4) p (λ q. j (sym q)))))
            ∙ sym (more p h)

  -- the marks of the first i cells
  module _ (cells : List ℕ) (i : ℕ) (l : i < length cells) where
    last : core_marks P (take i cells ++ (get_or cells i 0 ∷ [])) ≡ core_marks P (take (i + 1) cells)
    last = ap (λ (t : List ℕ). core_marks P t) (sym (take-suc cells i 0 l)) ∙ ap (λ (n : ℕ). core_marks P (take n cells)) (sym (add-one i))

    pub core-skip : (get_or cells i 0 % 4 ≡ 2 → ⊥) → core_marks P (take i cells) ≡ core_marks P (take (i + 1) cells)
    core-skip d = core-still (take i cells) (get_or cells i 0) d ∙ last

    pub core-next : get_or cells i 0 % 4 ≡ 2 → get_or cells i 0 / 4 < P → set (core_marks P (take i cells)) (get_or cells i 0 / 4) 1 ≡ core_marks P (take (i + 1) cells)
    core-next e q = core-more (take i cells) (get_or cells i 0) e q ∙ last

-- what is reduced is a production
pub reduce-in : (b cells : List ℕ) → AllIn b cells → (t : ℕ) → t < length cells → get_or cells t 0 % 4 ≡ 2 → get_or cells t 0 / 4 < prods b
reduce-in b cells A t l e = subst (λ a. ActionIn b a) (sym (decode-at (get_or cells t 0) 2 e)) (A t l)

-- ---- reduce_states
module _ (P : ℕ) (cells cores : List ℕ) (e : cores ≡ core_marks P cells) (n : ℕ) (h : n ≡ sum cores) where
  pub only_is : (r : Bool) → r ≡ (eqb n 1 && not (list_any moves_on cells)) → bool_byte r ≡ reduce_only P cells
  unfolding reduce_only
  only_is r k =
      byte r
      ∙ ap one k
      ∙ ap₂ (λ m t. one (eqb m 1 && not t)) (h ∙ ap sum e ∙ sum-is (core_marks P cells) 0) (sym (any-is moves_on cells))
    where
      byte : (r : Bool) → bool_byte r ≡ one r
      byte true = refl
      byte false = refl
