-- A loop that writes a room anew, a row a turn. Assumes nothing.
use mathlib.Core.List.{List, ◌++◌, append_assoc, append-nil}
use mathlib.Core.Path.{◌≡◌, sym, ap, ap₂, ◌∙◌}
use Prim.Native.Nat.{ℕ, suc, ◌+◌, ◌*◌, ◌≤◌, ◌<◌}
use native.Mathlib.Nat.{suc-mul, mul-le-mul_right}
use native.Mathlib.Numerals.{add-one}
use native.Mathlib.Omega.{arith}
use lib.ListN.{length, get_or, take, drop, drop_of_length-le}
use lib.Seq.{take-suc, take_all, take_at, drop_at, drop-drop}
use Rattle.pager.specs.Lists.{each}
use Rattle.pager.proofs.Each.{each_more, each-before}

-- ---- rows of w words: those of the first s of rs by now, over what stood there
pub record RowsTo {A : Type 0} (f : A → List ℕ) (w : ℕ) (before : List ℕ) (rs : List A) (s : ℕ) (xs : List ℕ) : Type 0 where
  pub is : xs ≡ each f (take s rs) ++ drop (s * w) before

module _ {A : Type 0} (f : A → List ℕ) (w : ℕ) (d : A) (before : List ℕ) (rs : List A) where
  pub rows_start : RowsTo f w before rs 0 before
  unfolding each
  rows_start = record { is = ap (λ (n : ℕ). drop n before) (let e : 0 ≡ 0 * w = omega arith in e) }

  module _ (h : (n : ℕ) → n < length rs → length (f (get_or rs n d)) ≡ w) (size : length before ≡ length rs * w) (s : ℕ) (xs : List ℕ) (R : RowsTo f w before rs s xs) where
    module _ (l : s < length rs) where
      front : length (each f (take s rs)) ≡ s * w
      front = each-before f d w rs h s l

      pub row_room : s * w + w ≤ length before
      row_room = omega (arith, mul-le-mul_right {m = suc s} {n = length rs} w l, suc-mul s w)

      -- where the next row goes
      pub row-behind : drop (s * w) xs ≡ drop (s * w) before
      row-behind = ap (λ (t : List ℕ). drop (s * w) t) R.is ∙ drop_at (each f (take s rs)) (drop (s * w) before) (s * w) front

      pub rows_next : (from k : ℕ) → from ≡ s * w → k ≡ w → (ys : List ℕ) → ys ≡ f (get_or rs s d)
          → RowsTo f w before rs (s + 1) (take from xs ++ (ys ++ drop k (drop from xs)))
      rows_next from k p q ys e =
          record {
            is =
                ap₂ (λ (from k : ℕ). take from xs ++ (ys ++ drop k (drop from xs))) p q
                ∙ ap₂ (λ (t u : List ℕ). t ++ (ys ++ drop w u))
                (ap (λ (t : List ℕ). take (s * w) t) R.is ∙ take_at (each f (take s rs)) (drop (s * w) before) (s * w) front) row-behind
                ∙ ap₂ (λ (t u : List ℕ). each f (take s rs) ++ (t ++ u)) e (drop-drop w (s * w) before)
                ∙ sym (append_assoc (each f (take s rs)) (f (get_or rs s d)) (drop (s * w + w) before))
                ∙ ap₂ (λ (t : List ℕ) (n : ℕ). t ++ drop n before) (sym (each_more f (take s rs) (get_or rs s d))) (let g : s * w + w ≡ suc s * w = omega (arith, suc-mul s w) in g)
                ∙ ap (λ (t : List A). each f t ++ drop (suc s * w) before) (sym (take-suc rs s d l))
                ∙ ap (λ (n : ℕ). each f (take n rs) ++ drop (n * w) before) (sym (add-one s));
          }

    pub rows-done : length rs ≤ s → xs ≡ each f rs
    rows-done l =
        R.is
        ∙ ap₂ (λ (t : List A) (u : List ℕ). each f t ++ u) (take_all s rs l)
        (drop_of_length-le before {i = s * w} (omega (arith, mul-le-mul_right {m = length rs} {n = s} w l)))
        ∙ append-nil (each f rs)
