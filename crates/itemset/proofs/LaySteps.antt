-- Rows laid out from marks and contexts of the productions and the kernel's rows, by two cursors: one step at a time. Assumes nothing.
use mathlib.Core.Bool.{Bool, true, false, ◌&&◌}
use mathlib.Core.List.{List, [], ◌∷◌, ◌++◌}
use mathlib.Core.Path.{◌≡◌, refl, sym, ap, ap₂, ◌∙◌, subst}
use Prim.Native.Nat.{ℕ, zero, suc, ◌+◌, ◌-◌, ◌*◌, ◌≤◌, ◌<◌}
use native.Mathlib.Decide.{dec_lt}
use native.Mathlib.Omega.{arith}
use lib.Dec.{ltb}
use lib.ListN.{length, get_or, drop, drop_of_length-le}
use lib.Seq.{drop-cons}
use borrow.Author.Tests.{lt-ltb, le-ltb}
use Rattle.block.specs.Limits.{DOTS}
use Rattle.block.specs.Block.{prods}
use Rattle.itemset.specs.Rows.{Row, row}
use Rattle.itemset.specs.Lay.{zero_row, kept_row, first, lay, lay_from, lay_of}
use Rattle.itemset.proofs.Words.{item_of, no_row}

-- dot 0 of production p stands before the rows, as a fact
abbrev pub Before : ℕ → List Row → Type 0
Before p [] = Unit {0}
Before p (row i s ∷ rs) = DOTS * p < i

before-first : (p : ℕ) (rs : List Row) → Before p rs → first p rs ≡ true
unfolding first
before-first p [] h = refl
before-first p (row i s ∷ rs) h = lt-ltb (DOTS * p) i h

not_first : (p : ℕ) (r : Row) (rs : List Row) → item_of r ≤ DOTS * p → first p (r ∷ rs) ≡ false
unfolding first
not_first p (row i s) rs h = le-ltb (DOTS * p) i h

before_at : (p : ℕ) (r : Row) (rs : List Row) → DOTS * p < item_of r → Before p (r ∷ rs)
before_at p (row i s) rs h = h

pub lay-start : (b : List ℕ) (here : ℕ → Bool) (ctx : ℕ → List ℕ) (K : List Row) → lay_of b here ctx K ≡ lay_from here ctx (prods b) 0 K
unfolding lay_of
lay-start b here ctx K = refl

module _ (here : ℕ → Bool) (ctx : ℕ → List ℕ) (N : ℕ) where
  zero-step : (n p : ℕ) (rs : List Row) → (ltb p N && first p rs) ≡ true
      → lay here ctx N (suc n) p rs ≡ zero_row here ctx p ++ lay here ctx N n (suc p) rs
  unfolding lay
  zero-step n p rs e =
      ap {B = List Row}
      (λ c.
      elim c [
        | true ↦ zero_row here ctx p ++ lay here ctx N n (suc p) rs
        | false ↦ elim rs [ [] ↦ [] | r ∷ ss ↦ kept_row r ++ lay here ctx N n p ss ]
      ])
      e

  row_step : (n p : ℕ) (r : Row) (rs : List Row) → (ltb p N && first p (r ∷ rs)) ≡ false
      → lay here ctx N (suc n) p (r ∷ rs) ≡ kept_row r ++ lay here ctx N n p rs
  unfolding lay
  row_step n p r rs e =
      ap {B = List Row} (λ c. elim c [ true ↦ zero_row here ctx p ++ lay here ctx N n (suc p) (r ∷ rs) | false ↦ kept_row r ++ lay here ctx N n p rs ]) e

  -- ---- one step
  pub lay-zero : (p : ℕ) (rs : List Row) → p < N → Before p rs → lay_from here ctx N p rs ≡ zero_row here ctx p ++ lay_from here ctx N (suc p) rs
  unfolding lay_from
  lay-zero p rs l h =
      ap (λ n. lay here ctx N n p rs) (let z : N - p + length rs ≡ suc (N - suc p + length rs) = omega arith in z)
      ∙ zero-step (N - suc p + length rs) p rs (ap₂ ◌&&◌ (lt-ltb p N l) (before-first p rs h))

  pub lay-row : (p : ℕ) (r : Row) (rs : List Row) → (p < N → item_of r ≤ DOTS * p)
      → lay_from here ctx N p (r ∷ rs) ≡ kept_row r ++ lay_from here ctx N p rs
  unfolding lay_from
  lay-row p r rs h =
      ap (λ n. lay here ctx N n p (r ∷ rs)) (let z : N - p + suc (length rs) ≡ suc (N - p + length rs) = omega arith in z)
      ∙ row_step (N - p + length rs) p r rs (go (dec_lt p N))
    where
      go : Dec (p < N) → (ltb p N && first p (r ∷ rs)) ≡ false
      go (yes l) = ap₂ ◌&&◌ (lt-ltb p N l) (not_first p r rs (h l))
      go (no l) = ap (λ c. c && first p (r ∷ rs)) (le-ltb p N (omega arith))

  pub lay-end : (p : ℕ) → N ≤ p → lay_from here ctx N p [] ≡ []
  unfolding lay_from lay
  lay-end p l = ap (λ n. lay here ctx N n p []) (let z : N - p + 0 ≡ 0 = omega arith in z)

  -- ---- the same by the number of the kernel's row
  module _ (K : List Row) (p k : ℕ) where
    pub lay-zero-at : p < N → (k < length K → DOTS * p < item_of (get_or K k no_row))
        → lay_from here ctx N p (drop k K) ≡ zero_row here ctx p ++ lay_from here ctx N (suc p) (drop k K)
    lay-zero-at l h = lay-zero p (drop k K) l (go (dec_lt k (length K)))
      where
        go : Dec (k < length K) → Before p (drop k K)
        go (yes m) = subst (Before p) (sym (drop-cons K k no_row m)) (before_at p (get_or K k no_row) (drop (suc k) K) (h m))
        go (no m) = subst (Before p) (sym (drop_of_length-le K (let z : length K ≤ k = omega arith in z))) tt

    pub lay-row-at : k < length K → (p < N → item_of (get_or K k no_row) ≤ DOTS * p)
        → lay_from here ctx N p (drop k K) ≡ kept_row (get_or K k no_row) ++ lay_from here ctx N p (drop (suc k) K)
    lay-row-at m h = ap (lay_from here ctx N p) (drop-cons K k no_row m) ∙ lay-row p (get_or K k no_row) (drop (suc k) K) h

    pub lay-end-at : N ≤ p → length K ≤ k → lay_from here ctx N p (drop k K) ≡ []
    lay-end-at l m = ap (lay_from here ctx N p) (drop_of_length-le K m) ∙ lay-end p l

  -- ---- cases for a property of the laid rows
  module _ (P : ℕ → List Row → List Row → Type 0) (nil : (p : ℕ) → N ≤ p → P p [] [])
      (zer : (p : ℕ) (rs out : List Row) → p < N → Before p rs → P (suc p) rs out → P p rs (zero_row here ctx p ++ out))
      (kept : (p i : ℕ) (s : List ℕ) (rs out : List Row) → (p < N → i ≤ DOTS * p) → P p rs out → P p (row i s ∷ rs) (kept_row (row i s) ++ out)) where
    by-fuel : (n p : ℕ) (rs : List Row) → N - p + length rs ≡ n → P p rs (lay_from here ctx N p rs)
    by-fuel zero p [] e = subst (λ r. P p [] r) (sym (lay-end p (omega arith))) (nil p (omega arith))
    by-fuel zero p (row i s ∷ rs) e = absurd (omega arith)
    by-fuel (suc n) p [] e =
        subst (λ r. P p [] r) (sym (lay-zero p [] (omega arith) tt))
        (zer p [] (lay_from here ctx N (suc p) []) (omega arith) tt (by-fuel n (suc p) [] (omega arith)))
    by-fuel (suc n) p (row i s ∷ rs) e = go (dec_lt p N) (dec_lt (DOTS * p) i) (λ q us f. by-fuel n q us f)
      where
        take_row : (p < N → i ≤ DOTS * p) → ((q : ℕ) (us : List Row) → N - q + length us ≡ n → P q us (lay_from here ctx N q us))
            → P p (row i s ∷ rs) (lay_from here ctx N p (row i s ∷ rs))
        take_row h r =
            subst (λ u. P p (row i s ∷ rs) u) (sym (lay-row p (row i s) rs h)) (kept p i s rs (lay_from here ctx N p rs) h (r p rs (omega arith)))

        go : Dec (p < N) → Dec (DOTS * p < i) → ((q : ℕ) (us : List Row) → N - q + length us ≡ n → P q us (lay_from here ctx N q us))
            → P p (row i s ∷ rs) (lay_from here ctx N p (row i s ∷ rs))
        go (yes l) (yes m) r =
            subst (λ u. P p (row i s ∷ rs) u) (sym (lay-zero p (row i s ∷ rs) l m))
            (zer p (row i s ∷ rs) (lay_from here ctx N (suc p) (row i s ∷ rs)) l m (r (suc p) (row i s ∷ rs) (omega arith)))
        go (yes l) (no m) r = take_row (λ z. omega arith) r
        go (no l) m r = take_row (λ z. absurd (l z)) r

    pub lay-ind : (p : ℕ) (rs : List Row) → P p rs (lay_from here ctx N p rs)
    lay-ind p rs = by-fuel (N - p + length rs) p rs refl
