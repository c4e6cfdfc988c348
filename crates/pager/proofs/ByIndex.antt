-- Tests of lists, told place by place. Assumes nothing.
use mathlib.Core.Bool.{Bool, true, false, ◌&&◌, and-false}
use mathlib.Core.List.{List, [], ◌∷◌}
use mathlib.Core.Option.{Option, none, some}
use mathlib.Core.Path.{◌≡◌, refl, sym, ap, ap₂, ◌∙◌, subst}
use Prim.Native.Nat.{ℕ, zero, suc, ◌+◌, ◌≤◌, ◌<◌}
use native.Mathlib.Omega.{arith}
use lib.ListN.{length, get_or}
use Rattle.block.specs.Lists.{same}
use Rattle.pager.specs.Lists.{all, pairwise, find}
use Rattle.std.specs.Prelude as std
use Rattle.std.specs.Prelude.{Some, None}
use Rattle.pager.specs.Held.{found_or, as_option}
use Rattle.pager.proofs.Walks.{Found, found, found-zero}

-- ---- all
module _ {A : Type 0} (f : A → Bool) (d : A) where
  pub all_yes : (xs : List A) → ((j : ℕ) → j < length xs → f (get_or xs j d) ≡ true) → all f xs ≡ true
  unfolding all
  all_yes [] h = refl
  all_yes (x ∷ xs) h = ap₂ ◌&&◌ (h 0 (omega arith)) (all_yes xs (λ j l. h (suc j) (omega arith)))

  pub all-no : (xs : List A) (j : ℕ) → j < length xs → f (get_or xs j d) ≡ false → all f xs ≡ false
  unfolding all
  all-no [] j l e = absurd (omega arith)
  all-no (x ∷ xs) zero l e = ap (λ (t : Bool). t && all f xs) e
  all-no (x ∷ xs) (suc j) l e = ap (λ (t : Bool). f x && t) (all-no xs j (omega arith) e) ∙ and-false (f x)

-- ---- every two places, and two lists place by place
module _ {A : Type 0} (f : A → A → Bool) (d : A) where
  pub pairwise-yes : (xs : List A) → ((i j : ℕ) → i < j → j < length xs → f (get_or xs i d) (get_or xs j d) ≡ true) → pairwise f xs ≡ true
  unfolding pairwise
  pairwise-yes [] h = refl
  pairwise-yes (x ∷ xs) h =
      ap₂ ◌&&◌ (all_yes (f x) d xs (λ j l. h 0 (suc j) (omega arith) (omega arith))) (pairwise-yes xs (λ i j l k. h (suc i) (suc j) (omega arith) (omega arith)))

  pub pairwise-no : (xs : List A) (i j : ℕ) → i < j → j < length xs → f (get_or xs i d) (get_or xs j d) ≡ false → pairwise f xs ≡ false
  unfolding pairwise
  pairwise-no [] i j l k e = absurd (omega arith)
  pairwise-no (x ∷ xs) i zero l k e = absurd (omega arith)
  pairwise-no (x ∷ xs) zero (suc j) l k e = ap (λ (t : Bool). t && pairwise f xs) (all-no (f x) d xs j (omega arith) e)
  pairwise-no (x ∷ xs) (suc i) (suc j) l k e =
      ap (λ (t : Bool). all (f x) xs && t) (pairwise-no xs i j (omega arith) (omega arith) e) ∙ and-false (all (f x) xs)

  pub same-yes : (xs ys : List A) → length xs ≡ length ys → ((i : ℕ) → i < length xs → f (get_or xs i d) (get_or ys i d) ≡ true) → same f xs ys ≡ true
  unfolding same
  same-yes [] [] e h = refl
  same-yes [] (y ∷ ys) e h = absurd (omega arith)
  same-yes (x ∷ xs) [] e h = absurd (omega arith)
  same-yes (x ∷ xs) (y ∷ ys) e h = ap₂ ◌&&◌ (h 0 (omega arith)) (same-yes xs ys (omega arith) (λ i l. h (suc i) (omega arith)))

  pub same-no : (xs ys : List A) (i : ℕ) → i < length xs → i < length ys → f (get_or xs i d) (get_or ys i d) ≡ false → same f xs ys ≡ false
  unfolding same
  same-no [] ys i l k e = absurd (omega arith)
  same-no (x ∷ xs) [] i l k e = absurd (omega arith)
  same-no (x ∷ xs) (y ∷ ys) zero l k e = ap (λ (t : Bool). t && same f xs ys) e
  same-no (x ∷ xs) (y ∷ ys) (suc i) l k e = ap (λ (t : Bool). f x y && t) (same-no xs ys i (omega arith) (omega arith) e) ∙ and-false (f x y)

  pub same_size : (xs ys : List A) → (length xs ≡ length ys → ⊥) → same f xs ys ≡ false
  unfolding same
  same_size [] [] h = absurd (h refl)
  same_size [] (y ∷ ys) h = refl
  same_size (x ∷ xs) [] h = refl
  same_size (x ∷ xs) (y ∷ ys) h = ap (λ (t : Bool). f x y && t) (same_size xs ys (λ e. h (ap suc e))) ∙ and-false (f x y)

-- ---- what a search gives, as the code answers it
pub some-is : (k : ℕ) (o : Option ℕ) → Some k ≡ as_option o → o ≡ some k
some-is k (some n) e = cc
some-is k none e = absurd (let z : ◌≡◌ {A = ℕ} 0 1 = cc in omega arith)

pub none-is : (o : Option ℕ) → None ≡ as_option o → o ≡ none
none-is (some n) e = absurd (let z : ◌≡◌ {A = ℕ} 0 1 = cc in omega arith)
none-is none e = refl

-- what is no place is none
pub none-left : {a : std.Option ℕ} (r : std.Option ℕ) → r ≡ a → ((k : ℕ) → r ≡ Some k → ⊥) → None ≡ a
none-left (Some k) e d = absurd (d k refl)
none-left None e d = e

-- ---- a search: the first place where f holds
module _ {A : Type 0} (f : A → Bool) (d : A) where
  find_first : (n : ℕ) (xs : List A) (k : ℕ) → k < length xs → f (get_or xs k d) ≡ true → ((j : ℕ) → j < k → f (get_or xs j d) ≡ false)
      → find f n xs ≡ some (n + k)
  unfolding find
  find_first n [] k l e h = absurd (omega arith)
  find_first n (x ∷ xs) zero l e h =
      ap (λ (t : Bool). elim t [ true ↦ some n | false ↦ find f (suc n) xs ]) e ∙ ap {B = Option ℕ} some (plus-zero n)
    where
      plus-zero : (n : ℕ) → n ≡ n + 0
      plus-zero n = omega arith
  find_first n (x ∷ xs) (suc k) l e h =
      ap (λ (t : Bool). elim t [ true ↦ some n | false ↦ find f (suc n) xs ]) (h 0 (omega arith))
      ∙ find_first (suc n) xs k (omega arith) e (λ j m. h (suc j) (omega arith))
      ∙ ap {B = Option ℕ} some (plus_suc n k)
    where
      plus_suc : (n k : ℕ) → suc n + k ≡ n + suc k
      plus_suc n k = omega arith

  find_none : (n : ℕ) (xs : List A) → ((j : ℕ) → j < length xs → f (get_or xs j d) ≡ false) → find f n xs ≡ none
  unfolding find
  find_none n [] h = refl
  find_none n (x ∷ xs) h =
      ap (λ (t : Bool). elim t [ true ↦ some n | false ↦ find f (suc n) xs ]) (h 0 (omega arith)) ∙ find_none (suc n) xs (λ j l. h (suc j) (omega arith))

  -- what a loop has found, or has not
  pub some-here : (xs : List A) (k : ℕ) → k < length xs → f (get_or xs k d) ≡ true → ((j : ℕ) → j < k → f (get_or xs j d) ≡ false)
      → Some k ≡ as_option (find f 0 xs)
  some-here xs k l e h = ap as_option (sym (find_first 0 xs k l e h ∙ ap {B = Option ℕ} some (zero-plus k)))
    where
      zero-plus : (n : ℕ) → 0 + n ≡ n
      zero-plus n = omega arith

  pub none-here : (xs : List A) (k : ℕ) → length xs ≤ k → ((j : ℕ) → j < k → f (get_or xs j d) ≡ false) → None ≡ as_option (find f 0 xs)
  none-here xs k e h = ap as_option (sym (find_none 0 xs (λ j l. h j (omega arith))))

  -- the place found is one where f holds
  pub some-at : (xs : List A) (k : ℕ) → Some k ≡ as_option (find f 0 xs) → (k < length xs) × (f (get_or xs k d) ≡ true)
  some-at xs k e = found-zero f d xs k (subst (λ o. Found f d 0 xs o) (some-is k (find f 0 xs) e) (found f d 0 xs))

  pub find-here : (xs : List A) (k : ℕ) → k < length xs → f (get_or xs k d) ≡ true → ((j : ℕ) → j < k → f (get_or xs j d) ≡ false)
      → k ≡ found_or (length xs) (find f 0 xs)
  find-here xs k l e h = sym (ap (found_or (length xs)) (find_first 0 xs k l e h) ∙ zero-plus k)
    where
      zero-plus : (n : ℕ) → 0 + n ≡ n
      zero-plus n = omega arith

  pub find-nowhere : (xs : List A) (k : ℕ) → k ≡ length xs → ((j : ℕ) → j < k → f (get_or xs j d) ≡ false) → k ≡ found_or (length xs) (find f 0 xs)
  find-nowhere xs k e h = e ∙ sym (ap (found_or (length xs)) (find_none 0 xs (λ j l. h j (omega arith))))

  -- what the number found tells of the search
  pub found_below : (xs : List A) (k : ℕ) → k ≡ found_or (length xs) (find f 0 xs) → k < length xs → (find f 0 xs ≡ some k) × (f (get_or xs k d) ≡ true)
  found_below xs k e l = go (find f 0 xs) refl (found f d 0 xs) e
    where
      go : (o : Option ℕ) → find f 0 xs ≡ o → Found f d 0 xs o → k ≡ found_or (length xs) o → (find f 0 xs ≡ some k) × (f (get_or xs k d) ≡ true)
      go none q w z = absurd (omega arith)
      go (some i) q w z =
          let t = found-zero f d xs i w in
          (q ∙ ap {B = Option ℕ} some (sym z), ap (λ (n : ℕ). f (get_or xs n d)) z ∙ t.1)

  pub found_nowhere : (xs : List A) (k : ℕ) → k ≡ found_or (length xs) (find f 0 xs) → length xs ≤ k → find f 0 xs ≡ none
  found_nowhere xs k e l = go (find f 0 xs) refl (found f d 0 xs) e
    where
      go : (o : Option ℕ) → find f 0 xs ≡ o → Found f d 0 xs o → k ≡ found_or (length xs) o → find f 0 xs ≡ none
      go none q w z = q
      go (some i) q w z = let t = (found-zero f d xs i w).0 in absurd (omega arith)
