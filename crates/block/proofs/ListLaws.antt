-- Laws of tests, of members of a list, of numbers in order, of a changed element and of lists compared. Assumes nothing.
use mathlib.Core.Bool.{Bool, true, false, true≢false, ◌&&◌, ◌||◌}
use mathlib.Core.List.{List, [], ◌∷◌, foldl}
use mathlib.Core.Logic.{◌⊎◌, inl, inr}
use mathlib.Core.Path.{◌≡◌, refl, sym, ap, ap₂, ◌∙◌}
use Prim.Native.Nat.{ℕ, zero, suc, ◌+◌, ◌-◌, ◌≤◌, ◌<◌}
use native.Mathlib.Decide.{ℕ_discrete}
use native.Mathlib.Numerals.{add-one}
use native.Mathlib.Omega.{arith}
use lib.ListN.{get_or, length, replicate}
use Rattle.block.specs.Lists.{any, change, same, from, upto}

-- ---- tests
pub and_both : (a c : Bool) → (a && c) ≡ true → (a ≡ true) × (c ≡ true)
and_both true c e = (refl, e)
and_both false c e = absurd (true≢false (sym e))

pub or_cases : (a c : Bool) → (a || c) ≡ true → (a ≡ true) ⊎ (c ≡ true)
or_cases true c e = inl refl
or_cases false c e = inr e

pub or_left : (a c : Bool) → a ≡ true → (a || c) ≡ true
or_left true c e = refl
or_left false c e = absurd (true≢false (sym e))

pub or_right : (a c : Bool) → c ≡ true → (a || c) ≡ true
or_right true c e = refl
or_right false c e = e

-- what `||` and `&&` left behind, by the way that was taken
pub or-then : (w m v : Bool) → w ≡ true → v ≡ w → v ≡ (w || m)
or-then true m v e f = f
or-then false m v e f = absurd (true≢false (sym e))

pub or_else : (w m v : Bool) → w ≡ false → v ≡ m → v ≡ (w || m)
or_else true m v e f = absurd (true≢false e)
or_else false m v e f = f

pub and_then : (m n f : Bool) → m ≡ true → f ≡ n → f ≡ (m && n)
and_then true n f e g = g
and_then false n f e g = absurd (true≢false (sym e))

pub and-else : (m n f : Bool) → m ≡ false → f ≡ m → f ≡ (m && n)
and-else true n f e g = absurd (true≢false e)
and-else false n f e g = g

-- ---- members of a list of numbers
abbrev pub Among : ℕ → List ℕ → Type 0
Among q [] = ⊥
Among q (x ∷ xs) = (q ≡ x) ⊎ Among q xs

from-among : (n k q : ℕ) → k ≤ q → q < k + n → Among q (from k n)
unfolding from
from-among zero k q l h = absurd (omega arith)
from-among (suc n) k q l h = elim (ℕ_discrete q k) [ yes e ↦ inl e | no d ↦ inr (from-among n (suc k) q (omega arith) (omega arith)) ]

from-only : (n k q : ℕ) → Among q (from k n) → q < k + n
unfolding from
from-only zero k q m = absurd m
from-only (suc n) k q (inl e) = omega arith
from-only (suc n) k q (inr m) = let h : q < suc k + n = from-only n (suc k) q m in omega arith

pub upto-among : (n q : ℕ) → q < n → Among q (upto n)
unfolding upto
upto-among n q l = from-among n 0 q (omega arith) (omega arith)

pub upto-only : (n q : ℕ) → Among q (upto n) → q < n
unfolding upto
upto-only n q m = let h : q < 0 + n = from-only n 0 q m in omega arith

-- ---- folds
module _ {A : Type 0} (f : A → ℕ → A) where
  fold-from : (n k : ℕ) (a : A) → foldl f a (from k (suc n)) ≡ f (foldl f a (from k n)) (k + n)
  unfolding from
  fold-from zero k a = ap (λ (m : ℕ). f a m) (let z : k ≡ k + 0 = omega arith in z)
  fold-from (suc n) k a = fold-from n (suc k) (f a k) ∙ ap (λ (m : ℕ). f (foldl f (f a k) (from (suc k) n)) m) (let z : suc k + n ≡ k + suc n = omega arith in z)

  -- the last number comes last
  pub fold-upto : (n : ℕ) (a : A) → foldl f a (upto (suc n)) ≡ f (foldl f a (upto n)) n
  unfolding upto
  fold-upto n a = fold-from n 0 a ∙ ap (λ (m : ℕ). f (foldl f a (from 0 n)) m) (let z : 0 + n ≡ n = omega arith in z)

module _ {A B : Type 0} (f : A → B → A) (P : A → Type 0) (keep : (a : A) (x : B) → P a → P (f a x)) where
  pub foldl-keeps : (xs : List B) (a : A) → P a → P (foldl f a xs)
  foldl-keeps [] a h = h
  foldl-keeps (x ∷ xs) a h = foldl-keeps xs (f a x) (keep a x h)

-- ---- the n-th element changed
module _ {A : Type 0} (f : A → A) (d : A) where
  -- what holds of each element, and of the n-th changed
  pub change-cases : (P : ℕ → A → Type 0) (n : ℕ) (F : List A) → ((r : ℕ) → P r (get_or F r d)) → ((x : A) → P n x → P n (f x))
      → (r : ℕ) → P r (get_or (change f n F) r d)
  unfolding change
  change-cases P n [] h k r = h r
  change-cases P zero (x ∷ F) h k zero = k x (h zero)
  change-cases P zero (x ∷ F) h k (suc r) = h (suc r)
  change-cases P (suc n) (x ∷ F) h k zero = h zero
  change-cases P (suc n) (x ∷ F) h k (suc r) = change-cases (λ r. P (suc r)) n F (λ r. h (suc r)) k r

  pub change-at : (n : ℕ) (F : List A) → n < length F → get_or (change f n F) n d ≡ f (get_or F n d)
  unfolding change
  change-at n [] l = absurd (omega arith)
  change-at zero (x ∷ F) l = refl
  change-at (suc n) (x ∷ F) l = change-at n F (omega arith)

  pub change-other : (n : ℕ) (F : List A) (r : ℕ) → (r ≡ n → ⊥) → get_or (change f n F) r d ≡ get_or F r d
  unfolding change
  change-other n [] r h = refl
  change-other zero (x ∷ F) zero h = absurd (h refl)
  change-other zero (x ∷ F) (suc r) h = refl
  change-other (suc n) (x ∷ F) zero h = refl
  change-other (suc n) (x ∷ F) (suc r) h = change-other n F r (λ e. h (ap suc e))

pub change-size : {A : Type 0} (f : A → A) (n : ℕ) (F : List A) → length (change f n F) ≡ length F
unfolding change
change-size f n [] = refl
change-size f zero (x ∷ F) = refl
change-size f (suc n) (x ∷ F) = ap suc (change-size f n F)

-- ---- lists compared
module _ {A : Type 0} (f : A → A → Bool) where
  pub same-is : ((x y : A) → f x y ≡ true → x ≡ y) → (F G : List A) → same f F G ≡ true → F ≡ G
  unfolding same
  same-is h [] [] e = refl
  same-is h [] (y ∷ G) e = absurd (true≢false (sym e))
  same-is h (x ∷ F) [] e = absurd (true≢false (sym e))
  same-is h (x ∷ F) (y ∷ G) e =
      let k = and_both (f x y) (same f F G) e in
      ap₂ {C = List A} (λ z zs. z ∷ zs) (h x y k.0) (same-is h F G k.1)

  pub same_refl : ((x : A) → f x x ≡ true) → (F : List A) → same f F F ≡ true
  unfolding same
  same_refl h [] = refl
  same_refl h (x ∷ F) = ap₂ ◌&&◌ (h x) (same_refl h F)

pub get_d-same : {A : Type 0} (n r : ℕ) (d : A) → get_or (replicate n d) r d ≡ d
get_d-same zero r d = refl
get_d-same (suc n) zero d = refl
get_d-same (suc n) (suc r) d = get_d-same n r d

-- ---- whether a test holds of some number below n, number by number
module _ (f : ℕ → Bool) (n : ℕ) where
  -- of one from k on
  unfoldable pub any_left : ℕ → Bool
  any_left k = any f (from k (n - k))

  pub left-all : any_left 0 ≡ any f (upto n)
  unfolding any_left upto
  left-all = ap (λ (m : ℕ). any f (from 0 m)) (let z : n - 0 ≡ n = omega arith in z)

  step : (k : ℕ) → k < n → any_left k ≡ (f k || any_left (k + 1))
  unfolding any_left any from
  step k l =
      ap (λ (m : ℕ). any f (from k m)) (let z : n - k ≡ suc (n - (k + 1)) = omega arith in z)
      ∙ ap (λ (m : ℕ). f k || any f (from m (n - (k + 1)))) (sym (add-one k))

  module _ (k : ℕ) (a : Bool) (left : any_left k ≡ a) where
    pub left-stops : k < n → f k ≡ true → a ≡ true
    left-stops l e = sym left ∙ step k l ∙ ap (λ (t : Bool). t || any_left (k + 1)) e

    pub left-on : k < n → f k ≡ false → any_left (k + 1) ≡ a
    left-on l e = sym (ap (λ (t : Bool). t || any_left (k + 1)) e) ∙ sym (step k l) ∙ left

    pub left-over : n ≤ k → a ≡ false
    unfolding any_left any from
    left-over l = sym left ∙ ap (λ (m : ℕ). any f (from k m)) (let z : n - k ≡ 0 = omega arith in z)
