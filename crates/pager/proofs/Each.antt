-- Lists of words laid one behind the other. Assumes nothing.
use mathlib.Core.List.{List, [], ◌∷◌, ◌++◌, append_assoc, append-nil}
use mathlib.Core.Path.{◌≡◌, refl, sym, ap, ap₂, ◌∙◌}
use Prim.Native.Nat.{ℕ, zero, suc, ◌+◌, ◌*◌, ◌<◌}
use native.Mathlib.Nat.{suc-mul}
use native.Mathlib.Omega.{arith}
use lib.ListN.{length, get_or, take, drop, set, length-append, get_or-append}
use lib.Seq.{set-append_left, get_or-append-add, get_or-take, length-take-le}
use Rattle.block.specs.Lists.{change}
use Rattle.pager.specs.Lists.{each}

set-append-add : (xs ys : List ℕ) (i v : ℕ) → set (xs ++ ys) (length xs + i) v ≡ xs ++ set ys i v
set-append-add [] ys i v = ap (λ (j : ℕ). set ys j v) (zero-plus i)
  where
    zero-plus : (i : ℕ) → 0 + i ≡ i
    zero-plus i = omega arith
set-append-add (x ∷ xs) ys i v = ap (λ (j : ℕ). set (x ∷ (xs ++ ys)) j v) (suc-plus (length xs) i) ∙ ap {B = List ℕ} (λ t. x ∷ t) (set-append-add xs ys i v)
  where
    suc-plus : (n i : ℕ) → suc n + i ≡ suc (n + i)
    suc-plus n i = omega arith

-- ---- what f gives of each, one behind the other
module _ {A : Type 0} (f : A → List ℕ) where
  pub each_more : (xs : List A) (x : A) → each f (xs ++ (x ∷ [])) ≡ each f xs ++ f x
  unfolding each
  each_more [] x = append-nil (f x)
  each_more (y ∷ xs) x = ap (λ (l : List ℕ). f y ++ l) (each_more xs x) ∙ sym (append_assoc (f y) (each f xs) (f x))

  pub each-still : (g : A → A) → ((x : A) → f (g x) ≡ f x) → (n : ℕ) (xs : List A) → each f (change g n xs) ≡ each f xs
  unfolding each change
  each-still g h n [] = refl
  each-still g h zero (x ∷ xs) = ap (λ (l : List ℕ). l ++ each f xs) (h x)
  each-still g h (suc n) (x ∷ xs) = ap (λ (l : List ℕ). f x ++ l) (each-still g h n xs)

  module _ (d : A) where
    pub each_at : (xs : List A) (n : ℕ) → n < length xs → each f xs ≡ each f (take n xs) ++ (f (get_or xs n d) ++ each f (drop (suc n) xs))
    unfolding each
    each_at [] n l = absurd (omega arith)
    each_at (x ∷ xs) zero l = refl
    each_at (x ∷ xs) (suc n) l =
        ap (λ (t : List ℕ). f x ++ t) (each_at xs n (omega arith))
        ∙ sym (append_assoc (f x) (each f (take n xs)) (f (get_or xs n d) ++ each f (drop (suc n) xs)))

    pub each-change : (g : A → A) (xs : List A) (n : ℕ) → n < length xs
        → each f (change g n xs) ≡ each f (take n xs) ++ (f (g (get_or xs n d)) ++ each f (drop (suc n) xs))
    unfolding each change
    each-change g [] n l = absurd (omega arith)
    each-change g (x ∷ xs) zero l = refl
    each-change g (x ∷ xs) (suc n) l =
        ap (λ (t : List ℕ). f x ++ t) (each-change g xs n (omega arith))
        ∙ sym (append_assoc (f x) (each f (take n xs)) (f (g (get_or xs n d)) ++ each f (drop (suc n) xs)))

    -- each gives w words
    module _ (w : ℕ) where
      pub each-length : (xs : List A) → ((n : ℕ) → n < length xs → length (f (get_or xs n d)) ≡ w) → length (each f xs) ≡ length xs * w
      unfolding each
      each-length [] h = zero-times w
        where
          zero-times : (w : ℕ) → 0 ≡ 0 * w
          zero-times w = omega arith
      each-length (x ∷ xs) h =
          length-append (f x) (each f xs)
          ∙ ap₂ ◌+◌ (h 0 (omega arith)) (each-length xs (λ n l. h (suc n) (omega arith)))
          ∙ sym (suc-times (length xs) w)
        where
          suc-times : (n w : ℕ) → suc n * w ≡ w + n * w
          suc-times n w = omega (arith, suc-mul n w)

      module _ (xs : List A) (h : (n : ℕ) → n < length xs → length (f (get_or xs n d)) ≡ w) (n : ℕ) (l : n < length xs) where
        pub each-before : length (each f (take n xs)) ≡ n * w
        each-before =
            let e : length (take n xs) ≡ n = length-take-le n xs (omega arith) in
            each-length (take n xs) (λ k m. ap (λ (x : A). length (f x)) (get_or-take n xs k d (omega arith)) ∙ h k (omega arith))
            ∙ ap (λ (k : ℕ). k * w) e

        -- word i of the n-th, read and written
        pub each-get : (i : ℕ) → i < w → get_or (each f xs) (n * w + i) 0 ≡ get_or (f (get_or xs n d)) i 0
        each-get i k =
            ap₂ (λ (t : List ℕ) (j : ℕ). get_or t (j + i) 0) (each_at xs n l) (sym each-before)
            ∙ get_or-append-add (each f (take n xs)) (f (get_or xs n d) ++ each f (drop (suc n) xs)) i 0
            ∙ get_or-append (f (get_or xs n d)) (each f (drop (suc n) xs)) 0 i (omega (arith, h n l))

        pub each_set : (g : A → A) (i v : ℕ) → i < w → set (f (get_or xs n d)) i v ≡ f (g (get_or xs n d)) → set (each f xs) (n * w + i) v ≡ each f (change g n xs)
        each_set g i v k e =
            ap₂ (λ (t : List ℕ) (j : ℕ). set t (j + i) v) (each_at xs n l) (sym each-before)
            ∙ set-append-add (each f (take n xs)) (f (get_or xs n d) ++ each f (drop (suc n) xs)) i v
            ∙ ap (λ (t : List ℕ). each f (take n xs) ++ t)
            (set-append_left (f (get_or xs n d)) (each f (drop (suc n) xs)) i v (omega (arith, h n l)) ∙ ap (λ (t : List ℕ). t ++ each f (drop (suc n) xs)) e)
            ∙ sym (each-change g xs n l)
