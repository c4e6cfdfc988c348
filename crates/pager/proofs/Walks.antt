-- Folds that stop, searches, and what the steps of the graph keep. Assumes nothing.
use mathlib.Core.Bool.{Bool, true, false}
use mathlib.Core.List.{List, [], ◌∷◌, map, Memᴰ}
use mathlib.Core.Option.{Option, none, some}
use mathlib.Core.Path.{◌≡◌, refl, subst}
use Prim.Native.Nat.{ℕ, zero, suc, ◌+◌, ◌<◌}
use native.Mathlib.Omega.{arith}
use lib.ListN.{length, get_or}
use Rattle.pager.specs.Lists.{find, Answer, is, refused, walk}
use Rattle.pager.specs.Given.{Given}

-- ---- an answer
pub given-map {ℓ κ} : {A : Type 0} (P : A → Type ℓ) (Q : A → Type κ) → ((a : A) → P a → Q a) → (x : Answer A) → Given x P → Given x Q
given-map P Q f (is a) h = f a h
given-map P Q f (refused e) h = tt

pub given_is {ℓ} : {A : Type 0} (P : A → Type ℓ) (x : Answer A) (a : A) → x ≡ is a → Given x P → P a
given_is P (is c) a e h = subst P (let z : c ≡ a = cc in z) h
given_is P (refused n) a e h = absurd (let z : ◌≡◌ {A = ℕ} 0 1 = cc in omega arith)

pub given_both {ℓ κ} : {A : Type 0} (P : A → Type ℓ) (Q : A → Type κ) (x : Answer A) → Given x P → Given x Q → Given x (λ a. P a × Q a)
given_both P Q (is a) h k = (h, k)
given_both P Q (refused e) h k = tt

-- an answer taken on
pub given-on {ℓ κ} : {A B : Type 0} (P : A → Type ℓ) (Q : B → Type κ) (f : A → Answer B) (x : Answer A) → Given x P → ((a : A) → P a → Given (f a) Q)
    → Given (elim x [ is a ↦ f a | refused e ↦ refused e ]) Q
given-on P Q f (is a) h k = k a h
given-on P Q f (refused e) h k = tt

-- ---- a fold that stops, over numbers each with what it gives: P of the numbers that are left
pub walk-keeps {ℓ} : {A B : Type 0} (f : A → B → Answer A) (g : ℕ → B) (P : List ℕ → A → Type ℓ) (ys : List ℕ)
    → ((x : ℕ) (xs : List ℕ) (a : A) → Memᴰ x ys → P (x ∷ xs) a → Given (f a (g x)) (P xs))
    → (xs : List ℕ) → ((x : ℕ) → Memᴰ x xs → Memᴰ x ys) → (a : A) → P xs a → Given (walk f a (map g xs)) (P [])
unfolding walk
walk-keeps f g P ys step [] inside a h = h
walk-keeps f g P ys step (x ∷ xs) inside a h =
    given-on (P xs) (P []) (λ c. walk f c (map g xs)) (f a (g x)) (step x xs a (inside x (Memᴰ.head refl)) h)
    (λ c k. walk-keeps f g P ys step xs (λ y m. inside y (Memᴰ.tail m)) c k)

-- ---- a search from number n on: the first found is j places behind, or there is none
module _ {A : Type 0} (f : A → Bool) (d : A) where
  abbrev pub Found : ℕ → List A → Option ℕ → Type 0
  Found n xs (some k) = (j : ℕ) × (k ≡ n + j) × (j < length xs) × (f (get_or xs j d) ≡ true)
  Found n xs none = (j : ℕ) → j < length xs → f (get_or xs j d) ≡ false

  pub found : (n : ℕ) (xs : List A) → Found n xs (find f n xs)
  unfolding find
  found n [] = λ j l. absurd (omega arith)
  found n (x ∷ xs) = go (found (suc n) xs) (f x) refl
    where
      past : ((j : ℕ) → j < length xs → f (get_or xs j d) ≡ false) → f x ≡ false → (j : ℕ) → j < suc (length xs) → f (get_or (x ∷ xs) j d) ≡ false
      past h q zero l = q
      past h q (suc j) l = h j (omega arith)

      later : (o : Option ℕ) → f x ≡ false → Found (suc n) xs o → Found n (x ∷ xs) o
      later (some k) q (j, e, l, t) = (suc j, omega arith, omega arith, t)
      later none q h = past h q

      go : Found (suc n) xs (find f (suc n) xs) → (c : Bool) → f x ≡ c → Found n (x ∷ xs) (elim c [ true ↦ some n | false ↦ find f (suc n) xs ])
      go r true q = (0, omega arith, omega arith, q)
      go r false q = later (find f (suc n) xs) q r

-- the same from number 0 on
pub found-zero : {A : Type 0} (f : A → Bool) (d : A) (xs : List A) (k : ℕ) → Found f d 0 xs (some k) → (k < length xs) × (f (get_or xs k d) ≡ true)
found-zero f d xs k (j, e, l, t) =
    let z : j ≡ k = omega arith in
    (omega arith, subst (λ i. f (get_or xs i d) ≡ true) z t)
