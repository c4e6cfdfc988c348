-- Lists of numbers with none twice, and how long they can be. Assumes nothing.
use mathlib.Core.Bool.{Bool, true, false, not, cond}
use mathlib.Core.List.{List, [], ◌∷◌, ◌++◌}
use mathlib.Core.Logic.{◌⊎◌, inl, inr}
use mathlib.Core.Path.{◌≡◌, refl, sym, ap, ◌∙◌, subst}
use Prim.Native.Nat.{ℕ, zero, suc, ◌+◌, ◌/◌, ◌%◌, ◌≤◌, ◌<◌}
use native.Mathlib.Decide.{ℕ_discrete}
use native.Mathlib.Omega.{arith}
use lib.Dec.{eqb}
use lib.ListN.{length, get_or}
use borrow.Author.Tests.{eqb-true, eqb-false, ne_eqb, not-true}
use Rattle.block.specs.Lists.{keep}
use Rattle.block.proofs.ListLaws.{Among}
use Rattle.itemset.proofs.Members.{keep-only, among-either, among-at}

abbrev pub Distinct : List ℕ → Type 0
Distinct [] = Unit {0}
Distinct (x ∷ xs) = (Among x xs → ⊥) × Distinct xs

pub distinct_snoc : (xs : List ℕ) (x : ℕ) → Distinct xs → (Among x xs → ⊥) → Distinct (xs ++ (x ∷ []))
distinct_snoc [] x d n = (λ m. m, tt)
distinct_snoc (y ∷ xs) x d n = (
  λ m. elim (among-either y xs (x ∷ []) m) [ inl h ↦ d.0 h | inr h ↦ elim h [ inl e ↦ n (inl (sym e)) | inr z ↦ z ] ],
  distinct_snoc xs x d.1 (λ m. n (inr m)),
)

-- by number: the same number stands at one place only
pub distinct-at : (xs : List ℕ) → Distinct xs → (i j : ℕ) → i < length xs → j < length xs → get_or xs i 0 ≡ get_or xs j 0 → i ≡ j
distinct-at [] d i j l m e = absurd (omega arith)
distinct-at (x ∷ xs) d zero zero l m e = refl
distinct-at (x ∷ xs) d zero (suc j) l m e = absurd (d.0 (subst (λ n. Among n xs) (sym e) (among-at xs j (omega arith))))
distinct-at (x ∷ xs) d (suc i) zero l m e = absurd (d.0 (subst (λ n. Among n xs) e (among-at xs i (omega arith))))
distinct-at (x ∷ xs) d (suc i) (suc j) l m e = ap suc (distinct-at xs d.1 i j (omega arith) (omega arith) e)

keep-distinct : (f : ℕ → Bool) (xs : List ℕ) → Distinct xs → Distinct (keep f xs)
unfolding keep
keep-distinct f [] d = tt
keep-distinct f (x ∷ xs) d = go (keep-distinct f xs d.1) (f x)
  where
    go : Distinct (keep f xs) → (c : Bool) → Distinct (cond c (x ∷ keep f xs) (keep f xs))
    go r true = (λ m. d.0 (keep-only f x xs m).0, r)
    go r false = r

keep_all : (f : ℕ → Bool) (xs : List ℕ) → ((x : ℕ) → Among x xs → f x ≡ true) → keep f xs ≡ xs
unfolding keep
keep_all f [] h = refl
keep_all f (x ∷ xs) h =
    ap {B = List ℕ} (λ c. cond c (x ∷ keep f xs) (keep f xs)) (h x (inl refl)) ∙ ap {B = List ℕ} (λ l. x ∷ l) (keep_all f xs (λ y m. h y (inr m)))

module _ (f : ℕ → ℕ) where
  -- f tells the members apart
  abbrev Apart : List ℕ → Type 0
  Apart xs = (x y : ℕ) → Among x xs → Among y xs → f x ≡ f y → x ≡ y

  others : ℕ → ℕ → Bool
  others v x = not (eqb (f x) v)

  others-true : (v x : ℕ) → (f x ≡ v → ⊥) → others v x ≡ true
  unfolding others
  others-true v x n = ap not (ne_eqb (f x) v n)

  others-ne : (v x : ℕ) → others v x ≡ true → f x ≡ v → ⊥
  unfolding others
  others-ne v x h e = eqb-false (f x) v (not-true (eqb (f x) v) h) e

  -- at most one member has the value v
  at_most_one : (v : ℕ) (xs : List ℕ) → Distinct xs → Apart xs → length xs ≤ suc (length (keep (others v) xs))
  unfolding keep
  at_most_one v [] d a = omega arith
  at_most_one v (x ∷ xs) d a = go (ℕ_discrete (f x) v) (at_most_one v xs d.1 (λ y z m n e. a y z (inr m) (inr n) e))
    where
      longer : (c : Bool) → length (keep (others v) xs) ≡ length xs
          → suc (length xs) ≤ suc (length (cond c (x ∷ keep (others v) xs) (keep (others v) xs)))
      longer true h = omega arith
      longer false h = omega arith

      go : Dec (f x ≡ v) → length xs ≤ suc (length (keep (others v) xs))
          → suc (length xs) ≤ suc (length (cond (others v x) (x ∷ keep (others v) xs) (keep (others v) xs)))
      go (no n) r = rw (others-true v x n) (omega arith)
      go (yes e) r =
          let k : keep (others v) xs ≡ xs =
          keep_all (others v) xs
          (λ y m. others-true v y (λ h. d.0 (subst (λ n. Among n xs) (a y x (inr m) (inl refl) (h ∙ sym e)) m))) in
          longer (others v x) (ap length k)

  -- members that f takes apart to numbers below n are at most n
  pub few-by : (n : ℕ) (xs : List ℕ) → Distinct xs → Apart xs → ((x : ℕ) → Among x xs → f x < n) → length xs ≤ n
  few-by zero [] d a h = omega arith
  few-by zero (x ∷ xs) d a h = absurd (let l = h x (inl refl) in omega arith)
  few-by (suc n) xs d a h =
      let r : length (keep (others n) xs) ≤ n =
      few-by n (keep (others n) xs) (keep-distinct (others n) xs d)
      (λ x y m k e. a x y (keep-only (others n) x xs m).0 (keep-only (others n) y xs k).0 e)
      (λ x m. let k = keep-only (others n) x xs m in let l = h x k.0 in under x l (others-ne n x k.1)) in
      omega (arith, at_most_one n xs d a)
    where
      under : (x : ℕ) → f x < suc n → (f x ≡ n → ⊥) → f x < n
      under x l d = omega arith

-- ---- symbols: even numbers with their halves below R, odd ones with theirs below T
abbrev pub Below : ℕ → ℕ → ℕ → Type 0
Below R T x = (x % 2 ≡ 0 → x / 2 < R) × (x % 2 ≡ 1 → x / 2 < T)

place : ℕ → ℕ → ℕ
place R x = cond (eqb (x % 2) 0) (x / 2) (R + x / 2)

place-cases : (R x : ℕ) → ((x % 2 ≡ 0) × (place R x ≡ x / 2)) ⊎ ((x % 2 ≡ 1) × (place R x ≡ R + x / 2))
unfolding place
place-cases R x = go (eqb (x % 2) 0) refl
  where
    go : (c : Bool) → eqb (x % 2) 0 ≡ c → ((x % 2 ≡ 0) × (◌≡◌ {A = ℕ} (cond c (x / 2) (R + x / 2)) (x / 2))) ⊎ ((x % 2 ≡ 1) × (◌≡◌ {A = ℕ} (cond c (x / 2) (R + x / 2)) (R + x / 2)))
    go true e = inl (eqb-true (x % 2) 0 e, refl)
    go false e = inr (let n : x % 2 ≡ 0 → ⊥ = eqb-false (x % 2) 0 e in odd n, refl)
      where
        odd : (x % 2 ≡ 0 → ⊥) → x % 2 ≡ 1
        odd n = elim (ℕ_discrete (x % 2) 0) [ yes z ↦ absurd (n z) | no z ↦ omega arith ]

pub few-symbols : (R T : ℕ) (xs : List ℕ) → Distinct xs → ((x : ℕ) → Among x xs → Below R T x) → length xs ≤ R + T
few-symbols R T xs d h = few-by (place R) (R + T) xs d apart below
  where
    apart : (x y : ℕ) → Among x xs → Among y xs → place R x ≡ place R y → x ≡ y
    apart x y m n e =
        elim (place-cases R x) [
          | inl a ↦ elim (place-cases R y) [
            | inl c ↦ omega (arith, a.0, a.1, c.0, c.1)
            | inr c ↦ absurd (let l = (h x m).0 a.0 in omega (arith, a.1, c.1))
          ]
          | inr a ↦ elim (place-cases R y) [
            | inl c ↦ absurd (let l = (h y n).0 c.0 in omega (arith, a.1, c.1))
            | inr c ↦ omega (arith, a.0, a.1, c.0, c.1)
          ]
        ]

    below : (x : ℕ) → Among x xs → place R x < R + T
    below x m =
        elim (place-cases R x) [
          | inl a ↦ let l = (h x m).0 a.0 in omega (arith, a.1)
          | inr a ↦ let l = (h x m).1 a.0 in omega (arith, a.1)
        ]
