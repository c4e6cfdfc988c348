-- Members of lists of numbers: those that pass a test, of lists put together, and found by a search. Assumes nothing.
use mathlib.Core.Bool.{Bool, true, false, cond, true≢false}
use mathlib.Core.List.{List, [], ◌∷◌, ◌++◌, Memᴰ}
use mathlib.Core.Logic.{◌⊎◌, inl, inr, ◌↔◌}
use mathlib.Core.Path.{◌≡◌, refl, sym, ap, ◌∙◌}
use Prim.Native.Nat.{ℕ, zero, suc, ◌<◌}
use native.Mathlib.Omega.{arith}
use lib.Dec.{eqb}
use lib.ListN.{length, get_or}
use borrow.Author.Tests.{eqb-true, eq-eqb}
use Rattle.block.specs.Lists.{any, keep}
use Rattle.block.proofs.ListLaws.{Among, or_cases, or_left, or_right}

-- ---- those that pass a test
pub keep-among : (f : ℕ → Bool) (q : ℕ) → f q ≡ true → (xs : List ℕ) → Among q xs → Among q (keep f xs)
unfolding keep
keep-among f q e [] m = m
keep-among f q e (x ∷ xs) m = go (λ h. keep-among f q e xs h) (f x) refl m
  where
    go : (Among q xs → Among q (keep f xs)) → (c : Bool) → f x ≡ c → Among q (x ∷ xs) → Among q (cond c (x ∷ keep f xs) (keep f xs))
    go r true k (inl h) = inl h
    go r true k (inr h) = inr (r h)
    go r false k (inl h) = absurd (true≢false (sym e ∙ ap f h ∙ k))
    go r false k (inr h) = r h

pub keep-only : (f : ℕ → Bool) (q : ℕ) (xs : List ℕ) → Among q (keep f xs) → Among q xs × (f q ≡ true)
unfolding keep
keep-only f q [] m = absurd m
keep-only f q (x ∷ xs) m = go (λ h. keep-only f q xs h) (f x) refl m
  where
    go : (Among q (keep f xs) → Among q xs × (f q ≡ true)) → (c : Bool) → f x ≡ c → Among q (cond c (x ∷ keep f xs) (keep f xs))
        → Among q (x ∷ xs) × (f q ≡ true)
    go r true k (inl h) = (inl h, ap f h ∙ k)
    go r true k (inr h) = (inr (r h).0, (r h).1)
    go r false k h = (inr (r h).0, (r h).1)

-- ---- of lists put together
pub among-left : (q : ℕ) (xs ys : List ℕ) → Among q xs → Among q (xs ++ ys)
among-left q [] ys m = absurd m
among-left q (x ∷ xs) ys (inl e) = inl e
among-left q (x ∷ xs) ys (inr m) = inr (among-left q xs ys m)

pub among-right : (q : ℕ) (xs ys : List ℕ) → Among q ys → Among q (xs ++ ys)
among-right q [] ys m = m
among-right q (x ∷ xs) ys m = inr (among-right q xs ys m)

pub among-either : (q : ℕ) (xs ys : List ℕ) → Among q (xs ++ ys) → Among q xs ⊎ Among q ys
among-either q [] ys m = inr m
among-either q (x ∷ xs) ys (inl e) = inl (inl e)
among-either q (x ∷ xs) ys (inr m) = elim (among-either q xs ys m) [ inl h ↦ inl (inr h) | inr h ↦ inr h ]

-- ---- by number, by search, and as mathlib has it
pub among-at : (xs : List ℕ) (i : ℕ) → i < length xs → Among (get_or xs i 0) xs
among-at [] i l = absurd (omega arith)
among-at (x ∷ xs) zero l = inl refl
among-at (x ∷ xs) (suc i) l = inr (among-at xs i (omega arith))

pub any-among : (q : ℕ) (xs : List ℕ) → (any (eqb q) xs ≡ true) ↔ Among q xs
unfolding any
any-among q xs = (to xs, back xs)
  where
    to : (xs : List ℕ) → any (eqb q) xs ≡ true → Among q xs
    to [] e = absurd (true≢false (sym e))
    to (x ∷ xs) e = elim (or_cases (eqb q x) (any (eqb q) xs) e) [ inl h ↦ inl (eqb-true q x h) | inr h ↦ inr (to xs h) ]

    back : (xs : List ℕ) → Among q xs → any (eqb q) xs ≡ true
    back [] m = absurd m
    back (x ∷ xs) (inl e) = or_left (eqb q x) (any (eqb q) xs) (eq-eqb q x e)
    back (x ∷ xs) (inr m) = or_right (eqb q x) (any (eqb q) xs) (back xs m)

pub mem-among : (q : ℕ) (xs : List ℕ) → Memᴰ q xs → Among q xs
mem-among q xs (Memᴰ.head e) = inl e
mem-among q xs (Memᴰ.tail {xs = ys} m) = inr (mem-among q ys m)

pub among-mem : (q : ℕ) (xs : List ℕ) → Among q xs → Memᴰ q xs
among-mem q [] m = absurd m
among-mem q (x ∷ xs) (inl e) = Memᴰ.head e
among-mem q (x ∷ xs) (inr m) = Memᴰ.tail (among-mem q xs m)
