-- The union of two sets of any number of words: its members, its words, and that a sum grows with it. Assumes nothing.
use mathlib.Core.Bool.{Bool, true, false, ◌||◌, ◌&&◌, or-true, false≢true}
use mathlib.Core.List.{List, [], ◌∷◌}
use mathlib.Core.Logic.{◌⊎◌, inl, inr, ◌↔◌}
use mathlib.Core.Path.{◌≡◌, refl, sym, ap, ap₂, ◌∙◌}
use Prim.Native.Nat.{ℕ, zero, suc, ◌+◌, ◌*◌, ◌/◌, ◌%◌, ◌^◌, ◌≤◌, ◌<◌, max}
use native.Mathlib.Omega.{arith}
use native.Mathlib.Decide.{ℕ_discrete}
use lib.Bits.{bit_or, or_zero_l, or_zero_r, or_lt, or_comm, or_self, or_add_and, and_le_r}
use lib.Dec.{eqb}
use lib.ListN.{length, get_or, set, take}
use lib.Seq.{ext_get_or}
use borrow.Author.Tests.{eq-eqb, eqb-true}
use Rattle.block.specs.Lists.{same}
use Rattle.block.specs.Sets.{bit, mem, In, join, same_set, Fits}
use Rattle.block.proofs.Bits.{test-or}
use Rattle.block.proofs.SetLaws.{mem-ext}

-- ---- its words
pub join_is : (a b : List ℕ) (i : ℕ) → get_or (join a b) i 0 ≡ bit_or (get_or a i 0) (get_or b i 0)
unfolding join
join_is [] b i = sym (or_zero_l (get_or b i 0))
join_is (x ∷ a) [] i = sym (or_zero_r (get_or (x ∷ a) i 0))
join_is (x ∷ a) (y ∷ b) zero = refl
join_is (x ∷ a) (y ∷ b) (suc i) = join_is a b i

pub length-join : (a b : List ℕ) → length (join a b) ≡ max (length a) (length b)
unfolding join
length-join [] b = omega arith
length-join (x ∷ a) [] = omega arith
length-join (x ∷ a) (y ∷ b) = omega (arith, length-join a b)

pub join-fits : (n : ℕ) (a b : List ℕ) → Fits n a → Fits n b → Fits n (join a b)
join-fits n a b (la, wa) (lb, wb) =
    (omega (arith, length-join a b), λ i. rw (join_is a b i) (or_lt 64 (get_or a i 0) (get_or b i 0) (wa i) (wb i)))

pub join-nil : (a : List ℕ) → join a [] ≡ a
unfolding join
join-nil [] = refl
join-nil (x ∷ a) = refl

pub join-self : (a : List ℕ) → join a a ≡ a
join-self a = ext_get_or 0 (join a a) a (omega (arith, length-join a a)) (λ i l. join_is a a i ∙ or_self (get_or a i 0))

pub join-comm : (a b : List ℕ) → join a b ≡ join b a
join-comm a b =
    ext_get_or 0 (join a b) (join b a) (omega (arith, length-join a b, length-join b a))
    (λ i l. join_is a b i ∙ or_comm (get_or a i 0) (get_or b i 0) ∙ sym (join_is b a i))

-- one turn of a loop that joins word by word
pub join_more : (a b : List ℕ) (i : ℕ) → i < length a → i < length b
    → set (join a (take i b)) i (bit_or (get_or (join a (take i b)) i 0) (get_or b i 0)) ≡ join a (take (suc i) b)
unfolding join
join_more [] b i l m = absurd (omega arith)
join_more (x ∷ a) [] i l m = absurd (omega arith)
join_more (x ∷ a) (y ∷ b) zero l m = ap (λ (r : List ℕ). bit_or x y ∷ r) (sym (join-nil a))
join_more (x ∷ a) (y ∷ b) (suc i) l m = ap (λ (r : List ℕ). bit_or x y ∷ r) (join_more a b i (omega arith) (omega arith))

-- ---- its members
pub mem-join : (a b : List ℕ) (u : ℕ) → mem (join a b) u ≡ (mem a u || mem b u)
unfolding mem
mem-join a b u =
    ap (λ (w : ℕ). eqb (bit w (u % 64)) 1) (join_is a b (u / 64)) ∙ test-or (get_or a (u / 64) 0) (get_or b (u / 64) 0) (u % 64)

pub In-join : (a b : List ℕ) (u : ℕ) → In (join a b) u → In a u ⊎ In b u
In-join a b u i = or_cases (mem a u) (mem b u) (sym (mem-join a b u) ∙ i)
  where
    or_cases : (p q : Bool) → (p || q) ≡ true → (p ≡ true) ⊎ (q ≡ true)
    or_cases true q e = inl refl
    or_cases false q e = inr e

pub In-join-left : (a b : List ℕ) (u : ℕ) → In a u → In (join a b) u
In-join-left a b u i = mem-join a b u ∙ ap (λ (p : Bool). p || mem b u) i

pub In-join-right : (a b : List ℕ) (u : ℕ) → In b u → In (join a b) u
In-join-right a b u i = mem-join a b u ∙ ap (λ (p : Bool). mem a u || p) i ∙ or-true (mem a u)

-- joining what is there already changes nothing
pub join-under : (n : ℕ) (a b : List ℕ) → Fits n a → Fits n b → ((u : ℕ) → In b u → In a u) → join a b ≡ a
join-under n a b fa fb h =
    let f : Fits n (join a b) = join-fits n a b fa fb in
    mem-ext (join a b) a f.1 fa.1 (f.0 ∙ sym fa.0) (λ u l. mem-join a b u ∙ swallow (mem a u) (mem b u) (h u))
  where
    swallow : (p q : Bool) → (q ≡ true → p ≡ true) → (p || q) ≡ p
    swallow true q k = refl
    swallow false false k = refl
    swallow false true k = absurd (false≢true (k refl))

-- ---- equality
pub words-refl : (a : List ℕ) → same_set a a ≡ true
unfolding same
words-refl [] = refl
words-refl (x ∷ a) = ap₂ ◌&&◌ (eq-eqb x x refl) (words-refl a)

pub same-words : (a b : List ℕ) → same_set a b ≡ true → a ≡ b
unfolding same
same-words [] [] e = refl
same-words [] (y ∷ b) e = absurd (false≢true e)
same-words (x ∷ a) [] e = absurd (false≢true e)
same-words (x ∷ a) (y ∷ b) e = go (eqb x y) refl e (λ k. same-words a b k)
  where
    go : (t : Bool) → eqb x y ≡ t → (t && same_set a b) ≡ true → (same_set a b ≡ true → a ≡ b) → x ∷ a ≡ y ∷ b
    go true q k r = ap₂ {C = List ℕ} (λ x xs. x ∷ xs) (eqb-true x y q) (r k)
    go false q k r = absurd (false≢true k)

pub same-iff : (a b : List ℕ) → (same_set a b ≡ true) ↔ (a ≡ b)
same-iff a b = (same-words a b, λ e. ap (same_set a) (sym e) ∙ words-refl a)

-- ---- what grows: the sum of the words
abbrev pub weigh : List ℕ → ℕ
weigh [] = 0
weigh (x ∷ a) = 1 + x + weigh a

or_above : (x y : ℕ) → x ≤ bit_or x y
or_above x y = omega (arith, or_add_and x y, and_le_r x y)

pub join-grows : (a b : List ℕ) → (join a b ≡ a) ⊎ (weigh a < weigh (join a b))
unfolding join
join-grows [] [] = inl refl
join-grows [] (y ∷ b) = inr (omega arith)
join-grows (x ∷ a) [] = inl refl
join-grows (x ∷ a) (y ∷ b) = go (join-grows a b) (ℕ_discrete (bit_or x y) x)
  where
    below : x ≤ bit_or x y → (bit_or x y ≡ x → ⊥) → x < bit_or x y
    below k d = omega arith

    go : (join a b ≡ a) ⊎ (weigh a < weigh (join a b)) → Dec (bit_or x y ≡ x)
        → (bit_or x y ∷ join a b ≡ x ∷ a) ⊎ (1 + x + weigh a < 1 + bit_or x y + weigh (join a b))
    go (inl e) (yes d) = inl (ap₂ {C = List ℕ} (λ x xs. x ∷ xs) d e)
    go (inl e) (no d) =
        inr
        (let h : weigh (join a b) ≡ weigh a = ap weigh e in
        let k = or_above x y in
        let l : x < bit_or x y = below k d in
        omega arith)
    go (inr l) d = inr (let k = or_above x y in omega arith)

-- and how far it can grow
pub fits-weigh : (n : ℕ) (a : List ℕ) → Fits n a → weigh a ≤ n * 2 ^ 64
fits-weigh n [] (l, w) = omega arith
fits-weigh n (x ∷ a) (l, w) =
    let k : weigh a ≤ length a * 2 ^ 64 = fits-weigh (length a) a (refl, λ i. w (suc i)) in
    let h : x < 2 ^ 64 = w 0 in
    let e : suc (length a) ≡ n = l in
    omega arith
