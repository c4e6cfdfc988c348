-- Members of a set of any number of words: outside, with one more, extensionality, meeting. Assumes nothing.
use mathlib.Core.Bool.{Bool, true, false, not, ◌||◌, or-false, false≢true, true≢false}
use mathlib.Core.List.{List, [], ◌∷◌}
use mathlib.Core.Logic.{◌⊎◌, inl, inr, ◌↔◌}
use mathlib.Core.Path.{◌≡◌, refl, sym, ap, ◌∙◌}
use Prim.Native.Nat.{ℕ, zero, suc, ◌+◌, ◌*◌, ◌/◌, ◌%◌, ◌^◌, ◌≤◌, ◌<◌, min}
use native.Mathlib.Omega.{arith}
use native.Mathlib.Decide.{dec_lt, ℕ_discrete}
use lib.Bits.{bit_or, bit_and, and_le_l, and_zero_l, and_zero_r, or_lt}
use lib.Dec.{eqb}
use lib.ListN.{length, get_or, set, replicate, length-set, length-replicate, get_or-eq_default}
use lib.Pow.{pow-lt}
use lib.Seq.{get_or-set_same, get_or-set_other, ext_get_or}
use borrow.Author.Tests.{eq-eqb, ne_eqb, eqb-true, eqb-false}
use Rattle.block.specs.Limits.{WORDS}
use Rattle.block.specs.Sets.{bit, mem, In, empty, with, meets, Words, Fits}
use Rattle.block.proofs.Bits.{bit-lt, bit-and, bit-zero, bit-ext, bit-some, test-with, test_bit}

zero-out : (ws : List ℕ) (u : ℕ) → get_or ws (u / 64) 0 ≡ 0 → mem ws u ≡ false
unfolding mem
zero-out ws u e =
    ne_eqb (bit (get_or ws (u / 64) 0) (u % 64)) 1
    (λ o. let z : bit (get_or ws (u / 64) 0) (u % 64) ≡ 0 = ap (λ (w : ℕ). bit w (u % 64)) e ∙ bit-zero (u % 64) in
    omega arith)

-- a number outside the words is no member
pub mem-out : (ws : List ℕ) (u : ℕ) → length ws * 64 ≤ u → mem ws u ≡ false
mem-out ws u h = zero-out ws u (get_or-eq_default ws 0 (omega arith))

-- words that are all 0 have no member
pub mem-zeros : (ws : List ℕ) → ((i : ℕ) → get_or ws i 0 ≡ 0) → (u : ℕ) → mem ws u ≡ false
mem-zeros ws h u = zero-out ws u (h (u / 64))

pub zeros-zero : (n i : ℕ) → ◌≡◌ {A = ℕ} (get_or (replicate n 0) i 0) 0
zeros-zero zero i = refl
zeros-zero (suc n) zero = refl
zeros-zero (suc n) (suc i) = zeros-zero n i

pub mem-empty : (u : ℕ) → mem empty u ≡ false
unfolding empty
mem-empty = mem-zeros empty (zeros-zero WORDS)

pub empty-fits : Fits WORDS empty
unfolding empty
empty-fits = (length-replicate {A = ℕ} WORDS 0, λ i. let e = zeros-zero WORDS i in omega arith)

-- bit k of word i is member i * 64 + k
pub mem-at : (ws : List ℕ) (i k : ℕ) → k < 64 → mem ws (i * 64 + k) ≡ eqb (bit (get_or ws i 0) k) 1
unfolding mem
mem-at ws i k h =
    let q : (i * 64 + k) / 64 ≡ i = omega arith in
    let r : (i * 64 + k) % 64 ≡ k = omega arith in
    simp (q, r)

-- ---- one token more
pub mem-with : (ws : List ℕ) (t : ℕ) → t / 64 < length ws → (u : ℕ) → mem (with ws t) u ≡ (mem ws u || eqb u t)
unfolding mem with
mem-with ws t h u = by_word (ℕ_discrete (u / 64) (t / 64))
  where
    x : ℕ
    x = get_or ws (t / 64) 0

    ws' : List ℕ
    ws' = set ws (t / 64) (bit_or x (2 ^ (t % 64)))

    same_bit : u / 64 ≡ t / 64 → Dec (u ≡ t) → eqb (u % 64) (t % 64) ≡ eqb u t
    same_bit e (yes f) = eq-eqb (u % 64) (t % 64) (omega arith) ∙ sym (eq-eqb u t f)
    same_bit e (no n) = ne_eqb (u % 64) (t % 64) (λ g. n (omega arith)) ∙ sym (ne_eqb u t n)

    by_word : Dec (u / 64 ≡ t / 64) → eqb (bit (get_or ws' (u / 64) 0) (u % 64)) 1 ≡ (eqb (bit (get_or ws (u / 64) 0) (u % 64)) 1 || eqb u t)
    by_word (yes e) =
        rw e
        (ap (λ (w : ℕ). eqb (bit w (u % 64)) 1) (get_or-set_same ws (t / 64) (bit_or x (2 ^ (t % 64))) 0 h)
        ∙ test-with x (t % 64) (u % 64)
        ∙ ap (λ (b : Bool). eqb (bit x (u % 64)) 1 || b) (same_bit e (ℕ_discrete u t)))
    by_word (no n) =
        ap (λ (w : ℕ). eqb (bit w (u % 64)) 1) (get_or-set_other ws (t / 64) (u / 64) (bit_or x (2 ^ (t % 64))) 0 n)
        ∙ sym (ap (λ (b : Bool). eqb (bit (get_or ws (u / 64) 0) (u % 64)) 1 || b) (ne_eqb u t (λ e. n (ap (λ (v : ℕ). v / 64) e)))
        ∙ or-false (eqb (bit (get_or ws (u / 64) 0) (u % 64)) 1))

pub with-fits : (n : ℕ) (ws : List ℕ) (t : ℕ) → Fits n ws → Fits n (with ws t)
unfolding with
with-fits n ws t (l, w) = (length-set ws (t / 64) v ∙ l, λ i. below i (ℕ_discrete i (t / 64)) (dec_lt (t / 64) (length ws)))
  where
    v : ℕ
    v = bit_or (get_or ws (t / 64) 0) (2 ^ (t % 64))

    below : (i : ℕ) → Dec (i ≡ t / 64) → Dec (t / 64 < length ws) → get_or (set ws (t / 64) v) i 0 < 2 ^ 64
    below i (no d) m = rw (get_or-set_other ws (t / 64) i v 0 d) (w i)
    below i (yes e) (yes m) =
        rw e
        (rw (get_or-set_same ws (t / 64) v 0 m) (or_lt 64 (get_or ws (t / 64) 0) (2 ^ (t % 64)) (w (t / 64)) (pow-lt {i = t % 64} {j = 64} (omega arith))))
    below i (yes e) (no m) =
        let z : get_or (set ws (t / 64) v) i 0 ≡ 0 = get_or-eq_default (set ws (t / 64) v) 0 (omega (arith, length-set ws (t / 64) v)) in
        omega arith

-- ---- two sets of as many words with the same members are equal
pub mem-ext : (a b : List ℕ) → Words a → Words b → length a ≡ length b
    → ((u : ℕ) → u < length a * 64 → mem a u ≡ mem b u) → a ≡ b
mem-ext a b wa wb e h = ext_get_or 0 a b e (λ i l. bit-ext 64 (get_or a i 0) (get_or b i 0) (wa i) (wb i) (λ k m. same_at i k l m))
  where
    same_at : (i k : ℕ) → i < length a → k < 64 → bit (get_or a i 0) k ≡ bit (get_or b i 0) k
    same_at i k l m =
        test_bit (get_or a i 0) (get_or b i 0) k (sym (mem-at a i k m) ∙ h (i * 64 + k) (omega arith) ∙ mem-at b i k m)

pub same-members : (n : ℕ) (a b : List ℕ) → Fits n a → Fits n b → (a ≡ b) ↔ ((u : ℕ) → mem a u ≡ mem b u)
same-members n a b (la, wa) (lb, wb) = (λ e u. ap (λ (s : List ℕ). mem s u) e, λ h. mem-ext a b wa wb (la ∙ sym lb) (λ u l. h u))

-- ---- meeting
abbrev both : List ℕ → List ℕ → ℕ → ℕ
both a b i = bit_and (get_or a i 0) (get_or b i 0)

-- the test of one word and the answer for the rest, either way
met-not : (x : ℕ) (m : Bool) → (not (eqb x 0) || m) ≡ false → (x ≡ 0) × (m ≡ false)
met-not x m = go (eqb x 0) refl
  where
    go : (t : Bool) → eqb x 0 ≡ t → (not t || m) ≡ false → (x ≡ 0) × (m ≡ false)
    go true q e = (eqb-true x 0 q, e)
    go false q e = absurd (true≢false e)

met : (x : ℕ) (m : Bool) → (not (eqb x 0) || m) ≡ true → (x ≡ 0 → ⊥) ⊎ (m ≡ true)
met x m = go (eqb x 0) refl
  where
    go : (t : Bool) → eqb x 0 ≡ t → (not t || m) ≡ true → (x ≡ 0 → ⊥) ⊎ (m ≡ true)
    go true q e = inr e
    go false q e = inl (eqb-false x 0 q)

-- sets that do not meet have no bit in both, in any word
meets-zero : (a b : List ℕ) → meets a b ≡ false → (i : ℕ) → both a b i ≡ 0
unfolding meets
meets-zero [] b e i = and_zero_l (get_or b i 0)
meets-zero (x ∷ a) [] e i = and_zero_r (get_or (x ∷ a) i 0)
meets-zero (x ∷ a) (y ∷ b) e zero = (met-not (bit_and x y) (meets a b) e).0
meets-zero (x ∷ a) (y ∷ b) e (suc i) = meets-zero a b (met-not (bit_and x y) (meets a b) e).1 i

-- sets that meet have one in some word
meets-some : (a b : List ℕ) → meets a b ≡ true → (i : ℕ) × (i < length a) × (both a b i ≡ 0 → ⊥)
unfolding meets
meets-some [] b e = absurd (false≢true e)
meets-some (x ∷ a) [] e = absurd (false≢true e)
meets-some (x ∷ a) (y ∷ b) e =
    elim (met (bit_and x y) (meets a b) e) [
      | inl d ↦ (0, omega arith, d)
      | inr m ↦
          let r : (i : ℕ) × (i < length a) × (both a b i ≡ 0 → ⊥) = meets-some a b m in
          (suc r.0, omega (arith, r.1), r.2)
    ]

-- what a loop over the words finds out
pub meets-found : (a b : List ℕ) (i : ℕ) → (bit_and (get_or a i 0) (get_or b i 0) ≡ 0 → ⊥) → meets a b ≡ true
meets-found a b i d = go (meets a b) refl
  where
    go : (t : Bool) → meets a b ≡ t → t ≡ true
    go true q = refl
    go false q = absurd (d (meets-zero a b q i))

pub meets-none : (n : ℕ) (a b : List ℕ) → length a ≤ n → ((k : ℕ) → k < n → bit_and (get_or a k 0) (get_or b k 0) ≡ 0) → meets a b ≡ false
meets-none n a b l h = go (meets a b) refl
  where
    go : (t : Bool) → meets a b ≡ t → t ≡ false
    go false q = refl
    go true q =
        let s : (i : ℕ) × (i < length a) × (both a b i ≡ 0 → ⊥) = meets-some a b q in
        absurd (s.2 (h s.0 (omega (arith, s.1))))

-- two sets meet where they share a member
pub meets-iff : (a b : List ℕ) → Words a → (meets a b ≡ true) ↔ ((u : ℕ) × In a u × In b u)
unfolding mem
meets-iff a b w = (λ e. shared (meets-some a b e), λ s. found s.0 s.1 s.2)
  where
    shared : (i : ℕ) × (i < length a) × (both a b i ≡ 0 → ⊥) → (u : ℕ) × In a u × In b u
    shared (i, l, d) =
        let s : (k : ℕ) × (k < 64) × (bit (both a b i) k ≡ 1) = bit-some 64 (both a b i) (omega (arith, w i, and_le_l (get_or a i 0) (get_or b i 0))) d in
        let k : ℕ = s.0 in
        let m : min (bit (get_or a i 0) k) (bit (get_or b i 0) k) ≡ 1 = sym (bit-and (get_or a i 0) (get_or b i 0) k) ∙ s.2 in
        let la = bit-lt (get_or a i 0) k in
        let lb = bit-lt (get_or b i 0) k in (
          i * 64 + k,
          mem-at a i k s.1 ∙ eq-eqb (bit (get_or a i 0) k) 1 (omega arith),
          mem-at b i k s.1 ∙ eq-eqb (bit (get_or b i 0) k) 1 (omega arith),
        )

    found : (u : ℕ) → In a u → In b u → meets a b ≡ true
    found u p q =
        meets-found a b (u / 64)
        (λ z. let ea : bit (get_or a (u / 64) 0) (u % 64) ≡ 1 = eqb-true (bit (get_or a (u / 64) 0) (u % 64)) 1 p in
        let eb : bit (get_or b (u / 64) 0) (u % 64) ≡ 1 = eqb-true (bit (get_or b (u / 64) 0) (u % 64)) 1 q in
        let o : bit (both a b (u / 64)) (u % 64) ≡ 0 = ap (λ (x : ℕ). bit x (u % 64)) z ∙ bit-zero (u % 64) in
        omega (arith, bit-and (get_or a (u / 64) 0) (get_or b (u / 64) 0) (u % 64)))

-- an answer that is `meets` says so of the members
pub meets-told : (a b : List ℕ) (r : Bool) → Words a → meets a b ≡ r → (r ≡ meets a b) × ((r ≡ true) ↔ ((u : ℕ) × In a u × In b u))
meets-told a b r w e =
    let f : (meets a b ≡ true) ↔ ((u : ℕ) × In a u × In b u) = meets-iff a b w in
    (sym e, (λ h. f.0 (e ∙ h), λ s. sym e ∙ f.1 s))
