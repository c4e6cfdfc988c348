-- What the laid rows are: the marked productions with dot 0 and the kernel's rows with another dot, ascending. Assumes nothing.
use mathlib.Core.Bool.{Bool, true, false, cond}
use mathlib.Core.List.{List, [], ◌∷◌, ◌++◌}
use mathlib.Core.Logic.{◌⊎◌, inl, inr}
use mathlib.Core.Path.{◌≡◌, refl}
use Prim.Native.Nat.{ℕ, suc, ◌*◌, ◌%◌, ◌≤◌, ◌<◌}
use native.Mathlib.Decide.{ℕ_discrete}
use native.Mathlib.Omega.{arith}
use lib.Dec.{eqb}
use borrow.Author.Tests.{eqb-true, eqb-false}
use Rattle.block.specs.Limits.{WORDS, DOTS}
use Rattle.block.specs.Sets.{Fits}
use Rattle.itemset.specs.Rows.{Row, row, From, Sets}
use Rattle.itemset.specs.Lay.{zero_row, kept_row, lay_from}
use Rattle.itemset.proofs.RowLaws.{from-weaken}
use Rattle.itemset.proofs.Has.{Has, has_left, has_right}
use Rattle.itemset.proofs.LaySteps.{Before, lay-ind}

-- ---- a row that is kept
kept-cases : (P : List Row → Type 0) (i : ℕ) (s : List ℕ) → (i % DOTS ≡ 0 → P []) → ((i % DOTS ≡ 0 → ⊥) → P (row i s ∷ []))
    → P (kept_row (row i s))
unfolding kept_row
kept-cases P i s no_row a-row = go (eqb (i % DOTS) 0) refl
  where
    go : (c : Bool) → eqb (i % DOTS) 0 ≡ c → P (cond c [] (row i s ∷ []))
    go true e = no_row (eqb-true (i % DOTS) 0 e)
    go false e = a-row (eqb-false (i % DOTS) 0 e)

-- rows before which dot 0 of production p stands
from-before : (n p : ℕ) (rs : List Row) → Before p rs → From n rs → From (suc (DOTS * p)) rs
from-before n p [] h f = tt
from-before n p (row i s ∷ rs) h f = (h, f.1)

below-dots : (i p : ℕ) → i ≤ DOTS * p → (i % DOTS ≡ 0 → ⊥) → suc i ≤ DOTS * p
below-dots i p l d = elim (ℕ_discrete i (DOTS * p)) [ yes e ↦ absurd (d (omega arith)) | no n ↦ omega arith ]

module _ (here : ℕ → Bool) (ctx : ℕ → List ℕ) where
  zero-cases : (P : List Row → Type 0) (p : ℕ) → P [] → (here p ≡ true → P (row (DOTS * p) (ctx p) ∷ [])) → P (zero_row here ctx p)
  unfolding zero_row
  zero-cases P p no_row a-row = go (here p) refl
    where
      go : (c : Bool) → here p ≡ c → P (cond c (row (DOTS * p) (ctx p) ∷ []) [])
      go true e = a-row e
      go false e = no_row

  zero_has : (p : ℕ) → here p ≡ true → Has (DOTS * p) (ctx p) (zero_row here ctx p)
  unfolding zero_row
  zero_has p e = rw e (inl (refl, refl))

  kept-has : (k i : ℕ) (s t : List ℕ) → (k % DOTS ≡ 0 → ⊥) → k ≡ i → s ≡ t → Has k s (kept_row (row i t))
  kept-has k i s t d e f = kept-cases (λ r. Has k s r) i t (λ z. absurd (d (omega arith))) (λ n. inl (e, f))

  module _ (N : ℕ) where
    -- they ascend
    pub lay-from : (p : ℕ) (rs : List Row) (n : ℕ) → (p < N → n ≤ DOTS * p) → From n rs → From n (lay_from here ctx N p rs)
    lay-from =
        lay-ind here ctx N (λ p rs out. (n : ℕ) → (p < N → n ≤ DOTS * p) → From n rs → From n out) (λ p z n h f. tt)
        (λ p rs out l m r n h f.
        zero-cases (λ u. From n (u ++ out)) p (r n (λ z. let a = h l in omega arith) f)
        (λ e. (h l, r (suc (DOTS * p)) (λ z. omega arith) (from-before n p rs m f))))
        (λ p i s rs out h r n k f.
        let a = f.0 in
        kept-cases (λ u. From n (u ++ out)) i s (λ z. r n k (from-weaken n (suc i) rs (omega arith) f.1))
        (λ d. (a, r (suc i) (λ l. below-dots i p (h l) d) f.1)))

    -- their contexts are token sets
    pub lay-sets : ((q : ℕ) → q < N → Fits WORDS (ctx q)) → (p : ℕ) (rs : List Row) → Sets rs → Sets (lay_from here ctx N p rs)
    lay-sets fits =
        lay-ind here ctx N (λ p rs out. Sets rs → Sets out) (λ p z h. tt)
        (λ p rs out l m r h. zero-cases (λ u. Sets (u ++ out)) p (r h) (λ e. (fits p l, r h)))
        (λ p i s rs out k r h. kept-cases (λ u. Sets (u ++ out)) i s (λ z. r h.1) (λ d. (h.0, r h.1)))

    -- a marked production is there
    pub lay-marked : (q : ℕ) → q < N → here q ≡ true → (p : ℕ) (rs : List Row) → p ≤ q → Has (DOTS * q) (ctx q) (lay_from here ctx N p rs)
    lay-marked q l e =
        lay-ind here ctx N (λ p rs out. p ≤ q → Has (DOTS * q) (ctx q) out) (λ p z h. absurd (omega arith))
        (λ p rs out m k r h.
        elim (ℕ_discrete p q) [
          | yes z ↦ has_left (DOTS * q) (ctx q) (zero_row here ctx p) out (rw z (zero_has q e))
          | no z ↦ has_right (DOTS * q) (ctx q) (zero_row here ctx p) out (r (omega arith))
        ])
        (λ p i s rs out k r h. has_right (DOTS * q) (ctx q) (kept_row (row i s)) out (r h))

    -- a kernel's row with another dot is there
    pub lay-kept : (k : ℕ) (s : List ℕ) → (k % DOTS ≡ 0 → ⊥) → (p : ℕ) (rs : List Row) → Has k s rs → Has k s (lay_from here ctx N p rs)
    lay-kept k s d =
        lay-ind here ctx N (λ p rs out. Has k s rs → Has k s out) (λ p z h. h)
        (λ p rs out m l r h. has_right k s (zero_row here ctx p) out (r h))
        (λ p i t rs out l r h.
        elim h [
          | inl e ↦ has_left k s (kept_row (row i t)) out (kept-has k i s t d e.0 e.1)
          | inr m ↦ has_right k s (kept_row (row i t)) out (r m)
        ])

    -- a laid row is a marked production, or a kernel's row with another dot
    pub record Marked (k : ℕ) (s : List ℕ) : Type 0 where
      pub prod : ℕ
      pub below : prod < N
      pub mark : here prod ≡ true
      pub item : k ≡ DOTS * prod
      pub context : s ≡ ctx prod

    pub lay-only : (k : ℕ) (s : List ℕ) (p : ℕ) (rs : List Row) → Has k s (lay_from here ctx N p rs)
        → Marked k s ⊎ (Has k s rs × (k % DOTS ≡ 0 → ⊥))
    lay-only k s =
        lay-ind here ctx N (λ p rs out. Has k s out → Marked k s ⊎ (Has k s rs × (k % DOTS ≡ 0 → ⊥))) (λ p z h. absurd h)
        (λ p rs out l m r.
        zero-cases (λ u. Has k s (u ++ out) → Marked k s ⊎ (Has k s rs × (k % DOTS ≡ 0 → ⊥))) p r
        (λ e h. elim h [ inl f ↦ inl (record { prod = p; below = l; mark = e; item = f.0; context = f.1 }) | inr m ↦ r m ]))
        (λ p i t rs out l r.
        kept-cases (λ u. Has k s (u ++ out) → Marked k s ⊎ (((((k ≡ i) × (s ≡ t)) ⊎ Has k s rs)) × (k % DOTS ≡ 0 → ⊥))) i t
        (λ z h. more p i t rs (r h))
        (λ d h. elim h [ inl f ↦ inr (inl f, λ z. d (let g = f.0 in omega arith)) | inr m ↦ more p i t rs (r m) ]))
      where
        more : (p i : ℕ) (t : List ℕ) (rs : List Row) → Marked k s ⊎ (Has k s rs × (k % DOTS ≡ 0 → ⊥))
            → Marked k s ⊎ (((((k ≡ i) × (s ≡ t)) ⊎ Has k s rs)) × (k % DOTS ≡ 0 → ⊥))
        more p i t rs (inl m) = inl m
        more p i t rs (inr m) = inr (inr m.0, m.1)
