-- Rows that ascend: bounds, and that equal kernels have equal rows. Assumes nothing.
use mathlib.Core.Bool.{Bool, true, false}
use mathlib.Core.List.{List, [], ◌∷◌}
use mathlib.Core.Logic.{inl, inr, ◌↔◌}
use mathlib.Core.Path.{◌≡◌, refl, sym, ap₂, ◌∙◌, subst}
use Prim.Native.Nat.{ℕ, suc, ◌+◌, ◌*◌, ◌/◌, ◌%◌, ◌≤◌, ◌<◌}
use native.Mathlib.Nat.{mod-lt}
use native.Mathlib.Omega.{arith}
use Rattle.knuth.specs.Kernel.{◌⊑◌, ◌≈◌}
use Rattle.block.specs.Limits.{WORDS, DOTS}
use Rattle.block.specs.Sets.{mem, In, Fits}
use Rattle.block.proofs.SetLaws.{mem-ext}
use Rattle.itemset.specs.Rows.{Row, row, Present, Token, From, Sets}
use Rattle.itemset.specs.Kernel.{token-present, kernel_of}

-- ---- rows from n on
pub from-present : (n k : ℕ) (rs : List Row) → From n rs → Present k rs → n ≤ k
from-present n k [] f m = absurd m
from-present n k (row i s ∷ rs) f (inl e) = let h = f.0 in omega arith
from-present n k (row i s ∷ rs) f (inr m) = let h = from-present (suc i) k rs f.1 m in let l = f.0 in omega arith

pub from-token : (n k t : ℕ) (rs : List Row) → From n rs → Token k t rs → n ≤ k
from-token n k t rs f m = from-present n k rs f (token-present k t rs m)

pub from-weaken : (m n : ℕ) (rs : List Row) → m ≤ n → From n rs → From m rs
from-weaken m n [] l f = tt
from-weaken m n (row i s ∷ rs) l f = (let h = f.0 in omega arith, f.1)

-- ---- an item is its production and its dot
pub split-item : (k : ℕ) → DOTS * (k / DOTS) + k % DOTS ≡ k
split-item k = omega arith

pub item-prod : (p d : ℕ) → d < DOTS → (DOTS * p + d) / DOTS ≡ p
item-prod p d l = omega arith

pub item-dot : (p d : ℕ) → d < DOTS → (DOTS * p + d) % DOTS ≡ d
item-dot p d l = omega arith

-- what is said of each item and its dot is said of each production and dot
pub at_item : (P : ℕ → ℕ → Type 0) (p d : ℕ) → d < DOTS → P ((DOTS * p + d) / DOTS) ((DOTS * p + d) % DOTS) → P p d
at_item P p d l m = subst (λ n. P n d) (item-prod p d l) (subst (λ n. P ((DOTS * p + d) / DOTS) n) (item-dot p d l) m)

-- dot 0: written with the dot and without, and told by the number
pub zero-dot : (P : ℕ → Type 0) (q : ℕ) → P (DOTS * q) ↔ P (DOTS * q + 0)
zero-dot P q = (λ m. subst P (omega arith) m, λ m. subst P (omega arith) m)

pub zero-item : (P : ℕ → Type 0) (k : ℕ) → k % DOTS ≡ 0 → P k ↔ P (DOTS * (k / DOTS))
zero-item P k e = (λ m. subst P (omega arith) m, λ m. subst P (omega arith) m)

-- ---- the rows rs are in the rows ss, items and tokens
pub record Under (rs ss : List Row) : Type 0 where
  pub items : (k : ℕ) → Present k rs → Present k ss
  pub tokens : (k t : ℕ) → Token k t rs → Token k t ss

pub under-kernel : (rs ss : List Row) → kernel_of rs ⊑ kernel_of ss → Under rs ss
under-kernel rs ss h =
    record {
      items = λ k m.
          subst (λ n. Present n ss) (split-item k)
          (h.items (k / DOTS) (k % DOTS) (mod-lt k (omega arith), subst (λ n. Present n rs) (sym (split-item k)) m)).1;
      tokens = λ k t m.
          subst (λ n. Token n t ss) (split-item k)
          (h.tokens (k / DOTS) (k % DOTS) t (mod-lt k (omega arith), subst (λ n. Token n t rs) (sym (split-item k)) m)).1;
    }

pub both_ways : (a c : Bool) → (a ≡ true → c ≡ true) → (c ≡ true → a ≡ true) → a ≡ c
both_ways true c f g = sym (f refl)
both_ways false true f g = g refl
both_ways false false f g = refl

-- two token sets with the same members
pub sets-ext : (n : ℕ) (s t : List ℕ) → Fits n s → Fits n t → ((u : ℕ) → In s u → In t u) → ((u : ℕ) → In t u → In s u) → s ≡ t
sets-ext n s t a c f g = mem-ext s t a.1 c.1 (a.0 ∙ sym c.0) (λ u l. both_ways (mem s u) (mem t u) (f u) (g u))

-- the first items are the same, and what follows them
heads-meet : (i j : ℕ) (s t : List ℕ) (rs ss : List Row) → From (suc i) rs → From (suc j) ss → Under (row i s ∷ rs) (row j t ∷ ss)
    → Under (row j t ∷ ss) (row i s ∷ rs) → i ≡ j
heads-meet i j s t rs ss f g u v =
    elim (u.items i (inl refl)) [
      | inl e ↦ e
      | inr m ↦
          let a = from-present (suc j) i ss g m in
          elim (v.items j (inl refl)) [ inl e ↦ sym e | inr n ↦ let c = from-present (suc i) j rs f n in omega arith ]
    ]

tails-under : (i j : ℕ) (s t : List ℕ) (rs ss : List Row) → i ≡ j → From (suc i) rs → Under (row i s ∷ rs) (row j t ∷ ss) → Under rs ss
tails-under i j s t rs ss e f u =
    record {
      items = λ k m. elim (u.items k (inr m)) [ inl h ↦ absurd (let l = from-present (suc i) k rs f m in omega arith) | inr n ↦ n ];
      tokens = λ k w m. elim (u.tokens k w (inr m)) [ inl h ↦ absurd (let l = from-token (suc i) k w rs f m in let h0 = h.0 in omega arith) | inr n ↦ n ];
    }

head-members : (i j : ℕ) (s t : List ℕ) (rs ss : List Row) → i ≡ j → From (suc j) ss → Under (row i s ∷ rs) (row j t ∷ ss) → (u : ℕ)
    → In s u → In t u
head-members i j s t rs ss e g h u m =
    elim (h.tokens i u (inl (refl, m))) [ inl k ↦ k.1 | inr n ↦ absurd (let l = from-token (suc j) i u ss g n in omega arith) ]

-- ascending rows of token sets with the same items and tokens are equal
pub rows_ext : (n : ℕ) (rs ss : List Row) → From n rs → Sets rs → From n ss → Sets ss → Under rs ss → Under ss rs → rs ≡ ss
rows_ext n [] [] f a g c u v = refl
rows_ext n [] (row j t ∷ ss) f a g c u v = absurd (v.items j (inl refl))
rows_ext n (row i s ∷ rs) [] f a g c u v = absurd (u.items i (inl refl))
rows_ext n (row i s ∷ rs) (row j t ∷ ss) f a g c u v =
    let e = heads-meet i j s t rs ss f.1 g.1 u v in
    ap₂ {C = List Row} (λ x xs. x ∷ xs)
    (ap₂ {C = Row} row e (sets-ext WORDS s t a.0 c.0 (head-members i j s t rs ss e g.1 u) (head-members j i t s ss rs (sym e) f.1 v)))
    (rows_ext (suc i) rs ss f.1 a.1 (subst (λ m. From (suc m) ss) (sym e) g.1) c.1
    (tails-under i j s t rs ss e f.1 u) (tails-under j i t s ss rs (sym e) g.1 v))

-- equal kernels have equal rows
pub rows-equal : (rs ss : List Row) → From 0 rs → Sets rs → From 0 ss → Sets ss → kernel_of rs ≈ kernel_of ss → rs ≡ ss
rows-equal rs ss f a g c h = rows_ext 0 rs ss f a g c (under-kernel rs ss h.there) (under-kernel ss rs h.back)
