-- Rule 6 is proved: weak compatibility on rows is that of kernels, and so is the union. Assumes nothing.
use mathlib.Core.Bool.{true, ◌&&◌}
use mathlib.Core.List.{List}
use mathlib.Core.Logic.{◌⊎◌, inl, inr, ◌↔◌}
use mathlib.Core.Path.{◌≡◌, sym, ap₂, subst}
use Prim.Native.Nat.{ℕ, ◌+◌, ◌*◌, ◌/◌, ◌%◌, ◌<◌}
use native.Mathlib.Nat.{mod-lt}
use native.Mathlib.Omega.{arith}
use Rattle.knuth.specs.Pager.{Share, Cross, Compatible}
use Rattle.block.specs.Limits.{DOTS}
use Rattle.block.specs.Lists.{same}
use Rattle.block.specs.Sets.{In}
use Rattle.block.proofs.ListLaws.{and_both}
use Rattle.itemset.specs.Rows.{Row, same_rows, Present, Rows}
use Rattle.itemset.specs.Kernel.{kernel_of}
use Rattle.itemset.proofs.RowLaws.{split-item}
use Rattle.itemset.proofs.Fuel.{rows_is, rows_refl}
use Rattle.pager.specs.Lists.{pairwise}
use Rattle.pager.specs.Weak.{item_same, contexts, apart, compatible}
use Rattle.pager.specs.Rule6.{Rule6}
use Rattle.pager.proofs.Both.{SameItems, Both, items-test, test-items, items-swap, items-present, present-items, both_at, both-swap, both-present, both-token, token-both, both-fits, Pairs, pairwise-both, both-pairwise}
use Rattle.pager.proofs.Apart.{Apart, apart-iff, apart-swap}
use Rattle.pager.proofs.Union.{union-length, union-rows, union-kernel}

-- ---- an item by its production and dot
coded : (p d q e : ℕ) → d < DOTS → e < DOTS → DOTS * p + d ≡ DOTS * q + e → (p ≡ q) × (d ≡ e)
coded p d q e l k h = (omega arith, omega arith)

split : (P : ℕ → Type 0) (k : ℕ) → P k → P (DOTS * (k / DOTS) + k % DOTS)
split P k h = subst P (sym (split-item k)) h

join-item : (P : ℕ → Type 0) (k : ℕ) → P (DOTS * (k / DOTS) + k % DOTS) → P k
join-item P k h = subst P (split-item k) h

low : (k : ℕ) → k % DOTS < DOTS
low k = mod-lt k (omega arith)

tok-iff : (b : List ℕ) (K L : List Row) → Rows b K → (p d : ℕ) → d < DOTS → (s t : List ℕ) → Both (DOTS * p + d) s t K L
    → (w : ℕ) → (kernel_of K).tok p d w ↔ In s w
tok-iff b K L R p d l s t B w =
    (λ m. token-both 0 (DOTS * p + d) w s t K L R.ascend B m.1, λ m. (l, both-token (DOTS * p + d) w s t K L B m))

module _ (b : List ℕ) (K L : List Row) (RK : Rows b K) (RL : Rows b L) where
  -- ---- two items of both
  module _ (S : SameItems K L) (p d q e : ℕ) (l : d < DOTS) (k : e < DOTS) (s t u v : List ℕ)
      (B : Both (DOTS * p + d) s t K L) (C : Both (DOTS * q + e) u v K L) where
    words : (apart (s, t) (u, v) ≡ true) ↔ Apart s t u v
    words =
        apart-iff s t u v (both-fits _ s t K L RK.sets B).1 (both-fits _ t s L K RL.sets (both-swap _ s t K L S B)).1
        (both-fits _ u v K L RK.sets C).1

    -- the tokens of each, here and there
    s-tok : (w : ℕ) → (kernel_of K).tok p d w ↔ In s w
    s-tok = tok-iff b K L RK p d l s t B

    t-tok : (w : ℕ) → (kernel_of L).tok p d w ↔ In t w
    t-tok = tok-iff b L K RL p d l t s (both-swap _ s t K L S B)

    u-tok : (w : ℕ) → (kernel_of K).tok q e w ↔ In u w
    u-tok = tok-iff b K L RK q e k u v C

    v-tok : (w : ℕ) → (kernel_of L).tok q e w ↔ In v w
    v-tok = tok-iff b L K RL q e k v u (both-swap _ u v K L S C)

    abbrev Clear : Type 0
    Clear =
        (¬ (Cross (kernel_of K) (kernel_of L) p d q e ⊎ Cross (kernel_of K) (kernel_of L) q e p d))
        ⊎ (Share (kernel_of K) p d q e ⊎ Share (kernel_of L) p d q e)

    apart-clear : apart (s, t) (u, v) ≡ true → Clear
    apart-clear h =
        elim (words.0 h) [
          | inl n ↦
              inl
              (λ z.
              elim z [
                | inl c ↦ n (inl (c.0, (s-tok c.0).0 c.1, (v-tok c.0).0 c.2))
                | inr c ↦ n (inr (c.0, (u-tok c.0).0 c.1, (t-tok c.0).0 c.2))
              ])
          | inr (inl c) ↦ inr (inl (c.0, (s-tok c.0).1 c.1, (u-tok c.0).1 c.2))
          | inr (inr c) ↦ inr (inr (c.0, (t-tok c.0).1 c.1, (v-tok c.0).1 c.2))
        ]

    clear_apart : Clear → apart (s, t) (u, v) ≡ true
    clear_apart h =
        words.1
        (elim h [
          | inl n ↦
              inl
              (λ z.
              elim z [
                | inl c ↦ n (inl (c.0, (s-tok c.0).1 c.1, (v-tok c.0).1 c.2))
                | inr c ↦ n (inr (c.0, (u-tok c.0).1 c.1, (t-tok c.0).1 c.2))
              ])
          | inr (inl c) ↦ inr (inl (c.0, (s-tok c.0).0 c.1, (u-tok c.0).0 c.2))
          | inr (inr c) ↦ inr (inr (c.0, (t-tok c.0).0 c.1, (v-tok c.0).0 c.2))
        ])

  -- ---- the whole test
  pub weak-items : compatible K L ≡ true → SameItems K L
  unfolding compatible
  weak-items h = items-test K L (and_both (same item_same K L) (pairwise apart (contexts K L)) h).0

  pub weak-to : compatible K L ≡ true → Compatible (kernel_of K) (kernel_of L)
  unfolding compatible
  weak-to h =
      let S = weak-items h in
      let P : Pairs apart K L = pairwise-both apart apart-swap K L (and_both (same item_same K L) (pairwise apart (contexts K L)) h).1 in
      record {
        there = λ p d m. (m.0, items-present (DOTS * p + d) K L S m.1);
        here = λ p d m. (m.0, items-present (DOTS * p + d) L K (items-swap K L S) m.1);
        pairs =
            λ p d q e m n ne.
            let B = both_at (DOTS * p + d) K L S m.1 in
            let C = both_at (DOTS * q + e) K L S n.1 in
            apart-clear S p d q e m.0 n.0 B.0 B.1 C.0 C.1 B.2 C.2
            (P (DOTS * p + d) B.0 B.1 (DOTS * q + e) C.0 C.1 B.2 C.2 (λ z. ne (coded p d q e m.0 n.0 z)));
      }

  weak-from : Compatible (kernel_of K) (kernel_of L) → compatible K L ≡ true
  unfolding compatible
  weak-from c = ap₂ ◌&&◌ (test-items K L S) (both-pairwise apart apart-swap 0 K L RK.ascend pairs)
    where
      S : SameItems K L
      S =
          present-items 0 0 K L RK.ascend RL.ascend
          (λ k m. join-item (λ n. Present n L) k (c.there (k / DOTS) (k % DOTS) (low k, split (λ n. Present n K) k m)).1)
          (λ k m. join-item (λ n. Present n K) k (c.here (k / DOTS) (k % DOTS) (low k, split (λ n. Present n L) k m)).1)

      pairs : Pairs apart K L
      pairs k s t h u v B C ne =
          let B' = split (λ n. Both n s t K L) k B in
          let C' = split (λ n. Both n u v K L) h C in
          clear_apart S (k / DOTS) (k % DOTS) (h / DOTS) (h % DOTS) (low k) (low h) s t u v B' C'
          (c.pairs (k / DOTS) (k % DOTS) (h / DOTS) (h % DOTS) (low k, both-present _ s t K L B') (low h, both-present _ u v K L C')
          (λ z. ne (let z0 = z.0 in let z1 = z.1 in omega arith)))

pub rule-6 : (b : List ℕ) (K L : List Row) → Rows b K → Rows b L → Rule6 b K L
rule-6 b K L RK RL =
    record {
      equal = (rows_is K L, λ e. subst (λ r. same_rows K r ≡ true) e (rows_refl K));
      weak = (weak-to b K L RK RL, weak-from b K L RK RL);
      rows = λ h. union-rows b K L RK RL.sets;
      kernel = λ h. union-kernel K L (weak-items b K L RK RL h);
      size = union-length K L;
    }
