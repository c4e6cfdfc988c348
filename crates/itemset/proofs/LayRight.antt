-- However the items with dot 0 and their contexts were found, in whatever order: laid out they are the closure's rows. Assumes nothing.
use mathlib.Core.Bool.{Bool, true}
use mathlib.Core.List.{List}
use mathlib.Core.Logic.{inl, inr, ◌↔◌}
use mathlib.Core.Path.{◌≡◌, refl, sym, ◌∙◌, subst}
use Prim.Native.Nat.{ℕ, ◌+◌, ◌*◌, ◌/◌, ◌%◌, ◌<◌}
use native.Mathlib.Decide.{ℕ_discrete}
use native.Mathlib.Omega.{arith}
use Rattle.knuth.specs.Closure.{Closed, Holds, holds-closed}
use Rattle.block.specs.Limits.{WORDS, DOTS}
use Rattle.block.specs.Block.{prods}
use Rattle.block.specs.Sets.{In, Fits}
use Rattle.block.specs.Grammar.{grammar_of}
use Rattle.block.specs.First.{Ahead}
use Rattle.itemset.specs.Rows.{Row, Present, Token, Rows}
use Rattle.itemset.specs.Kernel.{token-present, kernel_of}
use Rattle.itemset.specs.Close.{close_of}
use Rattle.itemset.specs.Lay.{lay_from, lay_of}
use Rattle.itemset.specs.Ready.{Ready}
use Rattle.itemset.proofs.RowLaws.{split-item, zero-dot, zero-item, Under, rows_ext}
use Rattle.itemset.proofs.Has.{has-present, present-has, has-token, token-has}
use Rattle.itemset.proofs.Fuel.{close-rows}
use Rattle.itemset.proofs.Rounds.{close-has, close-has-tok}
use Rattle.itemset.proofs.Rule2.{item-closed, token-holds, closed-item, holds-token}
use Rattle.itemset.proofs.LaySteps.{lay-start}
use Rattle.itemset.proofs.LayRows.{lay-from, lay-sets, lay-marked, lay-kept, lay-only}

-- marks and contexts of the productions are those of the closed items with dot 0
pub record Found (b : List ℕ) (K : List Row) (here : ℕ → Bool) (ctx : ℕ → List ℕ) : Type 0 where
  pub marks : (q : ℕ) → q < prods b → (here q ≡ true) ↔ Closed (grammar_of b) (kernel_of K) q 0
  pub members : (q : ℕ) → q < prods b → (t : ℕ) → In (ctx q) t ↔ Holds (grammar_of b) (kernel_of K) q 0 t
  pub fits : (q : ℕ) → q < prods b → Fits WORDS (ctx q)

-- another dot comes from the kernel alone
closed-kernel : (b : List ℕ) (K : List Row) {p d : ℕ} → Closed (grammar_of b) (kernel_of K) p d → (d ≡ 0 → ⊥) → Present (DOTS * p + d) K
closed-kernel b K (Closed.kernel h) n = h.1
closed-kernel b K (Closed.opened q c a l) n = absurd (n refl)

holds-kernel : (b : List ℕ) (K : List Row) {p d t : ℕ} → Holds (grammar_of b) (kernel_of K) p d t → (d ≡ 0 → ⊥) → Token (DOTS * p + d) t K
holds-kernel b K (Holds.kernel h) n = h.1
holds-kernel b K (Holds.first q c a l f) n = absurd (n refl)
holds-kernel b K (Holds.own q c a l f) n = absurd (n refl)

module _ (b : List ℕ) (F : List Ahead) (ready : Ready b F) (K : List Row) (R : Rows b K) (here : ℕ → Bool) (ctx : ℕ → List ℕ) (found : Found b K here ctx) where
  abbrev laid : List Row
  laid = lay_from here ctx (prods b) 0 K

  below : (k : ℕ) → Present k (close_of b F K) → k / DOTS < prods b
  below k m = ((close-rows b F ready K R).items k m).prod

  laid-under : Under laid (close_of b F K)
  laid-under = record { items = items; tokens = tokens }
    where
      items : (k : ℕ) → Present k laid → Present k (close_of b F K)
      items k m =
          let h = present-has k laid m in
          elim (lay-only here ctx (prods b) k h.0 0 K h.1) [
            | inl c ↦
                subst (λ n. Present n (close_of b F K)) (sym c.item)
                ((zero-dot (λ n. Present n (close_of b F K)) c.prod).1 (closed-item b F ready K R c.prod 0 ((found.marks c.prod c.below).0 c.mark)).1)
            | inr c ↦ close-has b F K k (has-present k h.0 K c.0)
          ]

      tokens : (k t : ℕ) → Token k t laid → Token k t (close_of b F K)
      tokens k t m =
          let h = token-has k t laid m in
          elim (lay-only here ctx (prods b) k h.0 0 K h.1) [
            | inl c ↦
                subst (λ n. Token n t (close_of b F K)) (sym c.item)
                ((zero-dot (λ n. Token n t (close_of b F K)) c.prod).1
                (holds-token b F ready K R c.prod 0 t ((found.members c.prod c.below t).0 (subst (λ s. In s t) c.context h.2))).1)
            | inr c ↦ close-has-tok b F K k t (has-token k t h.0 K c.0 h.2)
          ]

  under-laid : Under (close_of b F K) laid
  under-laid = record { items = items; tokens = tokens }
    where
      items : (k : ℕ) → Present k (close_of b F K) → Present k laid
      items k m =
          let c = item-closed b F ready K R k m in
          elim (ℕ_discrete (k % DOTS) 0) [
            | yes e ↦
                (zero-item (λ n. Present n laid) k e).1
                (has-present (DOTS * (k / DOTS)) (ctx (k / DOTS)) laid
                (lay-marked here ctx (prods b) (k / DOTS) (below k m)
                ((found.marks (k / DOTS) (below k m)).1 (subst (λ d. Closed (grammar_of b) (kernel_of K) (k / DOTS) d) e c)) 0 K (omega arith)))
            | no d ↦
                let h = present-has k K (subst (λ n. Present n K) (split-item k) (closed-kernel b K c d)) in
                has-present k h.0 laid (lay-kept here ctx (prods b) k h.0 d 0 K h.1)
          ]

      tokens : (k t : ℕ) → Token k t (close_of b F K) → Token k t laid
      tokens k t m =
          let c = token-holds b F ready K R k t m in
          let l = below k (token-present k t (close_of b F K) m) in
          elim (ℕ_discrete (k % DOTS) 0) [
            | yes e ↦
                let z = subst (λ d. Holds (grammar_of b) (kernel_of K) (k / DOTS) d t) e c in
                (zero-item (λ n. Token n t laid) k e).1
                (has-token (DOTS * (k / DOTS)) t (ctx (k / DOTS)) laid
                (lay-marked here ctx (prods b) (k / DOTS) l ((found.marks (k / DOTS) l).1 (holds-closed z)) 0 K (omega arith))
                ((found.members (k / DOTS) l t).1 z))
            | no d ↦
                let h = token-has k t K (subst (λ n. Token n t K) (split-item k) (holds-kernel b K c d)) in
                has-token k t h.0 laid (lay-kept here ctx (prods b) k h.0 d 0 K h.1) h.2
          ]

  pub lay-right : lay_of b here ctx K ≡ close_of b F K
  lay-right =
      let C = close-rows b F ready K R in
      lay-start b here ctx K
      ∙ rows_ext 0 laid (close_of b F K) (lay-from here ctx (prods b) 0 K 0 (λ l. omega arith) R.ascend)
      (lay-sets here ctx (prods b) found.fits 0 K R.sets) C.ascend C.sets laid-under under-laid
