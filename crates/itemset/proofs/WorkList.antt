-- A work list that has nothing left to do has found the closure, whatever its order was. Assumes nothing.
use mathlib.Core.Bool.{Bool, true}
use mathlib.Core.List.{List}
use mathlib.Core.Logic.{inl, inr}
use mathlib.Core.Path.{◌≡◌, sym, subst}
use Prim.Native.Nat.{ℕ, ◌+◌, ◌*◌, ◌/◌, ◌%◌, ◌<◌}
use native.Mathlib.Decide.{ℕ_discrete}
use native.Mathlib.Omega.{arith}
use Rattle.knuth.specs.Closure.{Closed, Holds, Closing}
use Rattle.knuth.proofs.Least.{closed-least, holds-least}
use Rattle.block.specs.Limits.{WORDS, DOTS}
use Rattle.block.specs.Block.{prods}
use Rattle.block.specs.Sets.{In, Fits}
use Rattle.block.specs.Grammar.{grammar_of}
use Rattle.block.specs.First.{Ahead}
use Rattle.itemset.specs.Rows.{Row, Present, Token, Rows}
use Rattle.itemset.specs.Kernel.{kernel_of}
use Rattle.itemset.specs.Lay.{lay_from}
use Rattle.itemset.specs.Ready.{Ready}
use Rattle.itemset.specs.Opens.{Done}
use Rattle.itemset.proofs.RowLaws.{zero-item}
use Rattle.itemset.proofs.Has.{Has, has-present, present-has, has-token, token-has}
use Rattle.itemset.proofs.Inside.{Sound, kernel-inside}
use Rattle.itemset.proofs.Handing.{Handing, handing-closing}
use Rattle.itemset.proofs.LayRows.{lay-marked, lay-kept, lay-only}
use Rattle.itemset.proofs.LayRight.{Found}

-- a kernel's row is in its closure
pub kernel-sound : (b : List ℕ) (K : List Row) → Rows b K → (i : ℕ) (s : List ℕ) → Has i s K → Sound b (kernel_of K) i s
kernel-sound b K R i s h =
    let I = kernel-inside b K R in
    let m = has-present i s K h in
    record { below = I.below i m; item = I.items i m; tokens = λ t n. I.holds i t (has-token i t s K h n) }

module _ (b : List ℕ) (F : List Ahead) where
  -- what an item hands on stays in, as marks and contexts grow
  pub done-grows : (here here' : ℕ → Bool) (ctx ctx' : ℕ → List ℕ) → ((q : ℕ) → q < prods b → here q ≡ true → here' q ≡ true)
      → ((q : ℕ) → q < prods b → (t : ℕ) → In (ctx q) t → In (ctx' q) t) → (i : ℕ) (s : List ℕ) → Done b F here ctx i s → Done b F here' ctx' i s
  done-grows here here' ctx ctx' f g i s D =
      record { marks = λ q w o. f q o.below (D.marks q w o); members = λ q w o t m. g q o.below t (D.members q w o t m) }

  module _ (K : List Row) (here : ℕ → Bool) (ctx : ℕ → List ℕ) where
    -- nothing but the closure has come in; the kernel's items with dot 0 have; and what each other row and each marked production hands on
    pub record Settled : Type 0 where
      pub sound : (q : ℕ) → q < prods b → here q ≡ true → Closed (grammar_of b) (kernel_of K) q 0
      pub held : (q : ℕ) → q < prods b → (t : ℕ) → In (ctx q) t → Holds (grammar_of b) (kernel_of K) q 0 t
      pub fits : (q : ℕ) → q < prods b → Fits WORDS (ctx q)
      pub zero-mark : (q : ℕ) (s : List ℕ) → Has (DOTS * q) s K → here q ≡ true
      pub zero-set : (q : ℕ) (s : List ℕ) → Has (DOTS * q) s K → (t : ℕ) → In s t → In (ctx q) t
      pub rows : (i : ℕ) (s : List ℕ) → Has i s K → (i % DOTS ≡ 0 → ⊥) → Done b F here ctx i s
      pub productions : (p : ℕ) → p < prods b → here p ≡ true → Done b F here ctx (DOTS * p) (ctx p)

    module _ (ready : Ready b F) (R : Rows b K) (S : Settled) where
      abbrev laid : List Row
      laid = lay_from here ctx (prods b) 0 K

      marked-has : (q : ℕ) → q < prods b → here q ≡ true → Has (DOTS * q) (ctx q) laid
      marked-has q l h = lay-marked here ctx (prods b) q l h 0 K (omega arith)

      -- every laid row has handed on what it has
      laid_done : (i : ℕ) (s : List ℕ) → Has i s laid → Done b F here ctx i s
      laid_done i s m =
          elim (lay-only here ctx (prods b) i s 0 K m) [
            | inl c ↦
                subst (λ n. Done b F here ctx n s) (sym c.item)
                (subst (λ u. Done b F here ctx (DOTS * c.prod) u) (sym c.context) (S.productions c.prod c.below c.mark))
            | inr c ↦ S.rows i s c.0 c.1
          ]

      laid-handing : Handing b F laid
      laid-handing =
          record {
            items = λ i s m q w o. has-present (DOTS * q) (ctx q) laid (marked-has q o.below ((laid_done i s m).marks q w o));
            tokens = λ i s m q w o t n.
                let D = laid_done i s m in
                has-token (DOTS * q) t (ctx q) laid (marked-has q o.below (D.marks q w o)) (D.members q w o t n);
          }

      laid-below : (k : ℕ) → Present k laid → k / DOTS < prods b
      laid-below k m =
          let h = present-has k laid m in
          elim (lay-only here ctx (prods b) k h.0 0 K h.1) [
            | inl c ↦ let l = c.below in let e = c.item in omega arith
            | inr c ↦ (R.items k (has-present k h.0 K c.0)).prod
          ]

      -- the kernel's rows are among the laid ones
      row_laid : (k : ℕ) (s : List ℕ) → Has k s K → (u : List ℕ) × Has k u laid × ((t : ℕ) → In s t → In u t)
      row_laid k s m =
          elim (ℕ_discrete (k % DOTS) 0) [
            | yes e ↦
                let h = (zero-item (λ n. Has n s K) k e).0 m in
                let c = marked-has (k / DOTS) (R.items k (has-present k s K m)).prod (S.zero-mark (k / DOTS) s h) in
                (ctx (k / DOTS), (zero-item (λ n. Has n (ctx (k / DOTS)) laid) k e).1 c, λ t n. S.zero-set (k / DOTS) s h t n)
            | no d ↦ (s, lay-kept here ctx (prods b) k s d 0 K m, λ t n. n)
          ]

      item-laid : (k : ℕ) → Present k K → Present k laid
      item-laid k m =
          let r = present-has k K m in
          let c = row_laid k r.0 r.1 in
          has-present k c.0 laid c.1

      token-laid : (k t : ℕ) → Token k t K → Token k t laid
      token-laid k t m =
          let r = token-has k t K m in
          let c = row_laid k r.0 r.1 in
          has-token k t c.0 laid c.1 (c.2 t r.2)

      closing : Closing (grammar_of b) (kernel_of K) (kernel_of laid)
      closing =
          handing-closing b F ready laid laid-below laid-handing (kernel_of K)
          (record {
            items = λ p d h. (h.0, item-laid (DOTS * p + d) h.1);
            tokens = λ p d t h. (h.0, token-laid (DOTS * p + d) t h.1);
          })

      -- a laid row with dot 0 is a marked production
      zero-laid : (q : ℕ) (s : List ℕ) → Has (DOTS * q + 0) s laid → (here q ≡ true) × (s ≡ ctx q)
      zero-laid q s m =
          elim (lay-only here ctx (prods b) (DOTS * q + 0) s 0 K m) [
            | inl c ↦
                let e : c.prod ≡ q = (let z = c.item in omega arith) in
                (subst (λ n. here n ≡ true) e c.mark, subst (λ n. s ≡ ctx n) e c.context)
            | inr c ↦ absurd (c.1 (omega arith))
          ]

      pub settled-found : Found b K here ctx
      settled-found =
          record {
            marks = λ q l. (
              S.sound q l,
              λ c. let r = present-has (DOTS * q + 0) laid (closed-least (grammar_of b) closing c).1 in (zero-laid q r.0 r.1).0,
            );
            members = λ q l t. (
              S.held q l t,
              λ c. let r = token-has (DOTS * q + 0) t laid (holds-least (grammar_of b) closing c).1 in
                  subst (λ u. In u t) (zero-laid q r.0 r.1).1 r.2,
            );
            fits = S.fits;
          }
