-- What is known while a closure is at work is kept by every change to what is in the closure. Assumes nothing.
use mathlib.Core.Bool.{Bool, true, false, true≢false}
use mathlib.Core.List.{List}
use mathlib.Core.Logic.{◌⊎◌, inl, inr}
use mathlib.Core.Path.{◌≡◌, refl, sym, ◌∙◌, subst}
use Prim.Native.Nat.{ℕ, ◌*◌, ◌/◌, ◌<◌}
use Rattle.knuth.specs.Closure.{Closed, Holds}
use Rattle.block.specs.Limits.{WORDS, DOTS}
use Rattle.block.specs.Block.{prods}
use Rattle.block.specs.Grammar.{grammar_of}
use Rattle.block.specs.Sets.{In, Fits}
use Rattle.block.specs.First.{Ahead}
use Rattle.block.proofs.Joins.{In-join, In-join-left, join-fits}
use Rattle.itemset.specs.declared.closure.Closure.{Closure}
use Rattle.itemset.specs.Rows.{Row}
use Rattle.itemset.specs.Kernel.{kernel_of}
use Rattle.itemset.specs.Opens.{Done}
use Rattle.itemset.specs.Lay.{marks_of, contexts_of}
use Rattle.itemset.specs.Work.{todo_of, Sized, Same, Took, Entered, Working}
use Rattle.itemset.proofs.WorkList.{done-grows}

-- production q changed from y to z by what is in the closure of K
pub data Change (b : List ℕ) (K : List Row) (y z : Closure) (q : ℕ) : Type 0 where
  still : Same y z q → Change b K y z q
  took : (add : List ℕ) → Took add y z q → Closed (grammar_of b) (kernel_of K) q 0
      → ((t : ℕ) → In add t → Holds (grammar_of b) (kernel_of K) q 0 t) → Fits WORDS add → Change b K y z q

module _ (b : List ℕ) (K : List Row) (y z : Closure) (q : ℕ) where
  change-mark : Change b K y z q → marks_of y q ≡ true → marks_of z q ≡ true
  change-mark (still S) m = S.mark ∙ m
  change-mark (took add T c h f) m = T.mark

  change-set : Change b K y z q → (t : ℕ) → In (contexts_of y q) t → In (contexts_of z q) t
  change-set (still S) t m = subst (λ s. In s t) (sym S.set) m
  change-set (took add T c h f) t m = subst (λ s. In s t) (sym T.set) (In-join-left (contexts_of y q) add t m)

  -- what has not to be looked at is as it was
  pub change-same : Change b K y z q → todo_of z q ≡ false → Same y z q
  change-same (still S) n = S
  change-same (took add T c h f) n =
      elim T.todo [
        | inl e ↦ absurd (true≢false (sym e ∙ n))
        | inr e ↦ record { todo = e.0; mark = T.mark ∙ sym e.1; set = e.2 }
      ]

module _ (b : List ℕ) (F : List Ahead) (K : List Row) (n h : ℕ) where
  module _ (y z : Closure) (W : Working b F K n h y) (S : Sized z) (C : (q : ℕ) → q < prods b → Change b K y z q) where
    grown : (i : ℕ) (s : List ℕ) → Done b F (marks_of y) (contexts_of y) i s → Done b F (marks_of z) (contexts_of z) i s
    grown i s D =
        done-grows b F (marks_of y) (marks_of z) (contexts_of y) (contexts_of z) (λ q l. change-mark b K y z q (C q l))
        (λ q l. change-set b K y z q (C q l)) i s D

    entered : (i : ℕ) (s : List ℕ) → Entered b F (marks_of y) (contexts_of y) i s → Entered b F (marks_of z) (contexts_of z) i s
    entered i s E =
        record {
          below = E.below;
          zero-mark = λ e. change-mark b K y z (i / DOTS) (C (i / DOTS) E.below) (E.zero-mark e);
          zero-set = λ e t m. change-set b K y z (i / DOTS) (C (i / DOTS) E.below) t (E.zero-set e t m);
          more = λ d. grown i s (E.more d);
        }

    pub work-grows : Working b F K n h z
    work-grows =
        record {
          size = S;
          sound = λ q l m. elim (C q l) [ still T ↦ W.sound q l (sym T.mark ∙ m) | took add T c k f ↦ c ];
          held = λ q l t m. elim (C q l) [
            | still T ↦ W.held q l t (subst (λ s. In s t) T.set m)
            | took add T c k f ↦
                elim (In-join (contexts_of y q) add t (subst (λ s. In s t) T.set m)) [ inl o ↦ W.held q l t o | inr a ↦ k t a ]
          ];
          fits = λ q l. elim (C q l) [
            | still T ↦ subst (λ s. Fits WORDS s) (sym T.set) (W.fits q l)
            | took add T c k f ↦ subst (λ s. Fits WORDS s) (sym T.set) (join-fits WORDS (contexts_of y q) add (W.fits q l) f)
          ];
          marked = λ q l t. elim (C q l) [ still T ↦ T.mark ∙ W.marked q l (sym T.todo ∙ t) | took add T c k f ↦ T.mark ];
          each = λ p l m. one p l m (todo_of z p) refl;
          rows = λ k i s l e. entered i s (W.rows k i s l e);
        }
      where
        one : (p : ℕ) → p < prods b → marks_of z p ≡ true → (t : Bool) → todo_of z p ≡ t
            → (todo_of z p ≡ true) ⊎ (Done b F (marks_of z) (contexts_of z) (DOTS * p) (contexts_of z p) ⊎ (p ≡ h))
        one p l m true t = inl t
        one p l m false t =
            let T = change-same b K y z p (C p l) t in
            elim (W.each p l (sym T.mark ∙ m)) [
              | inl e ↦ absurd (true≢false (sym e ∙ sym T.todo ∙ t))
              | inr e ↦ inr (elim e [
                | inl D ↦ inl (subst (λ s. Done b F (marks_of z) (contexts_of z) (DOTS * p) s) (sym T.set) (grown (DOTS * p) (contexts_of y p) D))
                | inr g ↦ inr g
              ])
            ]
