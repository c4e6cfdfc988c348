-- A closure from its seeds to its rows. Assumes nothing.
use mathlib.Core.Bool.{true, true≢false}
use mathlib.Core.List.{List}
use mathlib.Core.Logic.{inl, inr}
use mathlib.Core.Path.{◌≡◌, refl, sym, ◌∙◌, subst}
use Prim.Native.Nat.{ℕ, ◌*◌}
use native.Mathlib.Omega.{arith}
use lib.ListN.{length, get_or}
use Rattle.block.specs.Limits.{DOTS}
use Rattle.block.specs.Block.{prods}
use Rattle.block.specs.Sets.{In}
use Rattle.block.specs.First.{Ahead, firsts_of}
use Rattle.itemset.specs.declared.closure.Closure.{Closure}
use Rattle.itemset.specs.Rows.{Row, row}
use Rattle.itemset.specs.Close.{close_of}
use Rattle.itemset.specs.Lay.{marks_of, contexts_of, lay_of}
use Rattle.itemset.specs.Work.{Entered, Working, NoneLeft, ForSeed}
use Rattle.itemset.proofs.Words.{item_of, context_of, no_row}
use Rattle.itemset.proofs.Has.{Has}
use Rattle.itemset.proofs.RowAt.{each_row}
use Rattle.itemset.proofs.WorkList.{Settled, settled-found}
use Rattle.itemset.specs.Lent.{ForClosure, ForLay, Wrote}
use Rattle.itemset.proofs.GoodReady.{good-ready}
use Rattle.itemset.proofs.LayRight.{lay-right}

-- when nothing is left to be looked at
work-settled : (b : List ℕ) (F : List Ahead) (K : List Row) (z : Closure) → Working b F K (length K) (prods b) z → NoneLeft b z
    → Settled b F K (marks_of z) (contexts_of z)
work-settled b F K z W none =
    record {
      sound = W.sound;
      held = W.held;
      fits = W.fits;
      zero-mark = λ q s m. subst (λ p. marks_of z p ≡ true) (omega arith) ((row_in (DOTS * q) s m).zero-mark (omega arith));
      zero-set = λ q s m t u. subst (λ p. In (contexts_of z p) t) (omega arith) ((row_in (DOTS * q) s m).zero-set (omega arith) t u);
      rows = λ i s m d. (row_in i s m).more d;
      productions = λ p l m. elim (W.each p l m) [
        | inl t ↦ absurd (true≢false (sym t ∙ none p l))
        | inr e ↦ elim e [ inl D ↦ D | inr g ↦ absurd (omega arith) ]
      ];
    }
  where
    eta : (r : Row) → r ≡ row (item_of r) (context_of r)
    eta (row i s) = refl

    row_in : (i : ℕ) (s : List ℕ) → Has i s K → Entered b F (marks_of z) (contexts_of z) i s
    row_in =
        each_row (λ i s. Entered b F (marks_of z) (contexts_of z) i s) K
        (λ k l. W.rows k (item_of (get_or K k no_row)) (context_of (get_or K k no_row)) l (eta (get_or K k no_row)))

module _ {b ws out : List ℕ} {K : List Row} (C : ForClosure b ws out K) where
  pub closure-seed : (z : Closure) → Working b (firsts_of b) K 0 (prods b) z → ForSeed b ws K z
  closure-seed z T = record { kernel = C.kernel; start = T }

  module _ (z : Closure) (T : Working b (firsts_of b) K (length K) (prods b) z) where
    pub closure-lay : ForLay b ws out (contexts_of z) K
    closure-lay = record { kernel = C.kernel; fits = T.fits; room = C.room }

    pub closure-wrote : NoneLeft b z → (n : ℕ) (after : List ℕ) → Wrote (lay_of b (marks_of z) (contexts_of z) K) n out after
        → Wrote (close_of b (firsts_of b) K) n out after
    closure-wrote none n after w =
        subst (λ rs. Wrote rs n out after)
        (lay-right b (firsts_of b) (good-ready C.kernel.good) K C.kernel.rows (marks_of z) (contexts_of z)
        (settled-found b (firsts_of b) K (marks_of z) (contexts_of z) (good-ready C.kernel.good) C.kernel.rows (work-settled b (firsts_of b) K z T none)))
        w
