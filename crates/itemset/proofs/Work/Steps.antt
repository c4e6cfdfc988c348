-- What is known while a closure is at work is kept by every step, and holds at the start. Assumes nothing.
use mathlib.Core.Bool.{Bool, true, false, true≢false}
use mathlib.Core.List.{List, []}
use mathlib.Core.Logic.{◌⊎◌, inl, inr}
use mathlib.Core.Path.{◌≡◌, refl, sym, ap, ◌∙◌, subst}
use Prim.Native.Nat.{ℕ, ◌+◌, ◌*◌, ◌/◌, ◌%◌, ◌≤◌, ◌<◌}
use native.Mathlib.Decide.{ℕ_discrete}
use native.Mathlib.Omega.{arith}
use lib.ListN.{get_or, replicate, get_or-replicate, length-replicate}
use Rattle.knuth.specs.Closure.{Closed, Holds}
use Rattle.block.specs.Limits.{WORDS, DOTS, PRODS}
use Rattle.block.specs.Block.{prods}
use Rattle.block.specs.Grammar.{grammar_of}
use Rattle.block.specs.Sets.{mem, In, Fits, empty}
use Rattle.block.specs.First.{Ahead, ahead_of}
use Rattle.block.specs.declared.set.TokenSet.{TokenSet}
use Rattle.block.proofs.ListLaws.{get_d-same}
use Rattle.block.proofs.SetLaws.{mem-empty, empty-fits}
use Rattle.block.proofs.Joins.{In-join-right}
use Rattle.itemset.specs.declared.closure.Closure.{Closure}
use Rattle.itemset.specs.Rows.{Row, row}
use Rattle.itemset.specs.Kernel.{kernel_of}
use Rattle.itemset.specs.Close.{handed}
use Rattle.itemset.specs.Ready.{Ready}
use Rattle.itemset.specs.Opens.{Done}
use Rattle.itemset.specs.Lay.{marks_of, contexts_of}
use Rattle.itemset.specs.Work.{todo_of, TookAt, HandedOn, Entered, Working}
use Rattle.itemset.proofs.Words.{item_of, context_of, no_row}
use Rattle.itemset.proofs.Handed.{handed-fits}
use Rattle.itemset.proofs.Inside.{Sound, opened, handed-holds}
use Rattle.itemset.proofs.Work.Offers.{opens-or}
use Rattle.itemset.proofs.Work.Cells.{unmark, unmark-size, unmark-other}
use Rattle.itemset.proofs.Work.Changes.{Change, still, took, change-same, work-grows}

module _ (b : List ℕ) (F : List Ahead) (K : List Row) (n h : ℕ) where
  -- ---- an item of the closure hands on what it has
  module _ (ready : Ready b F) (y z : Closure) (W : Working b F K n h y) (i : ℕ) (s : List ℕ) (S : Sound b (kernel_of K) i s) (f : Fits WORDS s)
      (H : HandedOn b F i s y z) where
    pub handed-change : (q : ℕ) → q < prods b → Change b K y z q
    handed-change q l =
        elim (opens-or b i q) [
          | inl o ↦
              took (handed s (ahead_of F o.0)) (H.took q o.0 o.1) (opened b (kernel_of K) F ready i s S q o.0 o.1)
              (handed-holds b (kernel_of K) F ready i s S q o.0 o.1) (handed-fits WORDS s (ahead_of F o.0) f (ready.fits o.0))
          | inr m ↦ still (H.left q m)
        ]

    pub handed-work : Working b F K n h z
    handed-work = work-grows b F K n h y z W H.size handed-change

    pub handed-done : Done b F (marks_of z) (contexts_of z) i s
    handed-done =
        record {
          marks = λ q w o. (H.took q w o).mark;
          members = λ q w o t m.
              subst (λ u. In u t) (sym (H.took q w o).set) (In-join-right (contexts_of y q) (handed s (ahead_of F w)) t m);
        }

  -- ---- the next row of the kernel is in
  pub row-work : (z : Closure) (i : ℕ) (s : List ℕ) → get_or K n no_row ≡ row i s → Working b F K n h z
      → Entered b F (marks_of z) (contexts_of z) i s → Working b F K (n + 1) h z
  row-work z i s r W E =
      record {
        size = W.size;
        sound = W.sound;
        held = W.held;
        fits = W.fits;
        marked = W.marked;
        each = W.each;
        rows = λ k j u l e. elim (ℕ_discrete k n) [
          | yes g ↦
              subst (λ v. Entered b F (marks_of z) (contexts_of z) (item_of v) (context_of v)) (sym r ∙ subst (λ m. get_or K m no_row ≡ row j u) g e) E
          | no d ↦ W.rows k j u (omega arith) e
        ];
      }

  -- ---- an item with dot 0 of the closure comes in, from y to z
  module _ (y : Closure) (W : Working b F K n h y) (i : ℕ) (s : List ℕ) (S : Sound b (kernel_of K) i s) (f : Fits WORDS s)
      (e : i % DOTS ≡ 0) (z : Closure) (T : TookAt (i / DOTS) s y z) where
    entered-change : (q : ℕ) → q < prods b → Change b K y z q
    entered-change q l =
        elim (ℕ_discrete q (i / DOTS)) [ yes g ↦ subst (λ p. Change b K y z p) (sym g) here | no d ↦ still (T.left q d) ]
      where
        here : Change b K y z (i / DOTS)
        here =
            took s T.took (subst (λ d. Closed (grammar_of b) (kernel_of K) (i / DOTS) d) e S.item)
            (λ t u. subst (λ d. Holds (grammar_of b) (kernel_of K) (i / DOTS) d t) e (S.tokens t u)) f

    pub entered-work : Working b F K n h z
    entered-work = work-grows b F K n h y z W T.size entered-change

    pub entered-zero : Entered b F (marks_of z) (contexts_of z) i s
    entered-zero =
        record {
          below = S.below;
          zero-mark = λ g. T.took.mark;
          zero-set = λ g t u. subst (λ w. In w t) (sym T.took.set) (In-join-right (contexts_of y (i / DOTS)) s t u);
          more = λ d. absurd (d e);
        }

-- ---- the start: nothing is in
pub start-work : (b : List ℕ) (F : List Ahead) (K : List Row) → prods b ≤ PRODS → (none : TokenSet) → none.words ≡ empty
    → Working b F K 0 (prods b) (record { todo = replicate PRODS false; here = replicate PRODS false; contexts = replicate PRODS none })
start-work b F K m none e =
    record {
      size = record { todo = length-replicate PRODS false; here = length-replicate PRODS false; contexts = length-replicate PRODS none };
      sound = λ q l t. absurd (true≢false (sym t ∙ get_d-same PRODS q false));
      held = λ q l t i. absurd (true≢false (sym i ∙ ap (λ (s : List ℕ). mem s t) (ctx q l) ∙ mem-empty t));
      fits = λ q l. subst (λ s. Fits WORDS s) (sym (ctx q l)) empty-fits;
      marked = λ q l t. absurd (true≢false (sym t ∙ get_d-same PRODS q false));
      each = λ p l t. absurd (true≢false (sym t ∙ get_d-same PRODS p false));
      rows = λ k i s l. absurd (omega arith);
    }
  where
    ctx : (q : ℕ) → q < prods b → (get_or (replicate PRODS none) q (record { words = [] })).words ≡ empty
    ctx q l = ap (λ (t : TokenSet). t.words) (get_or-replicate PRODS q none (record { words = [] }) (omega arith)) ∙ e

module _ (b : List ℕ) (F : List Ahead) (K : List Row) (n : ℕ) where
  -- ---- a production is taken into the hand
  module _ (z : Closure) (W : Working b F K n (prods b) z) (p : ℕ) (k : p < PRODS) where
    pub hand-work : todo_of z p ≡ true → Working b F K n p (unmark z W.size p k)
    hand-work t =
        record {
          size = unmark-size z W.size p k;
          sound = W.sound;
          held = W.held;
          fits = W.fits;
          marked = λ q l u. elim (ℕ_discrete q p) [
            | yes g ↦ W.marked q l (subst (λ m. todo_of z m ≡ true) (sym g) t)
            | no d ↦ W.marked q l (sym (unmark-other z W.size p k q d).todo ∙ u)
          ];
          each = λ q l m. elim (ℕ_discrete q p) [
            | yes g ↦ inr (inr g)
            | no d ↦ elim (W.each q l m) [
              | inl u ↦ inl ((unmark-other z W.size p k q d).todo ∙ u)
              | inr e ↦ inr (elim e [ inl D ↦ inl D | inr g ↦ absurd (omega arith) ])
            ]
          ];
          rows = W.rows;
        }

  -- ---- and out of it, having handed on what it had
  pub off-work : (p : ℕ) (y z : Closure) → Working b F K n p z → Change b K y z p
      → Done b F (marks_of z) (contexts_of z) (DOTS * p) (contexts_of y p) → Working b F K n (prods b) z
  off-work p y z W C D =
      record {
        size = W.size;
        sound = W.sound;
        held = W.held;
        fits = W.fits;
        marked = W.marked;
        each = λ q l m. elim (W.each q l m) [
          | inl t ↦ inl t
          | inr e ↦ elim e [
            | inl E ↦ inr (inl E)
            | inr g ↦
                elim (own (todo_of z p) refl) [
                  | inl t ↦ inl (subst (λ k. todo_of z k ≡ true) (sym g) t)
                  | inr E ↦ inr (inl (subst (λ k. Done b F (marks_of z) (contexts_of z) (DOTS * k) (contexts_of z k)) (sym g) E))
                ]
          ]
        ];
        rows = W.rows;
      }
    where
      own : (t : Bool) → todo_of z p ≡ t → (todo_of z p ≡ true) ⊎ Done b F (marks_of z) (contexts_of z) (DOTS * p) (contexts_of z p)
      own true t = inl t
      own false t = inr (subst (λ s. Done b F (marks_of z) (contexts_of z) (DOTS * p) s) (sym (change-same b K y z p C t).set) D)
