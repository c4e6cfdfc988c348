-- What the array holds after one production, and what the answer tells. Assumes nothing.
use mathlib.Core.Bool.{Bool, true, false, true≢false, ◌&&◌, ◌||◌, not, beq}
use mathlib.Core.List.{List, [], ◌∷◌}
use mathlib.Core.Logic.Iff
use mathlib.Core.Logic.{◌↔◌}
use mathlib.Core.Path.{◌≡◌, refl, sym, ap, ap₂, ◌∙◌, subst}
use Prim.Native.Nat.{ℕ, zero, suc, ◌≤◌, ◌<◌}
use native.Mathlib.Decide.{ℕ_discrete}
use native.Mathlib.Omega.{arith}
use borrow.Author.Tests.{not-false}
use lib.Dec.{eqb}
use lib.ListN.{get_or, length, set}
use lib.Pointwise.{pointwise, bytes_decides}
use lib.Seq.{get_or-set_same, get_or-set_other}
use Rattle.block.specs.Limits.{WORDS, RULES}
use Rattle.block.specs.Lists.{change}
use Rattle.block.specs.Block.{rules, rule_of, body_of}
use Rattle.block.specs.Sets.{join}
use Rattle.block.specs.First.{Ahead, ahead, is_null, first_in, nothing, either, ahead_of, add_prod, Small}
use Rattle.block.specs.Firsts.{unread, AheadsAre, Rounded}
use Rattle.block.specs.declared.lookahead.Lookahead.{Lookahead}
use Rattle.block.proofs.ListLaws.{change-at, change-other}
use Rattle.block.proofs.Joins.{length-join}
use Rattle.block.proofs.AheadRest.{words_at, null_at, aheads_at, aheads_of, ahead-size}

change-fixed : (f : Ahead → Ahead) (n : ℕ) (F : List Ahead) → f (get_or F n nothing) ≡ get_or F n nothing → change f n F ≡ F
unfolding change
change-fixed f n [] e = refl
change-fixed f zero (x ∷ F) e = ap {B = List Ahead} (λ y. y ∷ F) e
change-fixed f (suc n) (x ∷ F) e = ap {B = List Ahead} (λ y. x ∷ y) (change-fixed f n F e)

either-parts : (m n : Bool) (s t : List ℕ) → either (ahead m s) (ahead n t) ≡ ahead (m || n) (join s t)
unfolding either
either-parts m n s t = refl

module _ (b : List ℕ) (p : ℕ) (F : List Ahead) (A : List Lookahead) (S : AheadsAre A F) (size : length F ≡ rules b) (below : rule_of b p < rules b) (most : rules b ≤ RULES) where
  module _ (m : Bool) (s : List ℕ) (e : ahead_of F (body_of b p) ≡ ahead m s) where
    -- what the rule has afterwards
    now-has : either (get_or F (rule_of b p) nothing) (ahead_of F (body_of b p)) ≡ ahead (null_at A (rule_of b p) || m) (join (words_at A (rule_of b p)) s)
    now-has = ap₂ either (aheads_at F A S.rule (rule_of b p) (omega arith)) e ∙ either-parts (null_at A (rule_of b p)) m (words_at A (rule_of b p)) s

    pub add-are : length A ≡ RULES → Small (body_of b p) → (x : Lookahead) → x.null ≡ (null_at A (rule_of b p) || m) → x.set.words ≡ join (words_at A (rule_of b p)) s
        → AheadsAre (set A (rule_of b p) x) (add_prod b F p)
    unfolding add_prod
    add-are full small x en ew =
        aheads_of (add_prod b F p) _ (λ r l. wide r l (ℕ_discrete r (rule_of b p))) (λ r l. at r l (ℕ_discrete r (rule_of b p)))
      where
        same : get_or (set A (rule_of b p) x) (rule_of b p) unread ≡ x
        same = get_or-set_same A (rule_of b p) x unread (omega arith)

        wide : (r : ℕ) → r < RULES → Dec (r ≡ rule_of b p) → length (words_at (set A (rule_of b p) x) r) ≡ WORDS
        wide r l (yes q) =
            ap (λ k. length (words_at (set A (rule_of b p) x) k)) q ∙ ap (λ y. length y.set.words) same ∙ ap length ew
            ∙ omega (arith, length-join (words_at A (rule_of b p)) s, S.size (rule_of b p) (omega arith), sym (ap (λ a. length (first_in a)) e) ∙ ahead-size F A S (body_of b p) small)
        wide r l (no d) = ap (λ y. length y.set.words) (get_or-set_other A (rule_of b p) r x unread d) ∙ S.size r l

        at : (r : ℕ) → r < RULES → Dec (r ≡ rule_of b p) → get_or (add_prod b F p) r nothing ≡ ahead (null_at (set A (rule_of b p) x) r) (words_at (set A (rule_of b p) x) r)
        at r l (yes q) =
            ap (λ k. get_or (add_prod b F p) k nothing) q
            ∙ change-at (λ y. either y (ahead_of F (body_of b p))) nothing (rule_of b p) F (omega arith)
            ∙ now-has
            ∙ sym (ap (λ k. ahead (null_at (set A (rule_of b p) x) k) (words_at (set A (rule_of b p) x) k)) q
            ∙ ap₂ {C = Ahead} ahead (ap (λ y. y.null) same ∙ en) (ap (λ y. y.set.words) same ∙ ew))
        at r l (no d) =
            change-other (λ y. either y (ahead_of F (body_of b p))) nothing (rule_of b p) F r d
            ∙ aheads_at F A S.rule r l
            ∙ sym (ap (λ y. ahead y.null y.set.words) (get_or-set_other A (rule_of b p) r x unread d))

    -- nothing is new just when the mark stood and the union is what was there
    pub add-still : (add_prod b F p ≡ F) ↔ (((null_at A (rule_of b p) || m) ≡ null_at A (rule_of b p)) × (join (words_at A (rule_of b p)) s ≡ words_at A (rule_of b p)))
    unfolding add_prod
    add-still = (
      λ g.
          let h : ahead (null_at A (rule_of b p) || m) (join (words_at A (rule_of b p)) s) ≡ ahead (null_at A (rule_of b p)) (words_at A (rule_of b p)) =
          sym now-has ∙ sym (change-at (λ x. either x (ahead_of F (body_of b p))) nothing (rule_of b p) F (omega arith)) ∙ ap (λ G. get_or G (rule_of b p) nothing) g ∙ aheads_at F A S.rule (rule_of b p) (omega arith) in
          (ap is_null h, ap first_in h),
      λ h. change-fixed (λ x. either x (ahead_of F (body_of b p))) (rule_of b p) F
          (now-has ∙ ap₂ {C = Ahead} ahead h.0 h.1 ∙ sym (aheads_at F A S.rule (rule_of b p) (omega arith))),
    )

-- what the code makes of the array and answers, by the names of its locals
pub became-add : (b : List ℕ) (p : ℕ) → rule_of b p < rules b → rules b ≤ RULES → Small (body_of b p) → (F : List Ahead) (A : List Lookahead) → length F ≡ rules b → AheadsAre A F
    → length A ≡ RULES → (r : ℕ) → r ≡ rule_of b p → (m : Bool) (s : List ℕ) → ahead_of F (body_of b p) ≡ ahead m s
    → (x : Lookahead) → x.null ≡ (null_at A r || m) → x.set.words ≡ join (words_at A r) s
    → (g : Bool) → ((g ≡ false) ↔ (((null_at A r || m) ≡ null_at A r) × (join (words_at A r) s ≡ words_at A r))) → Rounded F (add_prod b F p) g (set A r x)
became-add b p below most small F A size S full r q m s e x en ew g told =
    subst (λ (k : ℕ). x.null ≡ (null_at A k || m) → x.set.words ≡ join (words_at A k) s → ((g ≡ false) ↔ (((null_at A k || m) ≡ null_at A k) × (join (words_at A k) s ≡ words_at A k)))
    → Rounded F (add_prod b F p) g (set A k x)) (sym q)
    (λ n w t. record {
      are = add-are b p F A S size below most m s e full small x n w;
      still = Iff.trans t (Iff.symm (add-still b p F A S size below most m s e));
    }) en ew told

-- the answer is whether the new entry is another than the old one
told-pair : (v w q : Bool) {J : Type 0} → (q ≡ true) ↔ J → (not (beq v w && q) ≡ false) ↔ ((v ≡ w) × J)
told-pair true true q h = (λ n. (refl, h.0 (not-false q n)), λ k. ap not (h.1 k.1))
told-pair false false q h = (λ n. (refl, h.0 (not-false q n)), λ k. ap not (h.1 k.1))
told-pair true false q h = (λ n. absurd (true≢false n), λ k. absurd (true≢false k.0))
told-pair false true q h = (λ n. absurd (true≢false n), λ k. absurd (true≢false (sym k.0)))

pub told-differ : (v v' w : Bool) (xs xs' ys : List ℕ) (g : Bool) → v ≡ v' → xs ≡ xs' → g ≡ not (beq v w && pointwise eqb xs ys) → (g ≡ false) ↔ ((v' ≡ w) × (xs' ≡ ys))
told-differ v v' w xs xs' ys g ev ex eg =
    subst (λ (u : Bool). (g ≡ false) ↔ ((u ≡ w) × (xs' ≡ ys))) ev
    (subst (λ (u : List ℕ). (g ≡ false) ↔ ((v ≡ w) × (u ≡ ys))) ex
    (subst (λ (u : Bool). (u ≡ false) ↔ ((v ≡ w) × (xs ≡ ys))) (sym eg) (told-pair v w (pointwise eqb xs ys) (bytes_decides xs ys))))
