-- The rounds of rule 1 end before their fuel; so firsts_of is nullable and FIRST. Assumes nothing.
use mathlib.Core.Bool.{true, true≢false}
use mathlib.Core.List.{List, map}
use mathlib.Core.Path.{◌≡◌, refl, sym, ap, ◌∙◌, subst}
use Prim.Native.Nat.{ℕ, ◌-◌, ◌<◌}
use native.Mathlib.Omega.{arith}
use lib.ListN.{get_or, replicate}
use Rattle.knuth.specs.First.{First, Nullable}
use Rattle.knuth.proofs.First.{nullable-iff, first-iff}
use Rattle.knuth.proofs.Least.{nullable-rule, first-rule}
use Rattle.block.specs.Limits.{WORDS}
use Rattle.block.specs.Lists.{upto, same}
use Rattle.block.specs.Block.{prods, rules, rule_of, body_of}
use Rattle.block.specs.Grammar.{symbol, grammar_of}
use Rattle.block.specs.Sets.{In, Fits}
use Rattle.block.specs.First.{Ahead, is_null, first_in, nothing, ahead_of, round_of, firsts_of, ahead_same, Small}
use Rattle.block.specs.Rule1.{Rule1}
use Rattle.block.proofs.ListLaws.{upto-among, upto-only, get_d-same}
use Rattle.block.proofs.Settle.{settle-keeps, settle-fixed}
use Rattle.block.proofs.Ahead.{empty-none, Under, under-refl}
use Rattle.block.proofs.FirstRight.{Sound, ahead-null, ahead-first, round-sound, round-has, null-back, first_back}
use Rattle.block.proofs.FirstGrows.{total, fuel, ahead-fits, aheads-is, Sized, round-sized, start-sized, firsts-settle, round-less}

module _ (b : List ℕ) (bodies : (p : ℕ) → p < prods b → Small (body_of b p)) (lhs-in : (p : ℕ) → p < prods b → rule_of b p < rules b) where
  record Inv (F : List Ahead) : Type 0 where
    sized : Sized b F
    sound : Sound b F

  keep-inv : (F : List Ahead) → Inv F → Inv (round_of b F)
  keep-inv F I = record { sized = round-sized b F I.sized; sound = round-sound b bodies (upto (prods b)) (upto-only (prods b)) F I.sound }

  start-inv : Inv (replicate (rules b) nothing)
  start-inv =
      record {
        sized = start-sized b;
        sound = record {
          nulls = λ r e. absurd (true≢false (sym e ∙ ap is_null (get_d-same (rules b) r nothing)));
          firsts = λ r t m. absurd (empty-none t (subst (λ a. In (first_in a) t) (get_d-same (rules b) r nothing) m));
        };
      }

  inv : Inv (firsts_of b)
  inv = subst Inv (sym (firsts-settle b)) (settle-keeps (same ahead_same) (round_of b) Inv keep-inv (fuel b) (replicate (rules b) nothing) start-inv)

  fixed : round_of b (firsts_of b) ≡ firsts_of b
  fixed =
      subst (λ F. round_of b F ≡ F) (sym (firsts-settle b))
      (aheads-is _ _
      (settle-fixed (same ahead_same) (round_of b) Inv keep-inv (λ F. fuel b - total F) (λ F I e. round-less b F I.sized e) (fuel b) (replicate (rules b) nothing) start-inv (omega arith)))

  has : (q : ℕ) → q < prods b → Under (ahead_of (firsts_of b) (body_of b q)) (get_or (firsts_of b) (rule_of b q) nothing)
  has q l =
      subst (λ F. Under (ahead_of (firsts_of b) (body_of b q)) (get_or F (rule_of b q) nothing)) fixed
      (round-has b q (upto (prods b)) (upto-among (prods b) q l) (firsts_of b) (firsts_of b) (λ r. under-refl (get_or (firsts_of b) r nothing)) (let s = inv.sized.size in let k = lhs-in q l in omega arith))

  null_of : (w : List ℕ) → Nullable (grammar_of b) (map symbol w) → is_null (ahead_of (firsts_of b) w) ≡ true
  null_of w n = null-back b bodies (firsts_of b) has ((nullable-iff (grammar_of b) (map symbol w)).0 n) w refl

  first_of : (w : List ℕ) → Small w → (t : ℕ) → First (grammar_of b) (map symbol w) t → In (first_in (ahead_of (firsts_of b) w)) t
  first_of w s t f = first_back b bodies (firsts_of b) has ((first-iff (grammar_of b) (map symbol w) t).0 f) w s refl

  -- rule 1
  pub firsts-right : Rule1 b (firsts_of b)
  firsts-right =
      record {
        null = λ w s. (λ e. ahead-null b (firsts_of b) inv.sound w e, λ n. null_of w n);
        first = λ w s t. (λ m. ahead-first b (firsts_of b) inv.sound w s t m, λ f. first_of w s t f);
        rule-null = λ r. (inv.sound.nulls r, λ n. let (p, l, e, k) = (nullable-rule (grammar_of b) r).0 n in subst (λ r. is_null (get_or (firsts_of b) r nothing) ≡ true) e ((has p l).nulls (null_of (body_of b p) k)));
        rule-first = λ r t. (inv.sound.firsts r t, λ f. let (p, l, e, k) = (first-rule (grammar_of b) r t).0 f in subst (λ r. In (first_in (get_or (firsts_of b) r nothing)) t) e ((has p l).firsts t (first_of (body_of b p) (bodies p l) t k)));
      }

  pub firsts-fit : (w : List ℕ) → Fits WORDS (first_in (ahead_of (firsts_of b) w))
  firsts-fit w = ahead-fits (firsts_of b) inv.sized.fits w
