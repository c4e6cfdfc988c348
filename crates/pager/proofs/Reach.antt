-- The marks of rule 7: they end before their fuel, and mark exactly the states that edges lead to from state 0. Assumes nothing.
use mathlib.Core.Bool.{Bool, true, false, true≢false, beq}
use mathlib.Core.List.{List, ◌∷◌}
use mathlib.Core.Logic.{inl, inr, ◌↔◌}
use mathlib.Core.Path.{◌≡◌, refl, sym, ap, ◌∙◌, subst}
use Prim.Native.Nat.{ℕ, zero, suc, ◌-◌, ◌<◌}
use native.Mathlib.Omega.{arith}
use lib.ListN.{length, get_or, replicate, length-replicate}
use Rattle.block.specs.Lists.{same}
use Rattle.block.proofs.ListLaws.{same-is, same_refl, get_d-same}
use Rattle.block.proofs.Settle.{settle-keeps, settle-fixed}
use Rattle.pager.specs.Place.{State}
use Rattle.pager.specs.Graph.{nowhere}
use Rattle.pager.specs.Collect.{spread, reach_of}
use Rattle.pager.specs.Collecting.{count}
use Rattle.pager.specs.Rule7.{Reachable, Edges}
use Rattle.pager.proofs.Marks.{mark-only, spread-keeps, spread-stays, spread-length, spread-sets, count-le, count-grows}

-- ---- marks compared
beq-is : (a c : Bool) → beq a c ≡ true → a ≡ c
beq-is true true e = refl
beq-is true false e = absurd (true≢false (sym e))
beq-is false true e = absurd (true≢false (sym e))
beq-is false false e = refl

beq-refl : (a : Bool) → beq a a ≡ true
beq-refl true = refl
beq-refl false = refl

marks-is : (ms ns : List Bool) → same beq ms ns ≡ true → ms ≡ ns
marks-is = same-is beq beq-is

-- ---- all rounds
module _ (ss : List State) (E : Edges ss) where
  abbrev begin : List Bool
  begin = true ∷ replicate (length ss - 1) false

  -- as many marks as states, the first set, and what is set is reachable
  record Marked (ms : List Bool) : Type 0 where
    size : length ms ≡ length ss
    zeroth : get_or ms 0 false ≡ true
    right : (k : ℕ) → get_or ms k false ≡ true → Reachable ss k

  begin-marked : Marked begin
  begin-marked =
      record {
        size = let h = E.some in omega (arith, length-replicate {A = Bool} (length ss - 1) false);
        zeroth = refl;
        right = λ k. only k;
      }
    where
      only : (k : ℕ) → get_or begin k false ≡ true → Reachable ss k
      only zero e = Reachable.start
      only (suc k) e = absurd (true≢false (sym e ∙ get_d-same (length ss - 1) k false))

  round-marked : (ms : List Bool) → Marked ms → Marked (spread ms ss ms)
  round-marked ms M =
      record {
        size = spread-length ms ss ms ∙ M.size;
        zeroth = spread-stays ms ss ms 0 M.zeroth;
        right =
            spread-keeps (λ ns. (k : ℕ) → get_or ns k false ≡ true → Reachable ss k) ms ss ms
            (λ n i ns q r k e.
            elim (mark-only ns (get_or (get_or ss n nowhere).edges i 0) k e) [ inl h ↦ Reachable.step i (M.right n q) h | inr h ↦ r k h ])
            M.right;
      }

  reach-marked : Marked (reach_of ss)
  unfolding reach_of
  reach-marked = settle-keeps (same beq) (λ ms. spread ms ss ms) Marked round-marked (length ss) begin begin-marked

  -- the last round changed nothing
  pub reach-fixed : spread (reach_of ss) ss (reach_of ss) ≡ reach_of ss
  unfolding reach_of
  reach-fixed =
      marks-is _ _
      (settle-fixed (same beq) (λ ms. spread ms ss ms) Marked round-marked (λ ms. length ss - count ms) less (length ss) begin begin-marked
      (omega arith))
    where
      less : (ms : List Bool) → Marked ms → same beq (spread ms ss ms) ms ≡ false → length ss - count (spread ms ss ms) < length ss - count ms
      less ms M e =
          elim (count-grows ms (spread ms ss ms) (spread-length ms ss ms) (λ k. spread-stays ms ss ms k)) [
            | inl q ↦ absurd (true≢false (sym (ap (λ ns. same beq ns ms) q ∙ same_refl beq beq-refl ms) ∙ e))
            | inr l ↦ let h = count-le (spread ms ss ms) in let k = spread-length ms ss ms in let j = M.size in omega arith
          ]

  pub reach-size : length (reach_of ss) ≡ length ss
  reach-size = reach-marked.size

  -- a state that edges lead to is marked
  reached : {n : ℕ} → Reachable ss n → get_or (reach_of ss) n false ≡ true
  reached Reachable.start = reach-marked.zeroth
  reached (Reachable.step {n} {t} i r e) =
      subst (λ ns. get_or ns t false ≡ true) reach-fixed
      (spread-sets (reach_of ss) ss (reach_of ss) n i t (reached r) e (let l = E.low n i in let z = reach-size in omega arith))

  pub reach-iff : (n : ℕ) → (get_or (reach_of ss) n false ≡ true) ↔ Reachable ss n
  reach-iff n = (reach-marked.right n, λ r. reached r)
