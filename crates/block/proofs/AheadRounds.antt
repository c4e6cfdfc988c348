-- What the array holds after a round, and after all rounds. Assumes nothing.
use mathlib.Core.Bool.{Bool, true, false, true≢false}
use mathlib.Core.List.{List, [], ◌∷◌, foldl}
use mathlib.Core.Logic.{inl, inr, ◌↔◌}
use mathlib.Core.Path.{◌≡◌, refl, sym, ap, ap₂, ◌∙◌, subst}
use Prim.Native.Nat.{ℕ, zero, suc, ◌+◌, ◌-◌, ◌≤◌, ◌<◌}
use native.Mathlib.Numerals.{add-one}
use native.Mathlib.Omega.{arith}
use lib.ListN.{get_or, length, replicate}
use Rattle.block.specs.Limits.{RULES}
use Rattle.block.specs.Lists.{from, upto, settle, same}
use Rattle.block.specs.Block.{rules}
use Rattle.block.specs.Sets.{empty}
use Rattle.block.specs.First.{Ahead, ahead, nothing, add_prod, round_of, firsts_of, ahead_same}
use Rattle.block.specs.Firsts.{AheadsAre, Rounded}
use Rattle.block.specs.declared.lookahead.Lookahead.{Lookahead}
use Rattle.block.proofs.ListLaws.{fold-upto, foldl-keeps, get_d-same}
use Rattle.block.proofs.Settle.{settle-done, settle-more}
use Rattle.block.proofs.SetLaws.{empty-fits}
use Rattle.block.proofs.FirstRight.{add-size}
use Rattle.block.proofs.AheadRest.{words_at, null_at, aheads_at, aheads_of}
use Rattle.block.proofs.FirstGrows.{total, aheads-is, aheads-refl, fuel, Sized, round-sized, start-sized, firsts-settle, Grown, add-grows, fold-grown, round-less}

-- ---- one round
module _ (b : List ℕ) where
  -- after the first p productions
  abbrev pub up_to : ℕ → List Ahead → List Ahead
  up_to p F = foldl (add_prod b) F (upto p)

  pub up_to-size : (p : ℕ) (F : List Ahead) → length F ≡ rules b → length (up_to p F) ≡ rules b
  up_to-size p F h = foldl-keeps (add_prod b) (λ G. length G ≡ rules b) (λ G q k. add-size b G q ∙ k) (upto p) F h

  pub became-none : (F : List Ahead) (A : List Lookahead) → AheadsAre A F → Rounded F (up_to 0 F) false A
  unfolding upto from
  became-none F A S = record { are = S; still = (λ e. refl, λ e. refl) }

  pub became-next : (p : ℕ) (F : List Ahead) (g h k : Bool) (A : List Lookahead) → ((g ≡ false) ↔ (up_to p F ≡ F)) → Rounded (up_to p F) (add_prod b (up_to p F) p) h A
      → (h ≡ true → k ≡ true) → (h ≡ false → k ≡ g) → Rounded F (up_to (p + 1) F) k A
  became-next p F g h k A old B yes-new no-new =
      subst (λ G. Rounded F G k A) (sym (ap (λ (n : ℕ). foldl (add_prod b) F (upto n)) (add-one p) ∙ fold-upto (add_prod b) p F))
      (record { are = B.are; still = (λ e. onward h refl e, λ e. back e (add-grows b (up_to p F) p) (fold-grown b (upto p) F)) })
    where
      G : List Ahead
      G = add_prod b (up_to p F) p

      onward : (c : Bool) → h ≡ c → k ≡ false → G ≡ F
      onward true q e = absurd (true≢false (sym (yes-new q) ∙ e))
      onward false q e = B.still.0 q ∙ old.0 (sym (no-new q) ∙ e)

      back : G ≡ F → Grown b (up_to p F) G → Grown b F (up_to p F) → k ≡ false
      back e (inl q) i = let z = B.still.1 q in no-new z ∙ old.1 (sym q ∙ e)
      back e (inr l) (inl q) = absurd (let z : total G ≡ total (up_to p F) = ap total (e ∙ sym q) in omega arith)
      back e (inr l) (inr n) = absurd (let z : total G ≡ total F = ap total e in omega arith)

-- ---- all rounds
-- what the rooms hold of n rules from k on
unfoldable pub back_read : ℕ → ℕ → List Lookahead → List Ahead
back_read k zero A = []
back_read k (suc n) A = ahead (null_at A k) (words_at A k) ∷ back_read (suc k) n A

read-from : (A : List Lookahead) (n k : ℕ) (F : List Ahead) → length F ≡ n
    → ((r : ℕ) → r < n → get_or F r nothing ≡ ahead (null_at A (k + r)) (words_at A (k + r))) → F ≡ back_read k n A
unfolding back_read
read-from A zero k [] e h = refl
read-from A zero k (a ∷ F) e h = absurd (omega arith)
read-from A (suc n) k [] e h = absurd (omega arith)
read-from A (suc n) k (a ∷ F) e h =
    ap₂ {C = List Ahead} (λ y ys. y ∷ ys) (h 0 (omega arith) ∙ ap (λ (i : ℕ). ahead (null_at A i) (words_at A i)) (let z : k + 0 ≡ k = omega arith in z))
    (read-from A n (suc k) F (omega arith)
    (λ r l. h (suc r) (omega arith) ∙ ap (λ (i : ℕ). ahead (null_at A i) (words_at A i)) (let z : k + suc r ≡ suc k + r = omega arith in z)))

-- a stored list is what the rooms hold
pub aheads_is : (n : ℕ) (F : List Ahead) (A : List Lookahead) → n ≤ RULES → length F ≡ n → AheadsAre A F → F ≡ back_read 0 n A
aheads_is n F A m e S =
    read-from A n 0 F e (λ r l. aheads_at F A S.rule r (omega arith) ∙ ap (λ (i : ℕ). ahead (null_at A i) (words_at A i)) (let z : r ≡ 0 + r = omega arith in z))

-- the array holds F, and the rounds that are left from it end as all of them do
pub record Rounds (b : List ℕ) (A : List Lookahead) : Type 0 where
  pub held : List Ahead
  pub left : ℕ
  pub are : AheadsAre A held
  pub sized : Sized b held
  pub enough : fuel b - total held ≤ left
  pub ends : firsts_of b ≡ settle (same ahead_same) (round_of b) left held

-- what may still be added
unfoldable pub room : List ℕ → List Lookahead → ℕ
room b A = fuel b - total (back_read 0 (rules b) A)

pub rounds-start : (b : List ℕ) (A : List Lookahead) → ((r : ℕ) → r < RULES → (null_at A r ≡ false) × (words_at A r ≡ empty)) → Rounds b A
rounds-start b A none =
    record {
      held = replicate (rules b) nothing;
      left = fuel b;
      are = aheads_of _ A (λ r l. ap length (none r l).1 ∙ empty-fits.0) (λ r l. get_d-same (rules b) r nothing ∙ ap₂ {C = Ahead} ahead (sym (none r l).0) (sym (none r l).1));
      sized = start-sized b;
      enough = omega arith;
      ends = firsts-settle b;
    }

module _ (b : List ℕ) (A : List Lookahead) (R : Rounds b A) (A' : List Lookahead) where
  -- a round that was new is one of those left
  module _ (B : Rounded R.held (round_of b R.held) true A') where
    differ : same ahead_same (round_of b R.held) R.held ≡ false
    differ = go (same ahead_same (round_of b R.held) R.held) refl
      where
        go : (c : Bool) → same ahead_same (round_of b R.held) R.held ≡ c → c ≡ false
        go false q = refl
        go true q = B.still.1 (aheads-is (round_of b R.held) R.held q)

    falls : fuel b - total (round_of b R.held) < fuel b - total R.held
    falls = round-less b R.held R.sized differ

    pub rounds-next : Rounds b A'
    rounds-next =
        record {
          held = round_of b R.held;
          left = R.left - 1;
          are = B.are;
          sized = round-sized b R.held R.sized;
          enough = omega (arith, falls, R.enough);
          ends = R.ends
              ∙ ap (λ (n : ℕ). settle (same ahead_same) (round_of b) n R.held) (let z : R.left ≡ suc (R.left - 1) = omega (arith, falls, R.enough) in z)
              ∙ settle-more (same ahead_same) (round_of b) (R.left - 1) R.held differ;
        }

    pub rounds-less : rules b ≤ RULES → room b A' < room b A
    unfolding room
    rounds-less most =
        let old : total R.held ≡ total (back_read 0 (rules b) A) = ap total (aheads_is (rules b) R.held A most R.sized.size R.are) in
        let new : total (round_of b R.held) ≡ total (back_read 0 (rules b) A') =
        ap total (aheads_is (rules b) (round_of b R.held) A' most (round-sized b R.held R.sized).size B.are) in
        omega (arith, falls)

  -- one that was not is the last
  pub rounds-done : Rounded R.held (round_of b R.held) false A' → AheadsAre A' (firsts_of b)
  rounds-done B =
      let e : round_of b R.held ≡ R.held = B.still.0 refl in
      let f : firsts_of b ≡ R.held =
      R.ends ∙ settle-done (same ahead_same) (round_of b) R.left R.held (ap (λ G. same ahead_same G R.held) e ∙ aheads-refl R.held) in
      subst (AheadsAre A') (e ∙ sym f) B.are
