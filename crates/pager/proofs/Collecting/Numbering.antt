-- Marks become numbers, in order: the s first states are done. Assumes nothing.
use mathlib.Core.Bool.{Bool, true, false, true≢false}
use mathlib.Core.List.{List, [], ◌∷◌}
use mathlib.Core.Path.{◌≡◌, refl, sym, ap, ◌∙◌}
use Prim.Native.Nat.{ℕ, zero, suc, ◌+◌, ◌*◌, ◌/◌, ◌≤◌, ◌<◌}
use native.Mathlib.Omega.{arith}
use native.Mathlib.Decide.{dec_lt}
use native.Mathlib.Numerals.{add-one}
use lib.ListN.{length, get_or, set}
use lib.Seq.{set-get_or, get_or-set_same, get_or-set_other}
use Rattle.pager.specs.Collect.{rank}
use Rattle.pager.specs.Collecting.{flags_of, Renumbered}
use Rattle.pager.proofs.Ranks.{rank-zero}
use Rattle.pager.proofs.Collecting.Flags.{flags-fit, flag_true, flag-false, flag-set, true_below}

-- ---- one state more
rank-marked : (ms : List Bool) (n : ℕ) → get_or ms n false ≡ true → rank ms (suc n) ≡ suc (rank ms n)
unfolding rank
rank-marked [] n e = absurd (true≢false (sym e))
rank-marked (true ∷ ms) zero e = ap suc (rank-zero ms)
rank-marked (false ∷ ms) zero e = absurd (true≢false (sym e))
rank-marked (true ∷ ms) (suc n) e = ap suc (rank-marked ms n e)
rank-marked (false ∷ ms) (suc n) e = rank-marked ms n e

rank-unmarked : (ms : List Bool) (n : ℕ) → get_or ms n false ≡ false → rank ms (suc n) ≡ rank ms n
unfolding rank
rank-unmarked [] n e = refl
rank-unmarked (true ∷ ms) zero e = absurd (true≢false e)
rank-unmarked (false ∷ ms) zero e = rank-zero ms
rank-unmarked (true ∷ ms) (suc n) e = ap suc (rank-unmarked ms n e)
rank-unmarked (false ∷ ms) (suc n) e = rank-unmarked ms n e

rank-small : (ms : List Bool) (n : ℕ) → rank ms n ≤ n
unfolding rank
rank-small [] n = omega arith
rank-small (m ∷ ms) zero = omega arith
rank-small (true ∷ ms) (suc n) = let h = rank-small ms n in omega arith
rank-small (false ∷ ms) (suc n) = let h = rank-small ms n in omega arith

pub record Numbering (marks₀ marks : List ℕ) (kept s : ℕ) : Type 0 where
  pub count : kept ≡ rank (flags_of marks₀) s
  pub flags : flags_of marks ≡ flags_of marks₀
  pub done : (k : ℕ) → k < s → get_or (flags_of marks₀) k false ≡ true → get_or marks (2 * k) 0 ≡ suc (rank (flags_of marks₀) k)

pub number-none : (marks : List ℕ) → Numbering marks marks 0 0
number-none marks = record { count = sym (rank-zero (flags_of marks)); flags = refl; done = λ k l. absurd (omega arith) }

module _ (marks₀ marks : List ℕ) (kept s : ℕ) (N : Numbering marks₀ marks kept s) where
  abbrev ms : List Bool
  ms = flags_of marks₀

  pub number_small : kept ≤ s
  number_small = omega (arith, N.count, rank-small ms s)

  pub number-all : length marks₀ / 2 ≤ s → Renumbered marks₀ marks
  number-all l = record { flags = N.flags; numbers = λ k e. N.done k (omega (arith, true_below ms k e, flags-fit marks₀)) e }

  module _ (low : 2 * s + 1 < length marks) where
    pub number-marked : (get_or marks (2 * s) 0 ≡ 0 → ⊥) → Numbering marks₀ (set marks (2 * s) (kept + 1)) (kept + 1) (s + 1)
    number-marked n =
        record {
          count = rw (add-one, add-one, rank-marked ms s flag) (ap suc N.count);
          flags = flag-set marks s (kept + 1) low (omega arith) ∙ ap (set (flags_of marks) s) (sym still) ∙ set-get_or (flags_of marks) s false ∙ N.flags;
          done = λ k l e. at k l e (dec_lt k s);
        }
      where
        still : get_or (flags_of marks) s false ≡ true
        still = flag_true marks s low n

        flag : get_or ms s false ≡ true
        flag = ap (λ q. get_or q s false) (sym N.flags) ∙ still

        at : (k : ℕ) → k < s + 1 → get_or ms k false ≡ true → Dec (k < s) → get_or (set marks (2 * s) (kept + 1)) (2 * k) 0 ≡ suc (rank ms k)
        at k l e (yes h) = get_or-set_other marks (2 * s) (2 * k) (kept + 1) 0 (λ q. omega arith) ∙ N.done k h e
        at k l e (no h) =
            let z : k ≡ s = omega arith in
            rw z (get_or-set_same marks (2 * s) (kept + 1) 0 (omega arith) ∙ rw (add-one, N.count) refl)

    pub number-unmarked : get_or marks (2 * s) 0 ≡ 0 → Numbering marks₀ marks kept (s + 1)
    number-unmarked z =
        record {
          count = rw (add-one, rank-unmarked ms s flag) N.count;
          flags = N.flags;
          done = λ k l e. at k l e (dec_lt k s);
        }
      where
        flag : get_or ms s false ≡ false
        flag = ap (λ q. get_or q s false) (sym N.flags) ∙ flag-false marks s low z

        at : (k : ℕ) → k < s + 1 → get_or ms k false ≡ true → Dec (k < s) → get_or marks (2 * k) 0 ≡ suc (rank ms k)
        at k l e (yes h) = N.done k h e
        at k l e (no h) = let q : k ≡ s = omega arith in absurd (true≢false (sym e ∙ ap (λ i. get_or ms i false) q ∙ flag))
