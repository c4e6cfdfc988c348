-- Where a text was read whole and none differs, each line holds. Assumes nothing.
use mathlib.Core.List.{List}
use mathlib.Core.Path.{◌≡◌}
use Prim.Native.Nat.{ℕ, zero, suc, ◌≤◌}
use native.Mathlib.Omega.{arith}
use lib.ListN.{length}
use Rattle.words.specs.Words.{end, next_word}
use Rattle.replay.specs.Tally.{Counted, spent, ended, faulted, held, differed, AllHold, none_left, one_more, ClaimAll}

module _ (list : ℕ) (text : List ℕ) where
  -- no count grows smaller
  grows : (t k c d q a w : ℕ) → Counted list text t k c d q a w → d ≤ w
  grows zero k c d q a w (spent _ _ _) = omega arith
  grows (suc t) k c d q a w (ended _ _ _ _ e) = omega arith
  grows (suc t) k c d q a w (faulted _ _ _ _ p e) = omega arith
  grows (suc t) k c d q a w (held _ _ _ _ p _ _ _ e n) = grows t p (suc c) d q a w n
  grows (suc t) k c d q a w (differed _ _ _ _ p _ _ _ e n) = omega (arith, grows t p (suc c) (suc d) q a w n)

  all : (t k c d q a w : ℕ) → Counted list text t k c d q a w → next_word text q ≡ end → w ≡ d → AllHold list text k
  all zero k c d q a w (spent _ _ _) z s = none_left k z
  all (suc t) k c d q a w (ended _ _ _ _ e) z s = none_left k z
  all (suc t) k c d q a w (faulted _ _ _ _ p e) z s = none_left k z
  all (suc t) k c d q a w (held _ _ _ _ p _ _ _ e n) z s = one_more k p e (all t p (suc c) d q a w n z s)
  all (suc t) k c d q a w (differed _ _ _ _ p _ _ _ e n) z s = absurd (omega (arith, s, grows t p (suc c) (suc d) q a w n))

pub all_hold : ClaimAll
all_hold list text r e w d = all list text (length text) 0 0 0 e.place r.cases r.differ e.counted (e.whole.0 w) d
