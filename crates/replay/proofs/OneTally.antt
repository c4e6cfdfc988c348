-- A text has one tally. Assumes nothing.
use mathlib.Core.Bool.{Bool, true, false}
use mathlib.Core.List.{List}
use mathlib.Core.Logic.{◌↔◌}
use mathlib.Core.Path.{◌≡◌, refl, sym, subst}
use Prim.Native.Nat.{ℕ, zero, suc}
use lib.ListN.{take, length}
use Rattle.replay.specs.Lists.{LineCase}
use Rattle.replay.specs.Tally.{line_at, Counted, spent, ended, faulted, held, differed, ClaimOne}
use Rattle.replay.proofs.Readings.{same_place, same_count, not_end, not-fault}

-- where a count stops, and what it has come to
pub record Same (q a w q' a' w' : ℕ) : Type 0 where
  pub place : q ≡ q'
  pub cases : a ≡ a'
  pub differ : w ≡ w'

module _ (list : ℕ) (text : List ℕ) where
  one : (t k c d q a w q' a' w' : ℕ) → Counted list text t k c d q a w → Counted list text t k c d q' a' w' → Same q a w q' a' w'
  one zero k c d q a w q' a' w' (spent _ _ _) (spent _ _ _) = record { place = refl; cases = refl; differ = refl }
  one (suc t) k c d q a w q' a' w' (ended _ _ _ _ e) (ended _ _ _ _ f) = record { place = refl; cases = refl; differ = refl }
  one (suc t) k c d q a w q' a' w' (ended _ _ _ _ e) (faulted _ _ _ _ p f) = record { place = refl; cases = refl; differ = refl }
  one (suc t) k c d q a w q' a' w' (ended _ _ _ _ e) (held _ _ _ _ p _ _ _ f m) = absurd (not_end f.1 e)
  one (suc t) k c d q a w q' a' w' (ended _ _ _ _ e) (differed _ _ _ _ p _ _ _ f m) = absurd (not_end f.1 e)
  one (suc t) k c d q a w q' a' w' (faulted _ _ _ _ o e) (ended _ _ _ _ f) = record { place = refl; cases = refl; differ = refl }
  one (suc t) k c d q a w q' a' w' (faulted _ _ _ _ o e) (faulted _ _ _ _ p f) = record { place = refl; cases = refl; differ = refl }
  one (suc t) k c d q a w q' a' w' (faulted _ _ _ _ o e) (held _ _ _ _ p _ _ _ f m) = absurd (not-fault f.1 e)
  one (suc t) k c d q a w q' a' w' (faulted _ _ _ _ o e) (differed _ _ _ _ p _ _ _ f m) = absurd (not-fault f.1 e)
  one (suc t) k c d q a w q' a' w' (held _ _ _ _ o _ _ _ e n) (ended _ _ _ _ f) = absurd (not_end e.1 f)
  one (suc t) k c d q a w q' a' w' (held _ _ _ _ o _ _ _ e n) (faulted _ _ _ _ p f) = absurd (not-fault e.1 f)
  one (suc t) k c d q a w q' a' w' (held _ _ _ _ o _ _ _ e n) (held _ _ _ _ p _ _ _ f m) =
      one t o (suc c) d q a w q' a' w' n (subst (λ x. Counted list text t x (suc c) d q' a' w') (same_place e.1 f.1) m)
  one (suc t) k c d q a w q' a' w' (held _ _ _ _ o _ _ _ e n) (differed _ _ _ _ p _ _ _ f m) =
      absurd (f.2 (subst (λ x. LineCase list (take x (line_at text k).1)) (same_count f.1 e.1) e.2))
  one (suc t) k c d q a w q' a' w' (differed _ _ _ _ o _ _ _ e n) (ended _ _ _ _ f) = absurd (not_end e.1 f)
  one (suc t) k c d q a w q' a' w' (differed _ _ _ _ o _ _ _ e n) (faulted _ _ _ _ p f) = absurd (not-fault e.1 f)
  one (suc t) k c d q a w q' a' w' (differed _ _ _ _ o _ _ _ e n) (held _ _ _ _ p _ _ _ f m) =
      absurd (e.2 (subst (λ x. LineCase list (take x (line_at text k).1)) (same_count e.1 f.1) f.2))
  one (suc t) k c d q a w q' a' w' (differed _ _ _ _ o _ _ _ e n) (differed _ _ _ _ p _ _ _ f m) =
      one t o (suc c) (suc d) q a w q' a' w' n (subst (λ x. Counted list text t x (suc c) (suc d) q' a' w') (same_place e.1 f.1) m)

-- two answers with one meaning are one
same_answer : {P : Type 0} (x y : Bool) → (x ≡ true) ↔ P → (y ≡ true) ↔ P → x ≡ y
same_answer true true i j = refl
same_answer false false i j = refl
same_answer true false i j = sym (j.1 (i.0 refl))
same_answer false true i j = i.1 (j.0 refl)

pub tally-one : ClaimOne
tally-one list text r r' e f =
    let s = one list text (length text) 0 0 0 e.place r.cases r.differ f.place r'.cases r'.differ e.counted f.counted in
    let w = same_answer r.whole r'.whole e.whole (rw s.place f.whole) in
    λ i. record { cases = s.cases i; differ = s.differ i; whole = w i }
