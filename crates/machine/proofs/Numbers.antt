-- The numbers that the call `run` refuses with. Assumes nothing.
use mathlib.Core.Bool.{Bool, true, false, cond}
use mathlib.Core.List.{List, [], ◌∷◌}
use mathlib.Core.Logic.{◌⊎◌, inl, inr}
use mathlib.Core.Option.{Option, none, some}
use mathlib.Core.Path.{◌≡◌, refl, ap, subst}
use Prim.Native.Nat.{ℕ, zero, suc, ◌+◌, ◌≤◌, ◌<◌}
use native.Mathlib.Omega.{arith}
use lib.ListN.{length}
use Rattle.knuth.specs.Limits.{Ended}
use Rattle.block.specs.Refusal.{refusal_of}
use Rattle.pager.specs.Lists.{find, Answer, is, refused, unless}
use Rattle.pager.specs.Call.{or_else}
use Rattle.pager.proofs.Refusals.{refusal-most}
use Rattle.machine.specs.Call.{Call, is_short, turned_away, bad_token, machine_of, unless_bad, run_call}
use Rattle.machine.specs.Exactly.{ClaimNumbers}

abbrev Numbered : Call → Answer Ended → Type 0
Numbered a (is e) = Unit {0}
Numbered a (refused why) = ((n : ℕ) × (why ≡ n ∷ []) × (1 ≤ n) × (n ≤ 7)) ⊎ ((i : ℕ) × (why ≡ 13 ∷ i ∷ []) × (i < length a.input))

away-most : (a : Call) → turned_away a ≤ 7
unfolding turned_away
away-most a = go (refusal_of a.block) (refusal-most a.block) (is_short a)
  where
    go : (n : ℕ) → n ≤ 6 → (t : Bool) → or_else n (cond t 7 0) ≤ 7
    go zero h true = omega arith
    go zero h false = omega arith
    go (suc n) h t = omega arith

abbrev Isnt : Option ℕ → Type 0
Isnt none = Unit {0}
Isnt (some i) = ⊥

found_inside : (f : ℕ → Bool) (n : ℕ) (xs : List ℕ) (i : ℕ) → find f n xs ≡ some i → i < n + length xs
unfolding find
found_inside f n [] i e = absurd (subst Isnt e tt)
found_inside f n (x ∷ xs) i e = go (λ q. found_inside f (suc n) xs i q) (f x) e
  where
    go : (find f (suc n) xs ≡ some i → i < suc n + length xs) → (y : Bool) → ◌≡◌ {A = Option ℕ} (elim y [ true ↦ some n | false ↦ find f (suc n) xs ]) (some i) → i < n + suc (length xs)
    go rec true q = let k : n ≡ i = ap (λ (o : Option ℕ). elim o [ none ↦ n | some j ↦ j ]) q in omega arith
    go rec false q = let k = rec q in omega arith

numbered : (a : Call) → Numbered a (run_call a)
unfolding run_call machine_of
numbered a = go (turned_away a) (away-most a)
  where
    found : (o : Option ℕ) → find (bad_token a.block) 0 a.input ≡ o → Numbered a (unless_bad o (machine_of a))
    found none e = tt
    found (some i) e = inr (i, refl, let k = found_inside (bad_token a.block) 0 a.input i e in omega arith)

    go : (n : ℕ) → n ≤ 7 → Numbered a (unless n (unless_bad (find (bad_token a.block) 0 a.input) (machine_of a)))
    go zero h = found (find (bad_token a.block) 0 a.input) refl
    go (suc n) h = inl (suc n, refl, omega arith, h)

pub run-numbers : ClaimNumbers
run-numbers a why e = subst (Numbered a) e (numbered a)
