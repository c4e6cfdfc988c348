-- EXACTLY: on the tables of a checked automaton the call `run` accepts what is derivable and nothing else, and meets no bad table. Assumes nothing.
use mathlib.Core.Bool.{Bool, true, false}
use mathlib.Core.List.{List, []}
use mathlib.Core.Logic.{◌⊎◌, inl, inr}
use mathlib.Core.Option.{Option, none, some}
use mathlib.Core.Path.{◌≡◌, refl, sym, ap, ◌∙◌, subst}
use Prim.Native.Nat.{ℕ, zero, suc, ◌+◌, ◌≤◌, ◌<◌}
use native.Mathlib.Omega.{arith}
use borrow.Author.Tests.{le-ltb}
use lib.Dec.{leb}
use lib.ListN.{length, get_or}
use lib.Seq.{drop-cons}
use Rattle.knuth.specs.Grammar.{Grammar}
use Rattle.knuth.specs.Tables.{Tables}
use Rattle.knuth.specs.Automaton.{tables}
use Rattle.knuth.specs.Demand3.{Demand3}
use Rattle.knuth.specs.Machine.{Config, at, Outcome, goes, accepted, rejected, bad-table, next, Input, Reaches}
use Rattle.knuth.specs.Limits.{Limits, Why, Ended, ended, Step, moves, stops, fits, within, machine, height, outs}
use Rattle.knuth.proofs.Lists.{drop-mem}
use Rattle.knuth.proofs.Demand3.{checked-demand3}
use Rattle.knuth.proofs.Runs.{ran, ended-steps}
use Rattle.knuth.proofs.Same.{same-run}
use Rattle.block.specs.Grammar.{grammar_of}
use Rattle.block.specs.Refusal.{Good}
use Rattle.block.proofs.Valid.{good-valid}
use Rattle.pager.specs.Lists.{find, Answer, is, refused, unless}
use Rattle.statetable.specs.Read.{tables_in}
use Rattle.machine.specs.Moves.{lent}
use Rattle.machine.specs.Call.{Call, room_short, turned_away, bad_token, machine_of, unless_bad, run_call}
use Rattle.machine.specs.Exactly.{Roomy, ClaimExactly, ClaimSteps}
use Rattle.pager.proofs.CallLaws as tests
use Rattle.pager.proofs.ByIndex.{find-nowhere, found_nowhere}
use Rattle.machine.proofs.Tokens.{passed, not-bad}
use Rattle.machine.proofs.CallWays as ways

-- ---- an answer of the machine is one that no refusal came before
abbrev Isnt : Answer Ended → Type 0
Isnt (is e) = ⊥
Isnt (refused why) = Unit {0}

abbrev end_of : Ended → Answer Ended → Ended
end_of d (is e) = e
end_of d (refused why) = d

module _ (a : Call) where
  abbrev G : Grammar
  G = grammar_of a.block

  abbrev T : Tables
  T = tables_in a.block a.states a.actions a.gotos

  abbrev L : Limits
  L = lent a.limit a.stack a.output

  answered : (e : Ended) → run_call a ≡ is e → Input G a.input × (machine G T L a.input ≡ e)
  unfolding run_call machine_of
  answered e q = first (turned_away a) q
    where
      second : (o : Option ℕ) → find (bad_token a.block) 0 a.input ≡ o → unless_bad o (is (machine G T L a.input)) ≡ is e
          → Input G a.input × (machine G T L a.input ≡ e)
      second (some i) f z = absurd (subst Isnt z tt)
      second none f z = (passed a.block a.input f, ap (end_of e) z)

      first : (n : ℕ) → unless n (unless_bad (find (bad_token a.block) 0 a.input) (is (machine G T L a.input))) ≡ is e
          → Input G a.input × (machine G T L a.input ≡ e)
      first (suc n) z = absurd (subst Isnt z tt)
      first zero z = second (find (bad_token a.block) 0 a.input) refl z

-- the steps
pub run-steps : ClaimSteps
run-steps a why n c q = ended-steps (G a) (T a) (L a) a.input why n c (answered a (ended why n c) q).1

-- ---- nothing is refused that has room
tokens-fine : (b w : List ℕ) → Input (grammar_of b) w → (j : ℕ) → j < length w → bad_token b (get_or w j 0) ≡ false
tokens-fine b w i j l =
    let t = i (get_or w j 0) (drop-mem j w (drop-cons w j 0 l)) in
    not-bad b (get_or w j 0) t.0 t.1

roomy-run : (a : Call) (k : ℕ) → Good a.block → 1 ≤ a.states → Roomy a k → Input (grammar_of a.block) a.input → run_call a ≡ machine_of a
unfolding room_short
roomy-run a k g s R i =
    ways.ran a g.unrefused
    (sym (tests.next _ _ _ false s
    (tests.next _ _ _ false R.states-most
    (tests.next _ _ _ false R.actions-long
    (tests.next _ _ _ false R.gotos-long
    (tests.next _ _ _ false R.few-tokens
    (tests.next _ _ _ false R.few-steps
    (sym (le-ltb (length a.stack) 1 (let h = R.allows.1 in omega arith)) ∙ tests.last (length a.stack) 1)))))))
    )
    (found_nowhere (bad_token a.block) 0 a.input (length a.input) (find-nowhere (bad_token a.block) 0 a.input (length a.input) refl (tokens-fine a.block a.input i)) (omega arith))

-- ---- a bad table is met only where the step is one
abbrev IsBad : Step → Type 0
IsBad (moves c) = ⊥
IsBad (stops Why.accept) = ⊥
IsBad (stops Why.reject) = ⊥
IsBad (stops Why.bad) = Unit {0}
IsBad (stops Why.stack-room) = ⊥
IsBad (stops Why.output-room) = ⊥
IsBad (stops Why.out-of-steps) = ⊥

only-bad : (L : Limits) (o : Outcome) → within L o ≡ stops Why.bad → o ≡ bad-table
only-bad L bad-table e = refl
only-bad L rejected e = absurd (subst IsBad (sym e) tt)
only-bad L (accepted ρ) e = absurd (subst IsBad (sym e) tt)
only-bad L (goes c) e = absurd (go (leb (length (outs c)) L.output) (leb (height c) L.stack) e)
  where
    go : (x y : Bool) → fits x y c ≡ stops Why.bad → ⊥
    go false y z = subst IsBad (sym z) tt
    go true false z = subst IsBad (sym z) tt
    go true true z = subst IsBad (sym z) tt

as-machine : (a : Call) → machine_of a ≡ is (machine (G a) (T a) (L a) a.input)
unfolding machine_of
as-machine a = refl

-- EXACTLY
pub exactly : ClaimExactly
exactly a A good C h =
    record {
      accepted-derivable = λ n c q. let r = answered a (ended Why.accept n c) q in D.sound (L a) a.input n c r.0 (sym (same r.0) ∙ r.1);
      one-derivation = λ ps qs d d'. (D.one a.input ps qs d d').0;
      derivable-accepted =
          λ ρ d R.
          let i = ((D.exact a.input ρ (suc (length a.input + length ρ))).1 (d, refl)).0 in
          let r = D.enough (L a) a.input ρ d R.allows in
          (r.0, roomy-run a (length ρ) good some-states R i ∙ is-machine ∙ ap is (same i ∙ r.1), r.2);
      no-bad-table =
          λ n c q.
          let r = answered a (ended Why.bad n c) q in
          let x = ran (G a) (tables A) (L a) a.limit 0 n (at zero [] a.input []) c Why.bad (sym (same r.0) ∙ r.1) in
          never c r.0 x.steps x.runs x.why;
    }
  where
    D : Demand3 (G a) A
    D = checked-demand3 (G a) (good-valid good) A C

    some-states : 1 ≤ a.states
    some-states = subst (λ (n : ℕ). zero < n) (sym h.states) C.some-state

    same : Input (G a) a.input → machine (G a) (T a) (L a) a.input ≡ machine (G a) (tables A) (L a) a.input
    same i = same-run (G a) (good-valid good) (T a) (tables A) h some-states (L a) a.input i

    is-machine : machine_of a ≡ is (machine (G a) (T a) (L a) a.input)
    is-machine = as-machine a

    never : (c : Config) → Input (G a) a.input → (m : ℕ) → Reaches (G a) (tables A) m (at zero [] a.input []) c
        → ((Why.bad ≡ Why.out-of-steps) × (m ≡ a.limit)) ⊎ (within (L a) (next (G a) (tables A) c) ≡ stops Why.bad) → ⊥
    never c i m r (inl w) = subst IsBad (ap stops w.0) tt
    never c i m r (inr w) = D.safe a.input m c i r (only-bad (L a) (next (G a) (tables A) c) w)
