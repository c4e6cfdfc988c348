-- DEMAND 3 of the calls `build` and `run`: a clean build's tables are those of a checked automaton, and on these `run` accepts exactly what is derivable.
-- Assumes nothing.
use mathlib.Core.Bool.{Bool, true, false, cond}
use mathlib.Core.List.{List}
use mathlib.Core.Path.{◌≡◌, refl, sym, ap, subst, ◌∙◌}
use Prim.Native.Nat.{ℕ, zero, suc, ◌+◌, ◌*◌, ◌<◌}
use native.Mathlib.Nat.{suc-mul, mul-le-mul_right}
use native.Mathlib.Omega.{arith}
use lib.ListN.{length}
use Rattle.knuth.specs.Tables.{Agree}
use Rattle.knuth.specs.Automaton.{tables}
use Rattle.knuth.specs.Demand3 as theory
use Rattle.knuth.proofs.Demand3.{checked-demand3}
use Rattle.block.specs.Block.{tokens, rules}
use Rattle.block.specs.Grammar.{grammar_of}
use Rattle.block.specs.Refusal.{refusal_of, Good}
use Rattle.block.specs.First.{firsts_of}
use Rattle.block.proofs.Valid.{good-valid}
use Rattle.pager.specs.Lists.{Answer, is, refused}
use Rattle.pager.specs.Held.{STATES}
use Rattle.pager.specs.Graph.{graph_of}
use Rattle.pager.specs.Given.{Given}
use Rattle.pager.specs.Call.{or_else}
use Rattle.pager.specs.Automaton.{target}
use Rattle.statetable.specs.Cell.{decode}
use Rattle.statetable.specs.Read.{tables_in}
use Rattle.statetable.specs.Build.{Buffers, limits_of, build_call}
use Rattle.statetable.specs.Clean.{CheckedTables}
use Rattle.statetable.proofs.BuildLaws.{let-in}
use Rattle.statetable.proofs.Clean.{clean, checked-tables}
use Rattle.machine.specs.Limits.{INPUT, STEPS}
use Rattle.machine.specs.Call.{Call, is_short, room_short, turned_away}
use Rattle.machine.specs.Exactly.{Roomy, Exactly}
use Rattle.machine.proofs.Exact.{exactly}
use Rattle.pager.proofs.CallLaws.{at_least}
use Rattle.demand3.specs.EndToEnd.{OnTables, Enough, Unambiguous, ClaimDemand3}

-- ---- a call of `run` that is not turned away has its numbers in range and its tables long enough
not_short : (r : ℕ) (x : Bool) → or_else r (cond x 7 0) ≡ 0 → x ≡ false
not_short zero true e = absurd (omega arith)
not_short zero false e = refl
not_short (suc r) x e = absurd (omega arith)

roomy : (a : Call) (k : ℕ) → turned_away a ≡ 0 → Enough a (length a.input + k + 1) → Roomy a k
unfolding turned_away room_short
roomy a k e h =
    let (p1, e1) = at_least a.states 1 _ (not_short (refusal_of a.block) (is_short a) e) in
    let (p2, e2) = at_least STATES a.states _ e1 in
    let (p3, e3) = at_least (length a.actions) (a.states * tokens a.block) _ e2 in
    let (p4, e4) = at_least (length a.gotos) (a.states * rules a.block) _ e3 in
    let (p5, e5) = at_least INPUT (length a.input) _ e4 in
    record {
      states-most = p2;
      actions-long = p3;
      gotos-long = p4;
      few-tokens = p5;
      few-steps = (at_least STEPS a.limit _ e5).0;
      allows = h;
    }

-- the cell of state s at place i stands among the words of a table
pub word-within : (states width s i : ℕ) → s < states → i < width → s * width + i < states * width
word-within states width s i h k = omega (arith, mul-le-mul_right {m = suc s} {n = states} width h, suc-mul s width)

-- ---- the runs on the tables of a clean build
module _ (b : List ℕ) (states : ℕ) (l : Buffers) (good : Good b) (C : CheckedTables b states l) where
  below : (s : ℕ) → s < states → s < (tables C.automaton).states
  below s h = subst (λ (n : ℕ). s < n) (sym C.agree.states) h

  agree_on : (a : Call) → OnTables b states l a → Agree (grammar_of b) (tables_in b states a.actions a.gotos) (tables C.automaton)
  agree_on a o =
      record {
        states = sym C.agree.states;
        action = λ s t i j. ap decode (o.actions (s * tokens b + t) (word-within states (tokens b) s t i j)) ∙ sym (C.agree.action s t (below s i) j);
        goto = λ s r i j. ap target (o.gotos (s * rules b + r) (word-within states (rules b) s r i j)) ∙ sym (C.agree.goto s r (below s i) j);
      }

  exactly-on : (a : Call) → OnTables b states l a → Exactly a
  exactly-on a o =
      exactly a C.automaton (rw o.block good) (rw o.block C.checked)
      (rw (o.block, o.number) (agree_on a o))

  unambiguous : Unambiguous b states l
  unambiguous =
      record {
        one = D.one;
        begins = D.begins;
        accepts = λ a o ρ d h. (exactly-on a o).derivable-accepted ρ (rw o.block d) (roomy a (length ρ) o.room h);
        only = λ a o n c q. let r = (exactly-on a o).accepted-derivable n c q in (rw (sym o.block) r.0, r.1);
        safe = λ a o. (exactly-on a o).no-bad-table;
      }
    where
      D : theory.Demand3 (grammar_of b) C.automaton
      D = checked-demand3 (grammar_of b) (good-valid good) C.automaton C.checked

-- ---- what holds of an answer gives what follows from it
given-then {ℓ ℓ'} : {A : Type 0} (P : A → Type ℓ) (Q : A → Type ℓ') (x : Answer A) → ((y : A) → P y → Q y) → Given x P → Given x Q
given-then P Q (is y) f p = f y p
given-then P Q (refused why) f p = tt

pub demand-3 : ClaimDemand3
demand-3 b n l e =
    given-then _ _ (graph_of b (firsts_of b) (limits_of n))
    (λ ss c.
    record {
      exactly = c;
      then = given-then _ _ (build_call b n l) (λ x h k. unambiguous b (length x.states) _ (let-in b n l e).good (h k)) (checked-tables b n l);
    })
    (clean b n l e)
