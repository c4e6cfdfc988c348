-- What a run that lies in memory has for numbers, and the two kinds of step: one that leaves it, and one that goes on. Assumes nothing.
use mathlib.Core.List.{List}
use mathlib.Core.Path.{◌≡◌, refl, sym, ap, ◌∙◌, subst}
use Prim.Native.Nat.{ℕ, suc, ◌+◌, ◌≤◌}
use native.Mathlib.Omega.{arith}
use lib.ListN.{length, drop, length-append, length-drop}
use lib.Seq.{drop_at}
use Rattle.std.specs.Prelude.{Result, Ok}
use Rattle.knuth.specs.Machine.{Config, at}
use Rattle.knuth.specs.Limits as theory
use Rattle.knuth.specs.Limits.{Why, height, outs, rest-of, moves, stops}
use Rattle.machine.specs.Memory.{Lies}
use Rattle.machine.specs.Moves.{run_of, Ready, Stepped, step_of, stands, ending, answer_to}
use Rattle.machine.specs.declared.answers.Run.{Run}
use Rattle.machine.specs.declared.answers.Step.{Step}
use Rattle.machine.specs.declared.answers.Step.TheVariants.{On}
use Rattle.machine.specs.declared.answers.StepRefusal.{StepRefusal}

-- the numbers of a run, one by one
pub run_is : {a a' k k' s s' h h' : ℕ} → a ≡ a' → k ≡ k' → s ≡ s' → h ≡ h'
    → ◌≡◌ {A = Run} (record { at = a; k = k; steps = s; height = h }) (record { at = a'; k = k'; steps = s'; height = h' })
run_is p q r t = rw (p, q, r, t) refl

-- what no longer remains was taken
pub taken-length : {states : ℕ} {input stack output old : List ℕ} {c : Config} (L : Lies states input stack output old c)
    → length input ≡ length L.taken + length (rest-of c)
taken-length {c = c} L = ap length L.input-is ∙ length-append L.taken (rest-of c)

pub output-length : {states : ℕ} {input stack output old : List ℕ} {c : Config} → Lies states input stack output old c → length output ≡ length old
output-length {old = old} {c = c} L =
    let f = L.output-fits in
    ap length L.output-is ∙ length-append (outs c) (drop (length (outs c)) old) ∙ omega (arith, length-drop (length (outs c)) old)

module _ {b actions gotos input stack output old : List ℕ} {states : ℕ} {run : Run} {c : Config} (R : Ready b states actions gotos input run stack output old c) where
  pub height-is : run.height ≡ height c
  height-is = ap (λ (r : Run). r.height) R.run_is

  pub k-is : run.k ≡ length (outs c)
  k-is = ap (λ (r : Run). r.k) R.run_is

  pub at-is : run.at ≡ length R.lies.taken
  at-is = ap (λ (r : Run). r.at) R.run_is ∙ omega (arith, taken-length R.lies)

  pub rest-is : rest-of c ≡ drop run.at input
  rest-is = sym (ap (drop run.at) R.lies.input-is ∙ drop_at R.lies.taken (rest-of c) run.at (sym at-is))

  pub height-fits : run.height ≤ length stack
  height-fits = omega (arith, height-is, R.lies.stack-fits)

  pub some-height : 1 ≤ run.height
  some-height = subst (λ (n : ℕ). 1 ≤ n) (sym height-is) (go c)
    where
      go : (c : Config) → 1 ≤ height c
      go (at s st rest out) = omega arith

  -- a step that ends the run, or is refused
  pub stays : (w : Why) (s : theory.Step) → s ≡ stops w → (r : Result Step StepRefusal) → step_of r ≡ ending w run → Stepped states input run c s r stack output old
  stays w s e r q =
      record {
        answer = q ∙ ap (answer_to (length input) run) (sym e);
        lies = subst (λ (x : theory.Step). Lies states input stack output old (stands c x)) (sym e) R.lies;
      }

  pub goes_on : (c' : Config) (s : theory.Step) → s ≡ moves c' → (m : Run) → m ≡ run_of (length input) (suc run.steps) c' → (stack' output' : List ℕ)
      → Lies states input stack' output' old c' → Stepped states input run c s (Ok (On m)) stack' output' old
  goes_on c' s e m q stack' output' L =
      record {
        answer = ap (λ (x : Run). step_of (Ok (On x))) q ∙ ap (answer_to (length input) run) (sym e);
        lies = subst (λ (x : theory.Step). Lies states input stack' output' old (stands c x)) (sym e) L;
      }
