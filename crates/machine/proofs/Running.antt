-- The run as a loop of steps: how it begins, goes on and ends. Assumes nothing.
use mathlib.Core.List.Memᴰ
use mathlib.Core.List.{List, [], ◌∷◌}
use mathlib.Core.Path.{◌≡◌, refl, sym, ap, ◌∙◌, subst}
use Prim.Native.Nat.{ℕ, zero, suc, ◌-◌, ◌≤◌, ◌<◌}
use native.Mathlib.Omega.{arith}
use lib.Dec.{leb}
use lib.ListN.{length, replicate}
use Rattle.std.specs.Prelude.{Result, Ok, Err}
use Rattle.knuth.specs.Machine.{Config, at, Outcome, goes, accepted, rejected, bad-table, next}
use Rattle.knuth.specs.Limits as theory
use Rattle.knuth.specs.Limits.{Why, Ended, ended, moves, stops, fits, within, machine, height, outs}
use Rattle.knuth.proofs.Runs.{after}
use Rattle.block.specs.Grammar.{grammar_of}
use Rattle.pager.specs.Lists.{Answer, is}
use Rattle.pager.specs.Memory.{pad}
use Rattle.statetable.specs.Read.{tables_in}
use Rattle.machine.specs.Limits.{STEPS}
use Rattle.machine.specs.Memory.{Lies, slots}
use Rattle.machine.specs.Moves.{lent, run_of, counted, Ready, Stepped, stands, ending, answer_to, step_of, refusal_number}
use Rattle.machine.specs.Call.{called, machine_of, Begun, Verdict, verdict, told, stack_of, output_of}
use Rattle.machine.specs.declared.answers.Run.{Run}
use Rattle.machine.specs.declared.answers.Step.{Step}
use Rattle.machine.specs.declared.answers.Step.TheVariants.{On, Accept, Reject}
use Rattle.machine.specs.declared.answers.StepRefusal.{StepRefusal}
use Rattle.machine.proofs.Standing.{run_is}

-- rooms of the same sizes
same-room : (k s o k' s' o' : ℕ) → s ≡ s' → o ≡ o' → (x : Outcome)
    → within (record { steps = k; stack = s; output = o }) x ≡ within (record { steps = k'; stack = s'; output = o' }) x
same-room k s o k' s' o' p q (goes c) =
    ap (λ (n : ℕ). fits (leb (length (outs c)) n) (leb (height c) s) c) q ∙ ap (λ (n : ℕ). fits (leb (length (outs c)) o') (leb (height c) n) c) p
same-room k s o k' s' o' p q (accepted ρ) = refl
same-room k s o k' s' o' p q rejected = refl
same-room k s o k' s' o' p q bad-table = refl

-- a stack cleared holds state 0
one-slot : (n : ℕ) → 1 ≤ n → replicate n 0 ≡ pad n (0 ∷ [])
unfolding pad
one-slot zero h = absurd (omega arith)
one-slot (suc n) h = ap (λ (k : ℕ). 0 ∷ replicate k 0) (less n)
  where
    less : (n : ℕ) → n ≡ suc n - 1
    less n = omega arith

-- ---- the loop: so far the machine has come to a configuration, which lies in memory
pub record Running (block : List ℕ) (states : ℕ) (actions gotos input : List ℕ) (limit : ℕ) (stack₀ output₀ stack output : List ℕ) (run : Run) : Type 0 where
  pub config : Config
  pub ready : Ready block states actions gotos input run stack output output₀ config
  pub in-limit : run.steps ≤ limit
  pub few : limit ≤ STEPS
  pub stack-size : length stack ≡ length stack₀
  pub output-size : length output ≡ length output₀
  pub so_far : machine (grammar_of block) (tables_in block states actions gotos) (lent limit stack₀ output₀) input
      ≡ theory.run (grammar_of block) (tables_in block states actions gotos) (lent limit stack₀ output₀) (limit - run.steps) run.steps config

module _ {block actions gotos input stack₀ output₀ : List ℕ} {states limit : ℕ} where
  pub running-start : Begun (called block states actions gotos input limit stack₀ output₀)
      → Running block states actions gotos input limit stack₀ output₀ stack₀ output₀ (record { at = 0; k = 0; steps = 0; height = 1 })
  running-start B =
      record {
        config = at zero [] input [];
        ready =
            record {
              good = B.good;
              states-most = B.states-most;
              actions-long = B.actions-long;
              gotos-long = B.gotos-long;
              passed = B.passed;
              lies =
                  record {
                    stack_is = B.stack-clear ∙ one-slot (length stack₀) B.some-slot;
                    stack-fits = B.some-slot;
                    output-is = refl;
                    output-fits = omega arith;
                    taken = [];
                    input-is = refl;
                    known = λ s m. subst (λ (n : ℕ). n < states) (sym (Memᴰ.eq_of_singleton m)) B.some-states;
                  };
              run_is = run_is (none (length input)) refl refl refl;
              countable = omega arith;
            };
        in-limit = omega arith;
        few = B.few-steps;
        stack-size = refl;
        output-size = refl;
        so_far = ap (λ (k : ℕ). theory.run (grammar_of block) (tables_in block states actions gotos) (lent limit stack₀ output₀) k 0 (at zero [] input [])) (all limit);
      }
    where
      none : (n : ℕ) → 0 ≡ n - n
      none n = omega arith

      all : (n : ℕ) → n ≡ n - 0
      all n = omega arith

-- ---- one turn
-- what is told, and what memory holds, at the end of a call
abbrev Ends : (block : List ℕ) (states : ℕ) (actions gotos input : List ℕ) (limit : ℕ) (stack₀ output₀ : List ℕ) → Answer (Verdict × Run) → (stack output : List ℕ) → Type 0
Ends block states actions gotos input limit stack₀ output₀ v stack output =
    let a = machine_of (called block states actions gotos input limit stack₀ output₀) in
    (v ≡ told (length input) a) × ((stack ≡ stack_of a stack₀) × (output ≡ output_of a output₀))

module _ {block actions gotos input stack₀ output₀ stack output : List ℕ} {states limit : ℕ} {run : Run}
    (I : Running block states actions gotos input limit stack₀ output₀ stack output run) where
  -- an end for the reason w, after k steps
  ends : (w : Why) (k : ℕ) (stack' output' : List ℕ)
      → machine (grammar_of block) (tables_in block states actions gotos) (lent limit stack₀ output₀) input ≡ ended w k I.config
      → Lies states input stack' output' output₀ I.config → length stack' ≡ length stack₀ → (m : Run) → m ≡ run_of (length input) k I.config
      → Ends block states actions gotos input limit stack₀ output₀ (is (verdict w, m)) stack' output'
  unfolding machine_of
  ends w k stack' output' e L z m q = (
    ap (λ (r : Run). is (verdict w, r)) q ∙ ap (λ (x : Ended). told (length input) (is x)) (sym e),
    (
      L.stack_is ∙ ap (λ (n : ℕ). slots n I.config) z ∙ ap (λ (x : Ended). stack_of (is x) stack₀) (sym e),
      L.output-is ∙ ap (λ (x : Ended). output_of (is x) output₀) (sym e),
    ),
  )

  -- the limit is used
  pub running-out : limit ≤ run.steps → Ends block states actions gotos input limit stack₀ output₀ (is (Verdict.stopped 16, run)) stack output
  running-out h =
      let l = I.in-limit in
      let z : limit - run.steps ≡ 0 = omega arith in
      ends Why.out-of-steps run.steps stack output
      (I.so_far ∙ ap (λ (k : ℕ). theory.run (grammar_of block) (tables_in block states actions gotos) (lent limit stack₀ output₀) k run.steps I.config) z)
      I.ready.lies I.stack-size run I.ready.run_is

  module _ (less : run.steps < limit) (r : Result Step StepRefusal) (stack' output' : List ℕ)
      (S : Stepped states input run I.config (within (lent zero stack output) (next (grammar_of block) (tables_in block states actions gotos) I.config)) r stack' output' output₀)
      (zs : length stack' ≡ length stack) (zo : length output' ≡ length output) where
    -- the theory's step
    abbrev made : theory.Step
    made = within (lent zero stack output) (next (grammar_of block) (tables_in block states actions gotos) I.config)

    abbrev afterwards : theory.Step → Ended
    afterwards s = after (grammar_of block) (tables_in block states actions gotos) (lent limit stack₀ output₀) s (limit - suc run.steps) run.steps I.config

    one-turn : machine (grammar_of block) (tables_in block states actions gotos) (lent limit stack₀ output₀) input ≡ afterwards made
    one-turn =
        let e : limit - run.steps ≡ suc (limit - suc run.steps) = omega arith in
        I.so_far
        ∙ ap (λ (k : ℕ). theory.run (grammar_of block) (tables_in block states actions gotos) (lent limit stack₀ output₀) k run.steps I.config) e
        ∙ ap afterwards (sym (same-room zero (length stack) (length output) limit (length stack₀) (length output₀) I.stack-size I.output-size
        (next (grammar_of block) (tables_in block states actions gotos) I.config)))

    lies_at : (s : theory.Step) → made ≡ s → Lies states input stack' output' output₀ (stands I.config s)
    lies_at s e = subst (λ (x : theory.Step). Lies states input stack' output' output₀ (stands I.config x)) e S.lies

    answers : (s : theory.Step) → made ≡ s → step_of r ≡ answer_to (length input) run s
    answers s e = S.answer ∙ ap (answer_to (length input) run) e

    finish : (w : Why) → made ≡ stops w → (m : Run) → m ≡ run_of (length input) (theory.counted w run.steps) I.config
        → Ends block states actions gotos input limit stack₀ output₀ (is (verdict w, m)) stack' output'
    finish w e m q = ends w (theory.counted w run.steps) stack' output' (one-turn ∙ ap afterwards e) (lies_at (stops w) e) (zs ∙ I.stack-size) m q

    pub running-on : (m : Run) → r ≡ Ok (On m) → Running block states actions gotos input limit stack₀ output₀ stack' output' m × (m.steps ≡ suc run.steps)
    running-on m q = go made refl
      where
        no : (w : Why) → Ok (On m) ≡ ending w run → ⊥
        no Why.accept e = cc
        no Why.reject e = cc
        no Why.bad e = cc
        no Why.stack-room e = cc
        no Why.output-room e = cc
        no Why.out-of-steps e = cc

        go : (s : theory.Step) → made ≡ s → Running block states actions gotos input limit stack₀ output₀ stack' output' m × (m.steps ≡ suc run.steps)
        go (stops w) e = absurd (no w (sym (ap step_of q) ∙ answers (stops w) e))
        go (moves c') e =
            let a = sym (ap step_of q) ∙ answers (moves c') e in
            let f : m ≡ run_of (length input) (suc run.steps) c' = cc in
            let g : m.steps ≡ suc run.steps = ap (λ (x : Run). x.steps) f in (
              record {
                config = c';
                ready =
                    record {
                      good = I.ready.good;
                      states-most = I.ready.states-most;
                      actions-long = I.ready.actions-long;
                      gotos-long = I.ready.gotos-long;
                      passed = I.ready.passed;
                      lies = lies_at (moves c') e;
                      run_is = f ∙ ap (λ (k : ℕ). run_of (length input) k c') (sym g);
                      countable = let l = I.few in omega arith;
                    };
                in-limit = omega arith;
                few = I.few;
                stack-size = zs ∙ I.stack-size;
                output-size = zo ∙ I.output-size;
                so_far =
                    one-turn ∙ ap afterwards e
                    ∙ ap (λ (k : ℕ). theory.run (grammar_of block) (tables_in block states actions gotos) (lent limit stack₀ output₀) (limit - k) k c') (sym g);
              },
              g,
            )

    pub running-accept : (m : Run) → r ≡ Ok (Accept m) → Ends block states actions gotos input limit stack₀ output₀ (is (Verdict.accept, m)) stack' output'
    running-accept m q = go made refl
      where
        go : (s : theory.Step) → made ≡ s → Ends block states actions gotos input limit stack₀ output₀ (is (Verdict.accept, m)) stack' output'
        go (moves c') e = let a = sym (ap step_of q) ∙ answers (moves c') e in cc
        go (stops Why.accept) e =
            let a = sym (ap step_of q) ∙ answers (stops Why.accept) e in
            let f : m ≡ counted run = cc in
            finish Why.accept e m (f ∙ ap counted I.ready.run_is)
        go (stops Why.reject) e = let a = sym (ap step_of q) ∙ answers (stops Why.reject) e in cc
        go (stops Why.bad) e = let a = sym (ap step_of q) ∙ answers (stops Why.bad) e in cc
        go (stops Why.stack-room) e = let a = sym (ap step_of q) ∙ answers (stops Why.stack-room) e in cc
        go (stops Why.output-room) e = let a = sym (ap step_of q) ∙ answers (stops Why.output-room) e in cc
        go (stops Why.out-of-steps) e = let a = sym (ap step_of q) ∙ answers (stops Why.out-of-steps) e in cc

    pub running-reject : (m : Run) → r ≡ Ok (Reject m) → Ends block states actions gotos input limit stack₀ output₀ (is (Verdict.reject, m)) stack' output'
    running-reject m q = go made refl
      where
        go : (s : theory.Step) → made ≡ s → Ends block states actions gotos input limit stack₀ output₀ (is (Verdict.reject, m)) stack' output'
        go (moves c') e = let a = sym (ap step_of q) ∙ answers (moves c') e in cc
        go (stops Why.accept) e = let a = sym (ap step_of q) ∙ answers (stops Why.accept) e in cc
        go (stops Why.reject) e =
            let a = sym (ap step_of q) ∙ answers (stops Why.reject) e in
            let f : m ≡ counted run = cc in
            finish Why.reject e m (f ∙ ap counted I.ready.run_is)
        go (stops Why.bad) e = let a = sym (ap step_of q) ∙ answers (stops Why.bad) e in cc
        go (stops Why.stack-room) e = let a = sym (ap step_of q) ∙ answers (stops Why.stack-room) e in cc
        go (stops Why.output-room) e = let a = sym (ap step_of q) ∙ answers (stops Why.output-room) e in cc
        go (stops Why.out-of-steps) e = let a = sym (ap step_of q) ∙ answers (stops Why.out-of-steps) e in cc

    -- a refused step
    pub running-refused : (n : StepRefusal) → r ≡ Err n → Ends block states actions gotos input limit stack₀ output₀ (is (Verdict.stopped (refusal_number n), run)) stack' output'
    running-refused n q = go made refl
      where
        tell : (w : Why) → made ≡ stops w → (k : ℕ) → verdict w ≡ Verdict.stopped k → theory.counted w run.steps ≡ run.steps → ending w run ≡ Err k
            → Ends block states actions gotos input limit stack₀ output₀ (is (Verdict.stopped (refusal_number n), run)) stack' output'
        tell w e k v d f =
            let a = sym (ap step_of q) ∙ answers (stops w) e ∙ f in
            let same : k ≡ refusal_number n = cc in
            subst (λ (x : Verdict). Ends block states actions gotos input limit stack₀ output₀ (is (x, run)) stack' output')
            (v ∙ ap Verdict.stopped same)
            (finish w e run (I.ready.run_is ∙ ap (λ (j : ℕ). run_of (length input) j I.config) (sym d)))

        go : (s : theory.Step) → made ≡ s → Ends block states actions gotos input limit stack₀ output₀ (is (Verdict.stopped (refusal_number n), run)) stack' output'
        go (moves c') e = let a = sym (ap step_of q) ∙ answers (moves c') e in cc
        go (stops Why.accept) e = let a = sym (ap step_of q) ∙ answers (stops Why.accept) e in cc
        go (stops Why.reject) e = let a = sym (ap step_of q) ∙ answers (stops Why.reject) e in cc
        go (stops Why.bad) e = tell Why.bad e _ refl refl refl
        go (stops Why.stack-room) e = tell Why.stack-room e _ refl refl refl
        go (stops Why.output-room) e = tell Why.output-room e _ refl refl refl
        go (stops Why.out-of-steps) e = tell Why.out-of-steps e _ refl refl refl
