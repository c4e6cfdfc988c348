-- ONE OUTCOME: the contracts of `run` and `step` leave one each. Assumes nothing.
use mathlib.Core.Bool.{cond}
use mathlib.Core.List.{[], ◌∷◌}
use mathlib.Core.Path.{◌≡◌, refl, sym, ap, ◌∙◌}
use Prim.Native.Nat.{ℕ}
use lib.Dec.{eqb}
use Rattle.std.specs.Prelude.{Result, Ok, Err}
use Rattle.pager.specs.Lists.{Answer, is, refused}
use Rattle.machine.specs.Memory.{slots}
use Rattle.machine.specs.Moves.{stands, step_of}
use Rattle.machine.specs.Call.{Verdict, verdict_of, answer_of}
use Rattle.machine.specs.Exactly.{ClaimOne, ClaimOneStep, ClaimLeft}
use Rattle.machine.specs.declared.answers.Run.{Run}
use Rattle.machine.specs.declared.answers.Step.{Step}
use Rattle.machine.specs.declared.answers.StepRefusal.{StepRefusal}
use Rattle.machine.specs.declared.answers.StepRefusal.TheVariants as step
use Rattle.machine.specs.declared.ends.Stop.{Stop}
use Rattle.machine.specs.declared.ends.Stop.TheVariants as stop
use Rattle.machine.specs.declared.ends.How.{How}
use Rattle.machine.specs.declared.ends.How.TheVariants.{Accept, Reject, Stopped}
use Rattle.machine.specs.declared.ends.Ended.{Ended}
use Rattle.machine.specs.declared.ends.RunRefusal.{RunRefusal}
use Rattle.machine.specs.declared.ends.RunRefusal.TheVariants.{Block, RoomShort, BadToken}
use Rattle.block.specs.declared.refusal.BlockRefusal.TheVariants as block

-- ---- the value that is told so
abbrev step_at : ℕ → StepRefusal
step_at n = cond (eqb n 14) step.StackRoom (cond (eqb n 15) step.OutputRoom step.BadTable)

abbrev stop_at : ℕ → Stop
stop_at n = cond (eqb n 14) stop.StackRoom (cond (eqb n 15) stop.OutputRoom (cond (eqb n 16) stop.StepLimit stop.BadTable))

abbrev refusal_at : ℕ → RunRefusal
refusal_at n =
    cond (eqb n 7) RoomShort
    (Block (cond (eqb n 1) block.BadHeader
    (cond (eqb n 2) block.TooLarge
    (cond (eqb n 3) block.BadProduction
    (cond (eqb n 4) block.BadStart
    (cond (eqb n 5) block.BadSymbol
    block.BadPrecedence))))))

abbrev back : Answer (Verdict × Run) → Result Ended RunRefusal
back (is (Verdict.accept, run)) = Ok (record { how = Accept; run = run })
back (is (Verdict.reject, run)) = Ok (record { how = Reject; run = run })
back (is (Verdict.stopped n, run)) = Ok (record { how = Stopped (stop_at n); run = run })
back (refused []) = Err RoomShort
back (refused (n ∷ [])) = Err (refusal_at n)
back (refused (n ∷ i ∷ more)) = Err (BadToken i)

back_is : (r : Result Ended RunRefusal) → r ≡ back (answer_of r)
back_is (Ok e) = go e.how
  where
    go : (how : How) → ◌≡◌ {A = Result Ended RunRefusal} (Ok (record { how = how; run = e.run })) (back (is (verdict_of how, e.run)))
    go Accept = refl
    go Reject = refl
    go (Stopped stop.StackRoom) = refl
    go (Stopped stop.OutputRoom) = refl
    go (Stopped stop.StepLimit) = refl
    go (Stopped stop.BadTable) = refl
back_is (Err RoomShort) = refl
back_is (Err (BadToken i)) = refl
back_is (Err (Block block.BadHeader)) = refl
back_is (Err (Block block.TooLarge)) = refl
back_is (Err (Block block.BadProduction)) = refl
back_is (Err (Block block.BadStart)) = refl
back_is (Err (Block block.BadSymbol)) = refl
back_is (Err (Block block.BadPrecedence)) = refl

abbrev step_back : Result Step ℕ → Result Step StepRefusal
step_back (Ok step) = Ok step
step_back (Err n) = Err (step_at n)

step_back_is : (r : Result Step StepRefusal) → r ≡ step_back (step_of r)
step_back_is (Ok step) = refl
step_back_is (Err step.StackRoom) = refl
step_back_is (Err step.OutputRoom) = refl
step_back_is (Err step.BadTable) = refl

pub one-outcome : ClaimOne
one-outcome a r r' stack stack' output output' x y =
    (back_is r ∙ ap back (x.answer ∙ sym y.answer) ∙ sym (back_is r'), x.stack_is ∙ sym y.stack_is, x.output-is ∙ sym y.output-is)

pub one-step : ClaimOneStep
one-step states input run c s r r' stack stack' output output' old x y z = (
  step_back_is r ∙ ap step_back (x.answer ∙ sym y.answer) ∙ sym (step_back_is r'),
  x.lies.stack_is ∙ ap (λ (n : ℕ). slots n (stands c s)) z ∙ sym y.lies.stack_is,
  x.lies.output-is ∙ sym y.lies.output-is,
)

pub left : ClaimLeft
left states input run c why r stack stack' output output' old x y z =
    (x.stack_is ∙ ap (λ (n : ℕ). slots n c) z ∙ sym y.lies.stack_is, x.output-is ∙ sym y.lies.output-is)
