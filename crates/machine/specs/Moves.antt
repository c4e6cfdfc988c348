-- What a step asks, what it answers and what it leaves: the theory's step, on lent words. Assumes nothing.
use Rattle.std.specs.Prelude.{List, ◌≡◌, ℕ, suc, ◌*◌, ◌-◌, ◌^◌, ◌<◌, ◌≤◌, length, Result, Ok, Err}
use Rattle.knuth.specs.Grammar.{Grammar}
use Rattle.knuth.specs.Tables.{Tables, Action}
use Rattle.knuth.specs.Machine.{Config, at, Outcome, act, Input}
use Rattle.knuth.specs.Limits as theory
use Rattle.knuth.specs.Limits.{Limits, Why, height, outs, rest-of, moves, stops}
use Rattle.block.specs.Block.{tokens, rules}
use Rattle.block.specs.Grammar.{grammar_of}
use Rattle.block.specs.Refusal.{Good}
use Rattle.pager.specs.Held.{STATES}
use Rattle.machine.specs.Memory.{Lies}
use Rattle.machine.specs.declared.answers.Run.{Run}
use Rattle.machine.specs.declared.answers.Step.{Step}
use Rattle.machine.specs.declared.answers.Step.TheVariants.{On, Accept, Reject}
use Rattle.machine.specs.declared.answers.StepRefusal.{StepRefusal}
use Rattle.machine.specs.declared.answers.StepRefusal.TheVariants.{StackRoom, OutputRoom, BadTable}

-- the room is the lent lengths (a step looks at these alone: it knows of no step limit)
abbrev pub lent : ℕ → List ℕ → List ℕ → Limits
lent steps stack output = record { steps = steps; stack = length stack; output = length output }

-- the numbers of a configuration: of n tokens those that no longer remain, the reductions, the steps, the height
abbrev pub run_of : ℕ → ℕ → Config → Run
run_of n steps c = record { at = n - length (rest-of c); k = length (outs c); steps = steps; height = height c }

-- a step more
abbrev pub counted : Run → Run
counted run = record { at = run.at; k = run.k; steps = suc run.steps; height = run.height }

-- the step for one action
abbrev pub doing : Grammar → Tables → Action → Config → Outcome
doing G T a (at top below rest out) = act G T a top below rest out

-- a good block, tables of so many states, an input that check 13 passed, and a run that lies in stack and output
pub record Ready (block : List ℕ) (states : ℕ) (actions gotos input : List ℕ) (run : Run) (stack output old : List ℕ) (c : Config) : Type 0 where
  pub good : Good block
  pub states-most : states ≤ STATES
  pub actions-long : states * tokens block ≤ length actions
  pub gotos-long : states * rules block ≤ length gotos
  pub passed : Input (grammar_of block) input
  pub lies : Lies states input stack output old c
  pub run_is : run ≡ run_of (length input) run.steps c
  -- the count of steps can take one more
  pub countable : suc run.steps < 2 ^ 64

-- how the run stands after the step: a refusal, an accept and an error leave it
abbrev pub stands : Config → theory.Step → Config
stands c (moves c') = c'
stands c (stops why) = c

-- document 01's number, 0 for none
abbrev pub number_of : Why → ℕ
number_of Why.accept = 0
number_of Why.reject = 0
number_of Why.stack-room = 14
number_of Why.output-room = 15
number_of Why.out-of-steps = 16
number_of Why.bad = 17

-- the same of a step that is refused
abbrev pub refusal_number : StepRefusal → ℕ
refusal_number StackRoom = 14
refusal_number OutputRoom = 15
refusal_number BadTable = 17

-- what a step answers, a refusal by its number
abbrev pub step_of : Result Step StepRefusal → Result Step ℕ
step_of (Ok step) = Ok step
step_of (Err refusal) = Err (refusal_number refusal)

-- an accept and an error are steps; a refusal is none
abbrev pub ending : Why → Run → Result Step ℕ
ending Why.accept run = Ok (Accept (counted run))
ending Why.reject run = Ok (Reject (counted run))
ending Why.stack-room run = Err (number_of Why.stack-room)
ending Why.output-room run = Err (number_of Why.output-room)
ending Why.out-of-steps run = Err (number_of Why.out-of-steps)
ending Why.bad run = Err (number_of Why.bad)

-- the answer to a step of a run over n tokens
abbrev pub answer_to : ℕ → Run → theory.Step → Result Step ℕ
answer_to n run (moves c') = Ok (On (run_of n (suc run.steps) c'))
answer_to n run (stops why) = ending why run

-- the answer, and memory afterwards
pub record Stepped (states : ℕ) (input : List ℕ) (run : Run) (c : Config) (s : theory.Step) (r : Result Step StepRefusal) (stack output old : List ℕ) : Type 0 where
  pub answer : step_of r ≡ answer_to (length input) run s
  pub lies : Lies states input stack output old (stands c s)
