-- The call `run`: when it refuses, what it answers, and what stack and output hold then. Assumes nothing.
use Rattle.std.specs.Prelude.{Bool, ◌||◌, cond, List, [], ◌∷◌, ◌≡◌, ℕ, ◌*◌, ◌≤◌, leb, eqb, length, replicate, Result, Ok, Err}
use Rattle.std.proofs.Math.Option.{Option, none, some}
use Rattle.knuth.specs.Machine.{Input}
use Rattle.knuth.specs.Limits.{Why, Ended, ended, machine}
use Rattle.block.specs.Block.{tokens, rules, end_token_of}
use Rattle.block.specs.Grammar.{grammar_of}
use Rattle.block.specs.Refusal.{refusal_of, Good}
use Rattle.pager.specs.Lists.{find, Answer, is, refused, unless}
use Rattle.pager.specs.Held.{STATES}
use Rattle.pager.specs.Call.{some_less, or_else}
use Rattle.statetable.specs.Read.{tables_in}
use Rattle.machine.specs.Limits.{INPUT, STEPS}
use Rattle.machine.specs.Memory.{slots, reductions}
use Rattle.machine.specs.Moves.{lent, run_of, number_of}
use Rattle.machine.specs.declared.answers.Run.{Run}
use Rattle.block.specs.Refused as block
use Rattle.machine.specs.declared.ends.Stop.{Stop}
use Rattle.machine.specs.declared.ends.Stop.TheVariants.{StackRoom, OutputRoom, StepLimit, BadTable}
use Rattle.machine.specs.declared.ends.How.{How}
use Rattle.machine.specs.declared.ends.How.TheVariants.{Accept, Reject, Stopped}
use Rattle.machine.specs.declared.ends.Ended as declared
use Rattle.machine.specs.declared.ends.RunRefusal.{RunRefusal}
use Rattle.machine.specs.declared.ends.RunRefusal.TheVariants.{Block, RoomShort, BadToken}

-- ---- what is lent and named
pub record Call : Type 0 where
  pub block : List ℕ
  pub states : ℕ
  pub actions : List ℕ
  pub gotos : List ℕ
  pub input : List ℕ
  pub limit : ℕ
  pub stack : List ℕ
  pub output : List ℕ

abbrev pub called : List ℕ → ℕ → List ℕ → List ℕ → List ℕ → ℕ → List ℕ → List ℕ → Call
called block states actions gotos input limit stack output =
    record { block = block; states = states; actions = actions; gotos = gotos; input = input; limit = limit; stack = stack; output = output }

-- ---- 7: a named number out of range, the input too long, or a lent buffer shorter than they need; the stack has a slot
unfoldable pub room_short : List ℕ → ℕ → (actions gotos input limit stack : ℕ) → Bool
room_short b states actions gotos input limit stack =
    some_less
    ((states, 1)
    ∷ (STATES, states)
    ∷ (actions, states * tokens b)
    ∷ (gotos, states * rules b)
    ∷ (INPUT, input)
    ∷ (STEPS, limit)
    ∷ (stack, 1)
    ∷ [])

abbrev pub is_short : Call → Bool
is_short a = room_short a.block a.states (length a.actions) (length a.gotos) (length a.input) a.limit (length a.stack)

-- 1 to 7, in this order; 0 for none
unfoldable pub turned_away : Call → ℕ
turned_away a = or_else (refusal_of a.block) (cond (is_short a) 7 0)

-- ---- 13: a token not below T, or the end token
unfoldable pub bad_token : List ℕ → ℕ → Bool
bad_token b t = leb (tokens b) t || eqb t (end_token_of b)

-- ---- the run: the theory's machine, on the lent words read as tables, within the lent lengths
unfoldable pub machine_of : Call → Answer Ended
machine_of a =
    is (machine (grammar_of a.block) (tables_in a.block a.states a.actions a.gotos) (lent a.limit a.stack a.output) a.input)

abbrev pub unless_bad : Option ℕ → Answer Ended → Answer Ended
unless_bad (some i) e = refused (13 ∷ i ∷ [])
unless_bad none e = e

-- 1 to 7, then 13 over the whole input, then the run
unfoldable pub run_call : Call → Answer Ended
run_call a = unless (turned_away a) (unless_bad (find (bad_token a.block) 0 a.input) (machine_of a))

-- ---- the answer: accept, reject or document 01's number; and place, reductions, steps and height
pub data Verdict : Type 0 where
  accept reject : Verdict
  stopped : ℕ → Verdict

abbrev pub verdict : Why → Verdict
verdict Why.accept = Verdict.accept
verdict Why.reject = Verdict.reject
verdict Why.stack-room = Verdict.stopped (number_of Why.stack-room)
verdict Why.output-room = Verdict.stopped (number_of Why.output-room)
verdict Why.out-of-steps = Verdict.stopped (number_of Why.out-of-steps)
verdict Why.bad = Verdict.stopped (number_of Why.bad)

abbrev pub told : ℕ → Answer Ended → Answer (Verdict × Run)
told n (is (ended why steps c)) = is (verdict why, run_of n steps c)
told n (refused why) = refused why

-- document 01's number of what stops a run
abbrev pub stop_number : Stop → ℕ
stop_number StackRoom = 14
stop_number OutputRoom = 15
stop_number StepLimit = 16
stop_number BadTable = 17

-- document 01's number of why no run began
abbrev pub run_number : RunRefusal → ℕ
run_number (Block refusal) = block.number_of refusal
run_number RoomShort = 7
run_number (BadToken place) = 13

abbrev pub verdict_of : How → Verdict
verdict_of Accept = Verdict.accept
verdict_of Reject = Verdict.reject
verdict_of (Stopped stop) = Verdict.stopped (stop_number stop)

-- the values of a run that began
abbrev pub ended_of : declared.Ended → Answer (Verdict × Run)
ended_of e = is (verdict_of e.how, e.run)

-- the values of an answer, or document 01's number of it, with the place for 13
abbrev pub answer_of : Result declared.Ended RunRefusal → Answer (Verdict × Run)
answer_of (Ok e) = ended_of e
answer_of (Err (Block refusal)) = refused (block.number_of refusal ∷ [])
answer_of (Err RoomShort) = refused (7 ∷ [])
answer_of (Err (BadToken place)) = refused (13 ∷ place ∷ [])

-- ---- what stack and output hold at the end: 1 to 7 and 13 change nothing
abbrev pub stack_of : Answer Ended → List ℕ → List ℕ
stack_of (is (ended why steps c)) before = slots (length before) c
stack_of (refused why) before = before

abbrev pub output_of : Answer Ended → List ℕ → List ℕ
output_of (is (ended why steps c)) before = reductions c before
output_of (refused why) before = before

-- ---- what the steps begin with: none of 1 to 7 and 13, and a stack cleared
pub record Begun (a : Call) : Type 0 where
  pub good : Good a.block
  pub some-states : 1 ≤ a.states
  pub states-most : a.states ≤ STATES
  pub actions-long : a.states * tokens a.block ≤ length a.actions
  pub gotos-long : a.states * rules a.block ≤ length a.gotos
  pub few-steps : a.limit ≤ STEPS
  pub some-slot : 1 ≤ length a.stack
  pub passed : Input (grammar_of a.block) a.input
  pub stack-clear : a.stack ≡ replicate (length a.stack) 0
