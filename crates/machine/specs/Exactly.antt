-- What is claimed of the call `run` beyond its contract: no two outcomes meet it, nor `step`'s; its numbers and its count of steps are document 01's; and on the
-- tables of a checked automaton it accepts exactly what is derivable. Assumes nothing.
use Rattle.std.specs.Prelude.{List, [], ◌∷◌, reverse, ◌≢◌, ◌⊎◌, ◌≡◌, ℕ, suc, ◌+◌, ◌*◌, ◌-◌, ◌≤◌, ◌<◌, length, Result}
use Rattle.knuth.specs.Derivation.{Derivation}
use Rattle.knuth.specs.Tables.{Agree}
use Rattle.knuth.specs.Automaton.{Automaton, tables}
use Rattle.knuth.specs.Checked.{Checked}
use Rattle.knuth.specs.Demand3.{Allows}
use Rattle.knuth.specs.Machine.{Config}
use Rattle.knuth.specs.Limits as theory
use Rattle.knuth.specs.Limits.{Why, ended, counted, stops, outs, rest-of}
use Rattle.block.specs.Block.{tokens, rules, start_prod}
use Rattle.block.specs.Grammar.{grammar_of}
use Rattle.block.specs.Refusal.{Good}
use Rattle.pager.specs.Lists.{is, refused}
use Rattle.pager.specs.Held.{STATES}
use Rattle.statetable.specs.Read.{tables_in}
use Rattle.machine.specs.Limits.{INPUT, STEPS}
use Rattle.machine.specs.Memory.{Lies}
use Rattle.machine.specs.Moves.{lent, Stepped}
use Rattle.machine.specs.Call.{Call, run_call, told, answer_of, stack_of, output_of}
use Rattle.machine.specs.declared.answers.Run.{Run}
use Rattle.machine.specs.declared.answers.Step.{Step}
use Rattle.machine.specs.declared.answers.StepRefusal.{StepRefusal}
use Rattle.machine.specs.declared.ends.Ended as declared
use Rattle.machine.specs.declared.ends.RunRefusal.{RunRefusal}

-- ---- one outcome
-- an answer, a stack and an output that the contract allows
pub record Allowed (a : Call) (r : Result declared.Ended RunRefusal) (stack output : List ℕ) : Type 0 where
  pub answer : answer_of r ≡ told (length a.input) (run_call a)
  pub stack_is : stack ≡ stack_of (run_call a) a.stack
  pub output-is : output ≡ output_of (run_call a) a.output

abbrev pub ClaimOne : Type 0
ClaimOne =
    (a : Call) (r r' : Result declared.Ended RunRefusal) (stack stack' output output' : List ℕ) → Allowed a r stack output → Allowed a r' stack' output'
    → (r ≡ r') × (stack ≡ stack') × (output ≡ output')

-- the same of `step`, whose stack keeps its length
abbrev pub ClaimOneStep : Type 0
ClaimOneStep =
    (states : ℕ) (input : List ℕ) (run : Run) (c : Config) (s : theory.Step) (r r' : Result Step StepRefusal) (stack stack' output output' old : List ℕ)
    → Stepped states input run c s r stack output old → Stepped states input run c s r' stack' output' old → length stack ≡ length stack'
    → (r ≡ r') × (stack ≡ stack') × (output ≡ output')

-- a step that is refused, an accept and an error leave stack and output as they stood
abbrev pub ClaimLeft : Type 0
ClaimLeft =
    (states : ℕ) (input : List ℕ) (run : Run) (c : Config) (why : Why) (r : Result Step StepRefusal) (stack stack' output output' old : List ℕ)
    → Lies states input stack output old c → Stepped states input run c (stops why) r stack' output' old → length stack ≡ length stack'
    → (stack ≡ stack') × (output ≡ output')

-- ---- the numbers and the steps
-- 1 to 7 alone, or 13 with a place of the input
abbrev pub ClaimNumbers : Type 0
ClaimNumbers =
    (a : Call) (why : List ℕ) → run_call a ≡ refused why
    → ((n : ℕ) × (why ≡ n ∷ []) × (1 ≤ n) × (n ≤ 7)) ⊎ ((i : ℕ) × (why ≡ 13 ∷ i ∷ []) × (i < length a.input))

-- however a run ends, its steps are the tokens shifted and the reductions, and one more for an accept or an error
abbrev pub ClaimSteps : Type 0
ClaimSteps =
    (a : Call) (why : Why) (n : ℕ) (c : Config) → run_call a ≡ is (ended why n c)
    → n ≡ counted why (length a.input - length (rest-of c) + length (outs c))

-- ---- exactly the derivable strings
-- numbers in range, tables long enough, and a step limit, stack and output of tokens + k + 1 each at least
pub record Roomy (a : Call) (k : ℕ) : Type 0 where
  pub states-most : a.states ≤ STATES
  pub actions-long : a.states * tokens a.block ≤ length a.actions
  pub gotos-long : a.states * rules a.block ≤ length a.gotos
  pub few-tokens : length a.input ≤ INPUT
  pub few-steps : a.limit ≤ STEPS
  pub allows : Allows (lent a.limit a.stack a.output) (length a.input + k + 1)

pub record Exactly (a : Call) : Type 0 where
  -- under any limits what is accepted is derivable, the reductions are its productions reversed, less the start production, and each is a step
  pub accepted-derivable : (n : ℕ) (c : Config) → run_call a ≡ is (ended Why.accept n c)
      → Derivation (grammar_of a.block) (start_prod a.block ∷ reverse (outs c)) a.input × (n ≡ suc (length a.input + length (outs c)))
  -- and it has no other rightmost derivation
  pub one-derivation : (ps qs : List ℕ) → Derivation (grammar_of a.block) ps a.input → Derivation (grammar_of a.block) qs a.input → ps ≡ qs
  -- with enough of each what is derivable is accepted
  pub derivable-accepted : (ρ : List ℕ) → Derivation (grammar_of a.block) (start_prod a.block ∷ reverse ρ) a.input → Roomy a (length ρ)
      → (c : Config) × (run_call a ≡ is (ended Why.accept (length a.input + length ρ + 1) c)) × (outs c ≡ ρ)
  -- 17 is never given
  pub no-bad-table : (n : ℕ) (c : Config) → run_call a ≢ is (ended Why.bad n c)

-- on the tables of any checked automaton, as words
abbrev pub ClaimExactly : Type 1
ClaimExactly =
    (a : Call) (A : Automaton) → Good a.block → Checked (grammar_of a.block) A
    → Agree (grammar_of a.block) (tables_in a.block a.states a.actions a.gotos) (tables A) → Exactly a
