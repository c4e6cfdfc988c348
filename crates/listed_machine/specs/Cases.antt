-- When a line of the list of runs holds. Assumes nothing.
use Rattle.std.specs.Prelude.{List, [], ◌∷◌, ◌++◌, ◌≡◌, ℕ, ◌^◌, ◌<◌, length, get_or, replicate}
use Rattle.words.specs.Given.{as_part, Given}
use Rattle.pager.specs.Lists.{Answer, is, refused}
use Rattle.machine.specs.Call.{Call, called, run_call, Verdict, told, stack_of, output_of}
use Rattle.machine.specs.declared.answers.Run.{Run}
use Rattle.listed_block.specs.Rooms.{BLOCK, bounded_of}

-- number place k steps height
abbrev pub numbers_at : (number place : ℕ) → Run → List ℕ
numbers_at number place r = number ∷ place ∷ r.k ∷ r.steps ∷ r.height ∷ []

-- the place is that of a reject or of a bad token, else 0
abbrev pub verdict_numbers : Verdict → Run → List ℕ
verdict_numbers Verdict.accept r = numbers_at 0 0 r
verdict_numbers Verdict.reject r = numbers_at 100 r.at r
verdict_numbers (Verdict.stopped n) r = numbers_at n 0 r

abbrev pub numbers : Answer (Verdict × Run) → List ℕ
numbers (is (v, r)) = verdict_numbers v r
numbers (refused why) = get_or why 0 0 ∷ get_or why 1 0 ∷ 0 ∷ 0 ∷ 0 ∷ []

-- number place k steps height [stack] [output]
abbrev pub run_words : Call → List ℕ
run_words a =
    numbers (told (length a.input) (run_call a))
    ++ (as_part (stack_of (run_call a) a.stack) ++ as_part (output_of (run_call a) a.output))

-- step-limit fill stack-length output-length  → number place k steps height [stack] [output]
pub record LentCase (b : List ℕ) (states : ℕ) (actions gotos input rest : List ℕ) : Type 0 where
  pub limit : ℕ
  pub fill : ℕ
  pub stack : ℕ
  pub output : ℕ
  pub narrow : fill < 2 ^ 32
  pub words : rest
      ≡ limit
      ∷ fill
      ∷ stack
      ∷ output
      ∷ run_words (called b states actions gotos input limit (replicate (bounded_of stack) fill) (replicate (bounded_of output) fill))

-- [gotos] [input] step-limit ..
abbrev pub InputCase : List ℕ → ℕ → List ℕ → List ℕ → Type 0
InputCase b states actions = Given BLOCK (λ gotos. Given BLOCK (λ input. LentCase b states actions gotos input))

-- states [actions] [gotos] [input] step-limit ..
pub record TablesCase (b rest : List ℕ) : Type 0 where
  pub states : ℕ
  pub tables : List ℕ
  pub words : rest ≡ states ∷ tables
  pub holds : Given BLOCK (InputCase b states) tables

-- runs.txt: [block] states [actions] [gotos] [input] step-limit fill stack-length output-length
--   → number place k steps height [stack] [output]
abbrev pub RunCase : List ℕ → Type 0
RunCase = Given BLOCK TablesCase
