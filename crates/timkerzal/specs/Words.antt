-- What an answer is in words: the number of a refusal and its values; or 0 and the values of the answer. Assumes nothing.
use Rattle.std.specs.Prelude.{List, [], ◌∷◌, ℕ, get_or}
use Rattle.knuth.specs.Tables as theory
use Rattle.pager.specs.Lists.{Answer, is, refused}
use Rattle.pager.specs.declared.call.Kept.{Kept}
use Rattle.statetable.specs.declared.call.Named.{Named}
use Rattle.statetable.specs.declared.call.Counts.{Counts}
use Rattle.machine.specs.Call.{Verdict}
use Rattle.machine.specs.declared.answers.Run.{Run}

-- the rooms that the caller names, one by one
abbrev pub named : (states items rr sr : ℕ) → Named
named states items rr sr = record { states = states; items = items; rr = rr; sr = sr }

-- a value of a refusal, 0 where it has none
abbrev pub at : List ℕ → ℕ → ℕ
at w i = get_or w i 0

-- a build: 11 gives r + 1 or 0 and the production, 12 gives token, production, state
abbrev pub built_words : Answer Counts → List ℕ
built_words (is k) = 0 ∷ k.states ∷ k.items ∷ k.before ∷ k.rr ∷ k.sr ∷ k.count ∷ []
built_words (refused w) = at w 0 ∷ at w 1 ∷ at w 2 ∷ at w 3 ∷ 0 ∷ 0 ∷ 0 ∷ []

abbrev pub graph_words : Answer Kept → List ℕ
graph_words (is k) = 0 ∷ k.states ∷ k.items ∷ k.before ∷ []
graph_words (refused w) = at w 0 ∷ 0 ∷ 0 ∷ 0 ∷ []

-- a run: 14 to 17 give the run as it stood, 13 gives the place
abbrev pub ran_words : Answer (Verdict × Run) → List ℕ
ran_words (is (Verdict.accept, e)) = 0 ∷ 1 ∷ e.at ∷ e.k ∷ e.steps ∷ e.height ∷ []
ran_words (is (Verdict.reject, e)) = 0 ∷ 0 ∷ e.at ∷ e.k ∷ e.steps ∷ e.height ∷ []
ran_words (is (Verdict.stopped n, e)) = n ∷ 0 ∷ e.at ∷ e.k ∷ e.steps ∷ e.height ∷ []
ran_words (refused w) = at w 0 ∷ 0 ∷ at w 1 ∷ 0 ∷ 0 ∷ 0 ∷ []

abbrev pub found_words : Answer ℕ → List ℕ
found_words (is x) = 0 ∷ x ∷ []
found_words (refused w) = at w 0 ∷ 0 ∷ []

-- an action: its kind as the low bits of a cell have it, then the state or the production
abbrev pub act_words : Answer theory.Action → List ℕ
act_words (is theory.Action.error) = 0 ∷ 0 ∷ 0 ∷ []
act_words (is (theory.Action.shift s)) = 0 ∷ 1 ∷ s ∷ []
act_words (is (theory.Action.reduce p)) = 0 ∷ 2 ∷ p ∷ []
act_words (is theory.Action.accept) = 0 ∷ 3 ∷ 0 ∷ []
act_words (refused w) = at w 0 ∷ 0 ∷ 0 ∷ []
