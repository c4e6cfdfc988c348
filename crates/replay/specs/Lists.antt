-- When a line of the list of that number holds. Assumes nothing.
use Rattle.std.specs.Prelude.{List, [], ◌∷◌, ◌≡◌, ℕ, zero, suc, ◌≤◌}
use Rattle.listed_block.specs.Cases.{BlockCase, BodyCase, FirstsCase}
use Rattle.listed_itemset.specs.Cases.{ClosureCase}
use Rattle.listed_pager.specs.Cases.{GraphCase}
use Rattle.listed_statetable.specs.Builds.{BuildCase}
use Rattle.listed_statetable.specs.Queries.{QueryCase}
use Rattle.listed_machine.specs.Cases.{RunCase}

-- what the list of that number asks of a line; nothing holds of a list that is not there
abbrev pub asked : List (List ℕ → Type 0) → ℕ → List ℕ → Type 0
asked [] n line = ⊥
asked (P ∷ Ps) zero line = P line
asked (P ∷ Ps) (suc n) line = asked Ps n line

-- the lists from 0 on, by the numbers that the list of refusals gives them; those that it leaves out follow
abbrev pub lists : List (List ℕ → Type 0)
lists = BlockCase ∷ BodyCase ∷ GraphCase ∷ BuildCase ∷ QueryCase ∷ RunCase ∷ FirstsCase ∷ ClosureCase ∷ []

unfoldable pub CaseOf : ℕ → List ℕ → Type 0
CaseOf = asked lists

-- the last list whose calls can refuse, and the list of refusals
abbrev pub RUNS : ℕ
RUNS = 5

abbrev pub REFUSALS : ℕ
REFUSALS = 8

-- refusals.txt: call  rest of the line
pub record RefusalCase (line : List ℕ) : Type 0 where
  pub call : ℕ
  pub rest : List ℕ
  pub words : line ≡ call ∷ rest
  pub refuses : call ≤ RUNS
  pub holds : CaseOf call rest

-- a line of any list
pub record LineCase (list : ℕ) (line : List ℕ) : Type 0 where
  pub refusal : list ≡ REFUSALS → RefusalCase line
  pub call : (list ≡ REFUSALS → ⊥) → CaseOf list line
