-- When a line of the list of queries holds. Assumes nothing.
use Rattle.std.specs.Prelude.{List, [], ◌∷◌, Result, ◌≡◌, ℕ, zero, suc, ◌≤◌, get_or}
use Rattle.words.specs.Given.{Given}
use Rattle.block.specs.Block.{tokens, rules, prods}
use Rattle.pager.specs.Lists.{Answer, is, refused}
use Rattle.statetable.specs.Queries.{query_of, acted_of, decoded}
use Rattle.statetable.specs.declared.cell.Action.{Action}
use Rattle.statetable.specs.declared.queries.QueryRefusal.{QueryRefusal}
use Rattle.listed_block.specs.Rooms.{BLOCK}

-- number word
abbrev pub found_words : Answer ℕ → List ℕ
found_words (is w) = 0 ∷ w ∷ []
found_words (refused why) = get_or why 0 0 ∷ 0 ∷ []

-- number word: they tell an answer, and the action is that answer read as a cell
pub record ActsTold (acts : Result Action QueryRefusal) (number word : ℕ) : Type 0 where
  pub answer : Answer ℕ
  pub words : number ∷ word ∷ [] ≡ found_words answer
  pub action : acted_of acts ≡ decoded answer

-- how wide a row is: 0 for an action, 1 for a goto, 2 for an offered mark, 3 for a shift mark, 4 for a core-reduce mark, 5 for a reduce-only mark
abbrev pub width_of : ℕ → List ℕ → ℕ
width_of zero b = tokens b
width_of (suc zero) b = rules b
width_of (suc (suc zero)) b = tokens b
width_of (suc (suc (suc zero))) b = tokens b
width_of (suc (suc (suc (suc zero)))) b = prods b
width_of (suc (suc (suc (suc (suc k))))) b = 1

abbrev pub asked_of : ℕ → List ℕ → ℕ → List ℕ → ℕ → ℕ → Answer ℕ
asked_of kind b states table s i = query_of b states table (width_of kind b) s i

-- state column → number word
pub record WordCase (kind : ℕ) (b : List ℕ) (states : ℕ) (table rest : List ℕ) : Type 0 where
  pub state : ℕ
  pub column : ℕ
  -- a reduce-only mark has no column
  pub none : kind ≡ 5 → column ≡ 0
  pub words : rest ≡ state ∷ column ∷ found_words (asked_of kind b states table state column)

-- states [table] state column → number word
pub record TableCase (kind : ℕ) (b rest : List ℕ) : Type 0 where
  pub states : ℕ
  pub more : List ℕ
  pub words : rest ≡ states ∷ more
  pub holds : Given BLOCK (WordCase kind b states) more

-- queries.txt: kind [block] states [table] state column → number word
pub record QueryCase (line : List ℕ) : Type 0 where
  pub kind : ℕ
  pub more : List ℕ
  pub words : line ≡ kind ∷ more
  pub known : kind ≤ 5
  pub holds : Given BLOCK (TableCase kind) more
