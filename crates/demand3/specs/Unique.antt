-- Where the contract of a public function says its answer through a function of the answer, two answers that it allows coincide. (Most contracts are equations with
-- the answer itself and need no law; docs/THEOREMS.md has the list.) Assumes nothing.
use Rattle.std.specs.Prelude.{Bool, true, IfOk, List, Result, Ok, Err, ◌↔◌, ◌≡◌, ℕ}
use Rattle.knuth.specs.Tables as theory
use Rattle.block.specs.Refused.{told}
use Rattle.block.specs.declared.grammar.Grammar.{Grammar}
use Rattle.block.specs.declared.refusal.BlockRefusal.{BlockRefusal}
use Rattle.block.specs.declared.set.TokenSet.{TokenSet}
use Rattle.itemset.specs.Rows.{Row}
use Rattle.itemset.specs.Lent.{Wrote}
use Rattle.itemset.specs.Sights.{SightsAre}
use Rattle.itemset.specs.declared.goto.Sights.{Sights}
use Rattle.pager.specs.Lists.{Answer}
use Rattle.statetable.specs.Named.{action_of}
use Rattle.statetable.specs.Queries.{found_of, acted_of}
use Rattle.statetable.specs.declared.cell.Action.{Action}
use Rattle.statetable.specs.declared.queries.QueryRefusal.{QueryRefusal}

-- `Grammar::check`: the refusal, or the grammar's words; only where in memory they stand is left out
abbrev pub words_in : Result Grammar BlockRefusal → Result (List ℕ) BlockRefusal
words_in (Ok g) = Ok g.words.now
words_in (Err e) = Err e

abbrev pub ClaimChecked : Type 0
ClaimChecked =
    (b : List ℕ) (n : ℕ) (r r' : Result Grammar BlockRefusal)
    → told r ≡ n → IfOk r (λ g. g.words.now ≡ b) → told r' ≡ n → IfOk r' (λ g. g.words.now ≡ b) → words_in r ≡ words_in r'

-- `decode`
abbrev pub ClaimDecode : Type 0
ClaimDecode = (a : theory.Action) (r r' : Action) → action_of r ≡ a → action_of r' ≡ a → r ≡ r'

-- the queries of a word, and of an action
abbrev pub ClaimFound : Type 0
ClaimFound = (a : Answer ℕ) (r r' : Result ℕ QueryRefusal) → found_of r ≡ a → found_of r' ≡ a → r ≡ r'

abbrev pub ClaimActs : Type 0
ClaimActs = (a : Answer theory.Action) (r r' : Result Action QueryRefusal) → acted_of r ≡ a → acted_of r' ≡ a → r ≡ r'

-- a set that a method or `load` answers: its words
abbrev pub ClaimSet : Type 0
ClaimSet = (w : List ℕ) (r r' : TokenSet) → r.words ≡ w → r'.words ≡ w → r ≡ r'

-- yes exactly if something holds: `==` of sets, `meets`, `rows_right`
abbrev pub ClaimYes : Type 1
ClaimYes = (P : Type 0) (r r' : Bool) → ((r ≡ true) ↔ P) → ((r' ≡ true) ↔ P) → r ≡ r'

-- rows that stand in front of a room: `close`, `goto_kernel`
abbrev pub ClaimRows : Type 0
ClaimRows =
    (rs : List Row) (before : List ℕ) (n n' : ℕ) (after after' : List ℕ) → Wrote rs n before after → Wrote rs n' before after' → (n ≡ n') × (after ≡ after')

-- the symbols of `sights_of`
abbrev pub ClaimSights : Type 0
ClaimSights = (xs : List ℕ) (r r' : Sights) → SightsAre r xs → SightsAre r' xs → (r.count ≡ r'.count) × (r.symbols ≡ r'.symbols)
