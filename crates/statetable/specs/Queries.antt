-- The queries of lent tables: a word of a row, or why there is none. Assumes nothing.
use Rattle.std.specs.Prelude.{Bool, ◌&&◌, cond, List, [], ◌∷◌, Result, Ok, Err, ℕ, ◌+◌, ◌*◌, ◌%◌, ◌/◌, ltb, eqb, length, get_or}
use Rattle.knuth.specs.Tables as theory
use Rattle.block.specs.Block.{tokens, rules}
use Rattle.block.specs.Refusal.{refusal_of}
use Rattle.block.specs.Refused as block
use Rattle.pager.specs.Lists.{Answer, is, refused, unless}
use Rattle.pager.specs.Held.{STATES}
use Rattle.pager.specs.Call.{some_less}
use Rattle.statetable.specs.Cell.{decode}
use Rattle.statetable.specs.Named.{action_of}
use Rattle.statetable.specs.declared.cell.Action.{Action}
use Rattle.statetable.specs.declared.queries.QueryRefusal.{QueryRefusal}
use Rattle.statetable.specs.declared.queries.QueryRefusal.TheVariants.{Block, RoomShort, NoSuch}

-- 7: the state count out of range, or the table shorter than so many rows
unfoldable pub table_short : (states length width : ℕ) → Bool
table_short states have width = some_less ((states, 1) ∷ (STATES, states) ∷ (have, states * width) ∷ [])

-- the word in row s and column i of so many rows of that width; 7, or 18: no such state, or no such column
unfoldable pub table_word : (states : ℕ) → List ℕ → (width s i : ℕ) → Answer ℕ
table_word states table width s i =
    cond (table_short states (length table) width) (refused (7 ∷ []))
    (cond (ltb s states && ltb i width) (is (get_or table (s * width + i) 0)) (refused (18 ∷ [])))

-- 1 to 6 before that
unfoldable pub query_of : List ℕ → (states : ℕ) → List ℕ → (width s i : ℕ) → Answer ℕ
query_of b states table width s i = unless (refusal_of b) (table_word states table width s i)

-- the column of a symbol among the edges, rules before tokens; past the last for no symbol
unfoldable pub column_of : List ℕ → ℕ → ℕ
column_of b x =
    cond (eqb (x % 2) 0) (cond (ltb (x / 2) (rules b)) (x / 2) (rules b + tokens b)) (rules b + x / 2)

-- document 01's number of a refusal
abbrev pub number_of : QueryRefusal → ℕ
number_of (Block e) = block.number_of e
number_of RoomShort = 7
number_of NoSuch = 18

-- what the code answers
abbrev pub found_of : Result ℕ QueryRefusal → Answer ℕ
found_of (Ok w) = is w
found_of (Err e) = refused (number_of e ∷ [])

abbrev pub acted_of : Result Action QueryRefusal → Answer theory.Action
acted_of (Ok a) = is (action_of a)
acted_of (Err e) = refused (number_of e ∷ [])

-- a word read as a cell
abbrev pub decoded : Answer ℕ → Answer theory.Action
decoded (is w) = is (decode w)
decoded (refused why) = refused why
