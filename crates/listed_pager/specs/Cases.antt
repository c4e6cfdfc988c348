-- When a line of the list of graphs holds. Assumes nothing.
use Rattle.std.specs.Prelude.{List, [], ◌∷◌, ◌++◌, ◌≡◌, ℕ, ◌^◌, ◌<◌, ◌≤◌, get_or, replicate}
use Rattle.words.specs.Given.{as_part, Given}
use Rattle.pager.specs.Lists.{Answer, is, refused}
use Rattle.pager.specs.Place.{Limits}
use Rattle.pager.specs.Call.{Buffers, lent, named, graph_call, counted, leaves}
use Rattle.pager.specs.declared.call.Kept.{Kept}
use Rattle.listed_block.specs.Rooms.{BLOCK, ROOM, bounded_of}
use Rattle.listed_pager.specs.Work.{lent_of, work_of, WorkLeft}
use Rattle.listed_pager.specs.declared.work.Work.{Work}

-- number  states items before
abbrev pub numbers : Answer Kept → List ℕ
numbers (is k) = 0 ∷ k.states ∷ k.items ∷ k.before ∷ []
numbers (refused why) = get_or why 0 0 ∷ 0 ∷ 0 ∷ 0 ∷ []

-- [items] [spans] [edges]  and so on
abbrev pub graph_parts : Buffers → List ℕ → List ℕ
graph_parts l more = as_part l.items ++ (as_part l.spans ++ (as_part l.edges ++ more))

-- buffers of these lengths, full of one word, and the work room
abbrev pub lent_for : Work → (fill items spans edges : ℕ) → Buffers
lent_for work fill items spans edges =
    lent (replicate (bounded_of items) fill) (replicate (bounded_of spans) fill) (replicate (bounded_of edges) fill) (replicate (lent_of work.marks) fill)
    (replicate (lent_of work.closed) fill) (replicate (lent_of work.kernel) fill)

-- the work room that the buffers have
abbrev pub WorkIn : ℕ → Work → ℕ → Buffers → Type 0
WorkIn number work fill l = WorkLeft number work fill l.marks l.closed l.kernel

-- number  states items before  [items] [spans] [edges], and the work room
abbrev pub GraphSeen : List ℕ → Limits → ℕ → Buffers → List ℕ → Type 0
GraphSeen b m fill l expected =
    (expected ≡ numbers (counted (graph_call b m l)) ++ graph_parts (leaves b m l) [])
    × WorkIn (get_or expected 0 0) (work_of b m.states) fill (leaves b m l)

-- lengths: items spans edges  → number ..
pub record LentCase (b : List ℕ) (m : Limits) (fill : ℕ) (rest : List ℕ) : Type 0 where
  pub items : ℕ
  pub spans : ℕ
  pub edges : ℕ
  pub expected : List ℕ
  pub words : rest ≡ items ∷ spans ∷ edges ∷ expected
  -- a block that may need more work room is too large for a case
  pub room : (work_of b m.states).closed ≤ ROOM
  pub seen : GraphSeen b m fill (lent_for (work_of b m.states) fill items spans edges) expected

-- S I fill  lengths ..
pub record AskedCase (b rest : List ℕ) : Type 0 where
  pub states : ℕ
  pub most : ℕ
  pub fill : ℕ
  pub lengths : List ℕ
  pub words : rest ≡ states ∷ most ∷ fill ∷ lengths
  pub narrow : fill < 2 ^ 32
  pub lent : LentCase b (named states most) fill lengths

-- graphs.txt: [block] S I fill  lengths: items spans edges  → number  states items before  [items] [spans] [edges]
abbrev pub GraphCase : List ℕ → Type 0
GraphCase = Given BLOCK AskedCase
