-- When a line of the list of tables holds. Assumes nothing.
use Rattle.std.specs.Prelude.{List, ◌∷◌, ◌++◌, ◌≡◌, ℕ, ◌^◌, ◌<◌, ◌≤◌, length, get_or, replicate}
use Rattle.words.specs.Given.{Given}
use Rattle.statetable.specs.Build.{Buffers, lent_all, build_call, counted, leaves}
use Rattle.statetable.specs.declared.call.Named.{Named}
use Rattle.listed_block.specs.Rooms.{BLOCK, ROOM, bounded_of}
use Rattle.listed_pager.specs.Work.{work_of}
use Rattle.listed_pager.specs.Cases.{graph_parts, lent_for, WorkIn}
use Rattle.listed_pager.specs.declared.work.Work.{Work}
use Rattle.listed_statetable.specs.Tables.{numbers, table_parts}

-- eleven [buffer]
abbrev pub buffer_parts : Buffers → List ℕ
buffer_parts l =
    graph_parts l.graph (table_parts l.actions l.gotos l.offered l.shifts l.cores l.only l.rr l.sr)

-- a buffer of the length that stands at place k, full of one word
abbrev pub filled : ℕ → List ℕ → ℕ → List ℕ
filled fill lengths k = replicate (bounded_of (get_or lengths k 0)) fill

-- buffers of these eleven lengths, and the work room
abbrev pub lent_all_for : Work → ℕ → List ℕ → Buffers
lent_all_for work fill lengths =
    lent_all (lent_for work fill (get_or lengths 0 0) (get_or lengths 1 0) (get_or lengths 2 0)) (filled fill lengths 3) (filled fill lengths 4)
    (filled fill lengths 5) (filled fill lengths 6) (filled fill lengths 7) (filled fill lengths 8) (filled fill lengths 9)
    (filled fill lengths 10)

-- number a b c  states items before rr sr settled  eleven [buffer], and the work room
abbrev pub BuildSeen : List ℕ → Named → ℕ → Buffers → List ℕ → Type 0
BuildSeen b n fill l expected =
    (expected ≡ numbers (counted (build_call b n l)) ++ buffer_parts (leaves b n l))
    × WorkIn (get_or expected 0 0) (work_of b n.states) fill (leaves b n l).graph

-- eleven lengths  → number ..
pub record LentCase (b : List ℕ) (n : Named) (fill : ℕ) (rest : List ℕ) : Type 0 where
  pub lengths : List ℕ
  pub expected : List ℕ
  pub eleven : length lengths ≡ 11
  pub words : rest ≡ lengths ++ expected
  -- a block that may need more work room is too large for a case
  pub room : (work_of b n.states).closed ≤ ROOM
  pub seen : BuildSeen b n fill (lent_all_for (work_of b n.states) fill lengths) expected

-- S I limit-rr limit-sr fill  eleven lengths ..
pub record AskedCase (b rest : List ℕ) : Type 0 where
  pub named : Named
  pub fill : ℕ
  pub lengths : List ℕ
  pub words : rest ≡ named.states ∷ named.items ∷ named.rr ∷ named.sr ∷ fill ∷ lengths
  pub narrow : fill < 2 ^ 32
  pub lent : LentCase b named fill lengths

-- tables.txt: [block] S I limit-rr limit-sr fill  eleven lengths  → number a b c  states items before rr sr settled  eleven [buffer]
abbrev pub BuildCase : List ℕ → Type 0
BuildCase = Given BLOCK AskedCase
