-- The steps of collection on the parts of the buffers that hold the states: what each asks, and what it leaves. Assumes nothing.
use Rattle.std.specs.Prelude.{Bool, true, false, ◌⊎◌, ◌≡◌, ℕ, zero, suc, ◌+◌, ◌*◌, ◌≤◌, ◌<◌, ltb, length, get_or}
use mathlib.Core.List.{List, [], ◌∷◌, foldl}
use Rattle.block.specs.Limits.{ITEM}
use Rattle.itemset.specs.Rows.{Sets}
use Rattle.pager.specs.Place.{State}
use Rattle.pager.specs.Graph.{nowhere}
use Rattle.pager.specs.Collect.{mark_to, rank, kept}
use Rattle.pager.specs.Memory.{pad, item_words, spans_from, edge_words}
use Rattle.pager.specs.Held.{STATES, count_of}
use Rattle.pager.specs.declared.room.Count.{Count}

-- ---- the marks: two words a state, the first its mark, the second a place of the stack
abbrev pub flags_of : List ℕ → List Bool
flags_of [] = []
flags_of (w ∷ []) = []
flags_of (w ∷ v ∷ ws) = ltb 0 w ∷ flags_of ws

-- how many are marked
abbrev pub count : List Bool → ℕ
count [] = 0
count (true ∷ ms) = suc (count ms)
count (false ∷ ms) = count ms

-- place j of the stack
abbrev pub stack_at : List ℕ → ℕ → ℕ
stack_at marks j = get_or marks (2 * j + 1) 0

-- ---- one row of edges: each word has its mark, and there is room on the stack for each state that is not yet marked
pub record RowReady (row marks : List ℕ) (h : ℕ) : Type 0 where
  pub low : (i : ℕ) → 2 * get_or row i 0 ≤ length marks
  pub room : h ≤ count (flags_of marks)

-- state k stands on the stack between h and e
abbrev pub OnStack : List ℕ → ℕ → ℕ → ℕ → Type 0
OnStack marks h e k = (j : ℕ) × (h ≤ j) × (j < e) × (stack_at marks j ≡ k)

-- the targets are marked, and those newly marked are put on the stack, whose height h has become e
pub record RowReached (row marks : List ℕ) (h : ℕ) (marks' : List ℕ) (e : ℕ) : Type 0 where
  pub grows : h ≤ e
  pub flags : flags_of marks' ≡ foldl mark_to (flags_of marks) row
  pub old : (j : ℕ) → j < h → stack_at marks' j ≡ stack_at marks j
  pub marked : (j : ℕ) → h ≤ j → j < e → get_or (flags_of marks') (stack_at marks' j) false ≡ true
  pub new : (k : ℕ) → get_or (flags_of marks') k false ≡ true → (get_or (flags_of marks) k false ≡ true) ⊎ OnStack marks' h e k
  pub height : e + count (flags_of marks) ≡ h + count (flags_of marks')

-- ---- what the search and the moving of edges ask: a state, as many edges in each, and each to a state
pub record Shaped (width : ℕ) (ss : List State) : Type 0 where
  pub some : 0 < length ss
  pub wide : (n : ℕ) → n < length ss → length (get_or ss n nowhere).edges ≡ width
  pub low : (n i : ℕ) → get_or (get_or ss n nowhere).edges i 0 ≤ length ss

-- the edges alone, and the marks, with nothing behind them
pub record EdgePart (width : ℕ) (ss : List State) (edges marks : List ℕ) : Type 0 where
  pub shaped : Shaped width ss
  pub edges-is : edges ≡ edge_words ss
  pub marks-long : length marks ≡ 2 * length ss

-- the items and spans alone, and the marks
pub record ItemPart (ss : List State) (items spans marks : List ℕ) : Type 0 where
  pub sets : (n : ℕ) → n < length ss → Sets (get_or ss n nowhere).rows
  pub items-is : items ≡ item_words ss
  pub spans-is : spans ≡ spans_from 0 ss
  pub marks-long : length marks ≡ 2 * length ss

-- ---- the numbers: a marked state has its new number and one more
abbrev pub Numbers : List Bool → List ℕ → Type 0
Numbers ms marks = (k : ℕ) → get_or ms k false ≡ true → get_or marks (2 * k) 0 ≡ suc (rank ms k)

pub record Renumbered (marks marks' : List ℕ) : Type 0 where
  pub flags : flags_of marks' ≡ flags_of marks
  pub numbers : Numbers (flags_of marks) marks'

-- the new word of an edge word
unfoldable pub number_in : List ℕ → ℕ → ℕ
number_in marks zero = 0
number_in marks (suc t) = get_or marks (2 * t) 0

-- edges lead from a marked state to marked states, which have their numbers
pub record Numbered (ss : List State) (marks : List ℕ) : Type 0 where
  pub numbers : Numbers (flags_of marks) marks
  pub closed : (n i t : ℕ) → get_or (flags_of marks) n false ≡ true → get_or (get_or ss n nowhere).edges i 0 ≡ suc t → get_or (flags_of marks) t false ≡ true

-- ---- the states that are marked, renumbered
abbrev pub kept_by : List ℕ → List State → List State
kept_by marks ss = kept (flags_of marks) (flags_of marks) ss

-- what the moving of state s asks, where k states with so many rows are moved: its span, and its rows, not above where they are moved to
pub record Movable (its spans : List ℕ) (k row s : ℕ) : Type 0 where
  pub span-in : 2 * s + 1 < length spans
  pub state-low : k ≤ s
  pub row_low : row ≤ get_or spans (2 * s) 0
  pub part_in : ITEM * get_or spans (2 * s) 0 + ITEM * get_or spans (2 * s + 1) 0 ≤ length its

-- the items and spans of the states rr, zero behind them
pub record ItemsLeft (rr : List State) (items₀ spans₀ : List ℕ) (r : Count) (items spans : List ℕ) : Type 0 where
  pub answer : r ≡ count_of rr
  pub items-are : items ≡ pad (length items₀) (item_words rr)
  pub spans-are : spans ≡ pad (length spans₀) (spans_from 0 rr)

-- ---- all four parts, before and after
pub record Parts (width : ℕ) (ss : List State) (items spans edges marks : List ℕ) : Type 0 where
  pub few : length ss ≤ STATES
  pub item-part : ItemPart ss items spans marks
  pub edge-part : EdgePart width ss edges marks

pub record Left (rr : List State) (items₀ spans₀ edges₀ marks₀ : List ℕ) (r : Count) (items spans edges marks : List ℕ) : Type 0 where
  pub items_left : ItemsLeft rr items₀ spans₀ r items spans
  pub edges_are : edges ≡ pad (length edges₀) (edge_words rr)
  pub marks-are : marks ≡ pad (length marks₀) []
