-- What the calls that fill, copy and mark whole tables are lent, and what they leave. Assumes nothing.
use Rattle.std.specs.Prelude.{List, [], ◌++◌, map, ◌≡◌, ℕ, ◌+◌, ◌*◌, ◌≤◌, ◌<◌, length, get_or, drop, replicate, take, Result}
use Rattle.block.specs.Limits.{ITEM}
use Rattle.block.specs.Block.{tokens, rules, prods, symbols}
use Rattle.block.specs.Refusal.{Good}
use Rattle.pager.specs.Lists.{each, Answer, is, refused}
use Rattle.pager.specs.Place.{State}
use Rattle.pager.specs.Graph.{nowhere}
use Rattle.pager.specs.Given.{Given}
use Rattle.pager.specs.Memory.{pad, item_words, spans_from, edge_words}
use Rattle.pager.specs.Held.{STATES}
use Rattle.pager.specs.Building.{Scratch}
use Rattle.pager.specs.Call.{closed_part, zeroed}
use Rattle.statetable.specs.Limits.{RECORDS, RR, SR}
use Rattle.statetable.specs.Cells.{Rows}
use Rattle.statetable.specs.Marks.{shift_mark, core_marks, reduce_only}
use Rattle.statetable.specs.Laid.{words_rr, words_sr, tally_of, GoesOn, StoppedBy, Listed, AllIn}
use Rattle.statetable.specs.ForFilling.{Fillable}
use Rattle.statetable.specs.declared.records.Caps.{Caps}
use Rattle.statetable.specs.declared.records.Tally.{Tally}
use Rattle.statetable.specs.declared.refusal.BuildRefusal.{BuildRefusal}

-- rows one behind the other
abbrev pub flat : List (List ℕ) → List ℕ
flat rs = each (λ r. r) rs

-- the rule edges of each state, as gotos
abbrev pub goto_words : List ℕ → List State → List ℕ
goto_words b ss = each (λ st. take (rules b) st.edges) ss

-- The buffers hold a graph, however it was made, and behind it whatever stands there.
pub record GraphIn (b : List ℕ) (ss : List State) (items spans edges : List ℕ) : Type 0 where
  pub few : length ss ≤ STATES
  pub fillable : (n : ℕ) → n < length ss → Fillable b (get_or ss n nowhere)
  pub items-behind : List ℕ
  pub spans-behind : List ℕ
  pub edges-behind : List ℕ
  pub items-are : items ≡ item_words ss ++ items-behind
  pub spans-are : spans ≡ spans_from 0 ss ++ spans-behind
  pub edges_are : edges ≡ edge_words ss ++ edges-behind

-- a row for each of n states, as wide as there are tokens, of actions of the grammar
pub record TableRows (b : List ℕ) (n : ℕ) (rs : List (List ℕ)) : Type 0 where
  pub number : length rs ≡ n
  pub width : (i : ℕ) → i < n → length (get_or rs i []) ≡ tokens b
  pub actions : (i : ℕ) → i < n → AllIn b (get_or rs i [])

-- ---- the cells of n states, in rooms that are zero and just as long as they must be
pub record ForStates (b : List ℕ) (m : Caps) (n : ℕ) (items spans edges closed actions offered rr sr : List ℕ) (ss : List State) : Type 0 where
  pub good : Good b
  pub graph : GraphIn b ss items spans edges
  pub number : n ≡ length ss
  pub room : ITEM * (symbols b + prods b) ≤ length closed
  pub rr-fair : m.rr ≤ RECORDS
  pub sr-fair : m.sr ≤ RECORDS
  pub actions-are : actions ≡ replicate (n * tokens b) 0
  pub offered-are : offered ≡ replicate (n * tokens b) 0
  pub rr-are : rr ≡ replicate (RR * m.rr) 0
  pub sr-are : sr ≡ replicate (SR * m.sr) 0

pub record FilledRows (b : List ℕ) (m : Caps) (states : ℕ) (d : Rows) (n : Tally) (actions offered rr sr : List ℕ) : Type 0 where
  pub rows : TableRows b states d.cells
  pub listed : Listed m d.told n rr sr
  pub actions-are : actions ≡ flat d.cells
  pub offered-are : offered ≡ flat d.offered

abbrev pub FilledBy : Answer Rows → List ℕ → Caps → ℕ → Result Tally BuildRefusal → List ℕ → List ℕ → List ℕ → List ℕ → Type 0
FilledBy (is d) b m states r actions offered rr sr = GoesOn r (λ n. FilledRows b m states d n actions offered rr sr)
FilledBy (refused why) b m states r actions offered rr sr = StoppedBy why r

-- ---- the same in the first words of lent rooms, those words zero before
pub record ForNamed (b : List ℕ) (m : Caps) (n : ℕ) (items spans edges closed actions offered rr sr : List ℕ) (ss : List State) : Type 0 where
  pub good : Good b
  pub graph : GraphIn b ss items spans edges
  pub number : n ≡ length ss
  pub rr-fair : m.rr ≤ RECORDS
  pub sr-fair : m.sr ≤ RECORDS
  pub closed-room : closed_part b ≤ length closed
  pub actions-are : actions ≡ zeroed (n * tokens b) actions
  pub offered-are : offered ≡ zeroed (n * tokens b) offered
  pub rr-are : rr ≡ zeroed (RR * m.rr) rr
  pub sr-are : sr ≡ zeroed (SR * m.sr) sr

pub record NamedRows (b : List ℕ) (m : Caps) (states : ℕ) (d : Rows) (n : Tally) (actions offered rr sr actions' offered' rr' sr' : List ℕ) : Type 0 where
  pub tally : n ≡ tally_of d.told
  pub rows : TableRows b states d.cells
  pub actions-are : actions' ≡ flat d.cells ++ drop (states * tokens b) actions
  pub offered-are : offered' ≡ flat d.offered ++ drop (states * tokens b) offered
  pub rr-are : rr' ≡ pad (RR * m.rr) (each words_rr d.told.rr) ++ drop (RR * m.rr) rr
  pub sr-are : sr' ≡ pad (SR * m.sr) (each words_sr d.told.sr) ++ drop (SR * m.sr) sr

-- the filling had to stop; what stands behind the first words is as it was
pub record NamedStop (b : List ℕ) (m : Caps) (states : ℕ) (why : List ℕ) (r : Result Tally BuildRefusal) (actions offered rr sr actions' offered' rr' sr' : List ℕ) : Type 0 where
  pub stopped : StoppedBy why r
  pub actions-behind : Scratch (states * tokens b) actions actions'
  pub offered-behind : Scratch (states * tokens b) offered offered'
  pub rr-behind : Scratch (RR * m.rr) rr rr'
  pub sr-behind : Scratch (SR * m.sr) sr sr'

abbrev pub NamedBy : Answer Rows → List ℕ → Caps → ℕ → Result Tally BuildRefusal → List ℕ → List ℕ → List ℕ → List ℕ → List ℕ → List ℕ → List ℕ → List ℕ → Type 0
NamedBy (is d) b m states r actions offered rr sr actions' offered' rr' sr' = GoesOn r (λ n. NamedRows b m states d n actions offered rr sr actions' offered' rr' sr')
NamedBy (refused why) b m states r actions offered rr sr actions' offered' rr' sr' = NamedStop b m states why r actions offered rr sr actions' offered' rr' sr'

-- ---- the same in lent rooms, which `most` states would fit
pub record ForTables (b : List ℕ) (m : Caps) (most n : ℕ) (items spans edges closed actions offered rr sr : List ℕ) (ss : List State) : Type 0 where
  pub good : Good b
  pub graph : GraphIn b ss items spans edges
  pub number : n ≡ length ss
  pub fit : n ≤ most
  pub fair : most ≤ STATES
  pub rr-fair : m.rr ≤ RECORDS
  pub sr-fair : m.sr ≤ RECORDS
  pub closed-room : closed_part b ≤ length closed
  pub actions-room : most * tokens b ≤ length actions
  pub offered-room : most * tokens b ≤ length offered
  pub rr-room : RR * m.rr ≤ length rr
  pub sr-room : SR * m.sr ≤ length sr

-- the first n words after an answer: the words of what it gives, zero where nothing stands; all zero after a refusal; and behind them what stood there
abbrev pub given : {A : Type 0} → Answer A → ℕ → (A → List ℕ) → List ℕ → List ℕ
given (is a) n words before = pad n (words a) ++ drop n before
given (refused why) n words before = replicate n 0 ++ drop n before

abbrev pub TallyBy : Answer Rows → Result Tally BuildRefusal → Type 0
TallyBy (is d) r = GoesOn r (λ n. n ≡ tally_of d.told)
TallyBy (refused why) r = StoppedBy why r

pub record TablesFilled (a : Answer Rows) (b : List ℕ) (m : Caps) (most states : ℕ) (r : Result Tally BuildRefusal) (actions offered rr sr actions' offered' rr' sr' : List ℕ) : Type 0 where
  pub tally : TallyBy a r
  pub rows : Given a (λ d. TableRows b states d.cells)
  pub actions-are : actions' ≡ given a (most * tokens b) (λ d. flat d.cells) actions
  pub offered-are : offered' ≡ given a (most * tokens b) (λ d. flat d.offered) offered
  pub rr-are : rr' ≡ given a (RR * m.rr) (λ d. each words_rr d.told.rr) rr
  pub sr-are : sr' ≡ given a (SR * m.sr) (λ d. each words_sr d.told.sr) sr

-- ---- gotos and marks, from edges and cells
pub record ForGotos (b : List ℕ) (n : ℕ) (edges gotos : List ℕ) (ss : List State) : Type 0 where
  pub good : Good b
  pub number : n ≡ length ss
  pub few : n ≤ STATES
  pub widths : (i : ℕ) → i < n → length (get_or ss i nowhere).edges ≡ rules b + tokens b
  pub edges-behind : List ℕ
  pub edges_are : edges ≡ edge_words ss ++ edges-behind
  pub room : length gotos ≡ n * rules b

pub record ForMarks (b : List ℕ) (n : ℕ) (actions cores only : List ℕ) (rs : List (List ℕ)) : Type 0 where
  pub good : Good b
  pub few : n ≤ STATES
  pub rows : TableRows b n rs
  pub actions-are : actions ≡ flat rs
  pub cores-are : cores ≡ replicate (n * prods b) 0
  pub room : length only ≡ n

pub record ForDerived (b : List ℕ) (most n : ℕ) (edges actions gotos shifts cores only : List ℕ) (ss : List State) (rs : List (List ℕ)) : Type 0 where
  pub good : Good b
  pub number : n ≡ length ss
  pub fit : n ≤ most
  pub fair : most ≤ STATES
  pub widths : (i : ℕ) → i < n → length (get_or ss i nowhere).edges ≡ rules b + tokens b
  pub edges-behind : List ℕ
  pub edges_are : edges ≡ edge_words ss ++ edges-behind
  pub rows : TableRows b n rs
  pub actions-behind : List ℕ
  pub actions-are : actions ≡ flat rs ++ actions-behind
  pub gotos-room : most * rules b ≤ length gotos
  pub shifts-room : most * tokens b ≤ length shifts
  pub cores-room : most * prods b ≤ length cores
  pub only-room : most ≤ length only

pub record Derived (b : List ℕ) (most : ℕ) (ss : List State) (rs : List (List ℕ)) (gotos shifts cores only gotos' shifts' cores' only' : List ℕ) : Type 0 where
  pub gotos-are : gotos' ≡ pad (most * rules b) (goto_words b ss) ++ drop (most * rules b) gotos
  pub shifts-are : shifts' ≡ pad (most * tokens b) (map shift_mark (flat rs)) ++ drop (most * tokens b) shifts
  pub cores-are : cores' ≡ pad (most * prods b) (each (core_marks (prods b)) rs) ++ drop (most * prods b) cores
  pub only-are : only' ≡ pad most (map (reduce_only (prods b)) rs) ++ drop most only
