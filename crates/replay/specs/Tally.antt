-- The lines of a text, one after another, up to its end or to what is no line: how many there are, and how many do not hold. Assumes nothing.
use Rattle.std.specs.Prelude.{Bool, true, false, List, Option, Some, None, Result, Ok, Err, ◌↔◌, ◌≡◌, ℕ, zero, suc, length, replicate, take}
use Rattle.words.specs.declared.scan.Fault as words
use Rattle.words.specs.Words.{Read, number, end, fault, next_word}
use Rattle.words.specs.Lines.{line_from}
use Rattle.replay.specs.Lists.{LineCase}
use Rattle.replay.specs.declared.lines.Tally.{Tally}

-- most numbers on a line
abbrev pub LINE : ℕ
LINE = 16384

-- the line that comes next from place k on
unfoldable pub line_at : List ℕ → ℕ → Read × List ℕ
line_at text k = line_from text k (replicate LINE 0)

-- a line that holds, or that differs, and the place behind it; nothing but blanks; or the place of a fault
pub data Case : Type 0 where
  Holds : (place : ℕ) → Case
  Differs : (place : ℕ) → Case
  End : Case
  Fault : (place : ℕ) → Case

abbrev pub case_of : Result (Option (Bool × ℕ)) words.Fault → Case
case_of (Ok (Some (true, p))) = Holds p
case_of (Ok (Some (false, p))) = Differs p
case_of (Ok None) = End
case_of (Err f) = Fault f.place

-- what the line from place k on is
abbrev pub CaseIs : ℕ → List ℕ → ℕ → Case → Type 0
CaseIs list text k (Holds p) = (n : ℕ) × ((line_at text k).0 ≡ number n p) × LineCase list (take n (line_at text k).1)
CaseIs list text k (Differs p) = (n : ℕ) × ((line_at text k).0 ≡ number n p) × (LineCase list (take n (line_at text k).1) → ⊥)
CaseIs list text k End = (line_at text k).0 ≡ end
CaseIs list text k (Fault p) = (line_at text k).0 ≡ fault p

-- From place k on, with so many cases counted and so many that differ: where the count stops, and what it has come to. No line is shorter than a byte, so
-- that a text has no more turns than bytes; a count that has none left stops.
pub data Counted (list : ℕ) (text : List ℕ) : (turns k cases differ : ℕ) → (place all wrong : ℕ) → Type 0 where
  spent : (k c d : ℕ) → Counted list text zero k c d k c d
  ended : (t k c d : ℕ) → CaseIs list text k End → Counted list text (suc t) k c d k c d
  faulted : (t k c d p : ℕ) → CaseIs list text k (Fault p) → Counted list text (suc t) k c d k c d
  held : (t k c d p q a w : ℕ) → CaseIs list text k (Holds p) → Counted list text t p (suc c) d q a w → Counted list text (suc t) k c d q a w
  differed : (t k c d p q a w : ℕ) → CaseIs list text k (Differs p) → Counted list text t p (suc c) (suc d) q a w → Counted list text (suc t) k c d q a w

-- the tally of a text: its cases up to a place, those that differ, and whether only blanks follow
pub record TallyOf (list : ℕ) (text : List ℕ) (r : Tally) : Type 0 where
  pub place : ℕ
  pub counted : Counted list text (length text) 0 0 0 place r.cases r.differ
  pub whole : (r.whole ≡ true) ↔ (next_word text place ≡ end)

-- ---- what is claimed
-- a text has one tally
abbrev pub ClaimOne : Type 0
ClaimOne = (list : ℕ) (text : List ℕ) (r r' : Tally) → TallyOf list text r → TallyOf list text r' → r ≡ r'

-- from place k on each line holds, up to the end
pub data AllHold (list : ℕ) (text : List ℕ) : ℕ → Type 0 where
  none_left : (k : ℕ) → next_word text k ≡ end → AllHold list text k
  one_more : (k p : ℕ) → CaseIs list text k (Holds p) → AllHold list text p → AllHold list text k

-- where the text was read whole and none differs, each line holds
abbrev pub ClaimAll : Type 0
ClaimAll = (list : ℕ) (text : List ℕ) (r : Tally) → TallyOf list text r → r.whole ≡ true → r.differ ≡ 0 → AllHold list text 0
