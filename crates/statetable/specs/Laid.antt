-- The row of a state and the two lists as they lie in lent memory, and what a step of the filling leaves. Assumes nothing.
use Rattle.std.specs.Prelude.{List, [], ◌∷◌, ◌≡◌, ℕ, ◌*◌, ◌≤◌, ◌<◌, length, get_or, Result, Ok, Err}
use Rattle.knuth.specs.Tables.{Action}
use Rattle.block.specs.Block.{tokens, prods}
use Rattle.block.specs.Refusal.{Good}
use Rattle.pager.specs.Lists.{each, Answer, is, refused}
use Rattle.pager.specs.Memory.{pad}
use Rattle.pager.specs.Held.{STATES}
use Rattle.statetable.specs.Limits.{RECORDS, RR, SR}
use Rattle.statetable.specs.Cell.{decode}
use Rattle.statetable.specs.Refusals.{values_of}
use Rattle.statetable.specs.Verdict.{Verdict, writes, two-reduces, unsettled, settled, stops}
use Rattle.statetable.specs.Cells.{ReduceReduce, reduce-reduce, ShiftReduce, shift-reduce, Told, Fill}
use Rattle.statetable.specs.declared.records.Caps.{Caps}
use Rattle.statetable.specs.declared.records.Tally.{Tally}
use Rattle.statetable.specs.declared.verdict.Verdict as code
use Rattle.statetable.specs.declared.verdict.Verdict.TheVariants.{Write, TwoReduces, Unsettled, Settled}
use Rattle.statetable.specs.declared.refusal.BuildRefusal.{BuildRefusal}

-- ---- the records as words
abbrev pub words_rr : ReduceReduce → List ℕ
words_rr (reduce-reduce t a o s) = t ∷ a ∷ o ∷ s ∷ []

abbrev pub words_sr : ShiftReduce → List ℕ
words_sr (shift-reduce t p s) = t ∷ p ∷ s ∷ []

-- ---- what the code says of a verdict, and of the walk
abbrev pub settles_of : code.Verdict → Verdict
settles_of (Write w) = writes w
settles_of (TwoReduces w a o) = two-reduces w a o
settles_of (Unsettled w p) = unsettled w p
settles_of (Settled w) = settled w

abbrev pub verdict_of : Result code.Verdict BuildRefusal → Verdict
verdict_of (Ok v) = settles_of v
verdict_of (Err e) = stops (values_of e)

-- the numbers of what was told
abbrev pub tally_of : Told → Tally
tally_of k = record { rr = length k.rr; sr = length k.sr; count = k.count }

-- the walk goes on, with P of its numbers
abbrev pub GoesOn : Result Tally BuildRefusal → (Tally → Type 0) → Type 0
GoesOn (Ok n) P = P n
GoesOn (Err e) P = ⊥

-- the walk has stopped, and that is why
abbrev pub StoppedBy : List ℕ → Result Tally BuildRefusal → Type 0
StoppedBy why (Ok n) = ⊥
StoppedBy why (Err e) = why ≡ values_of e

-- ---- a list with room for `most` records of `width` words holds records
pub record ListOf {A : Type 0} (words : A → List ℕ) (width most : ℕ) (rs : List A) (buffer : List ℕ) : Type 0 where
  pub fair : most ≤ RECORDS
  pub few : length rs ≤ most
  pub is : buffer ≡ pad (width * most) (each words rs)

-- both lists, and the numbers that go with them
pub record Listed (m : Caps) (k : Told) (n : Tally) (rr sr : List ℕ) : Type 0 where
  pub reduces : ListOf words_rr RR m.rr k.rr rr
  pub shifts : ListOf words_sr SR m.sr k.sr sr
  pub counts : n ≡ tally_of k

-- ---- for a verdict on cell t
pub record ForVerdict (m : Caps) (f : Fill) (n : Tally) (t : ℕ) (cells rr sr : List ℕ) : Type 0 where
  pub listed : Listed m f.told n rr sr
  pub cells_are : cells ≡ f.cells
  pub there : t < length f.cells
  pub narrow : t < STATES
  pub count : f.told.count < RECORDS * RECORDS

abbrev pub SettledBy : Answer Fill → Caps → Result Tally BuildRefusal → List ℕ → List ℕ → List ℕ → Type 0
SettledBy (is g) m r cells rr sr = GoesOn r (λ n. Listed m g.told n rr sr × (cells ≡ g.cells))
SettledBy (refused why) m r cells rr sr = StoppedBy why r

-- ---- the row of a state
-- an action of the grammar: what is reduced is a production
abbrev pub ActionIn : List ℕ → Action → Type 0
ActionIn b (Action.reduce p) = p < prods b
ActionIn b (Action.shift u) = Unit {0}
ActionIn b Action.accept = Unit {0}
ActionIn b Action.error = Unit {0}

abbrev pub AllIn : List ℕ → List ℕ → Type 0
AllIn b cells = (t : ℕ) → t < length cells → ActionIn b (decode (get_or cells t 0))

-- The row of state s is f's, and the lists hold what was told; at most c choices were made by precedence.
pub record Laid (b : List ℕ) (m : Caps) (s c : ℕ) (f : Fill) (n : Tally) (cells offered rr sr : List ℕ) : Type 0 where
  pub good : Good b
  pub state : s < STATES
  pub width : length f.cells ≡ tokens b
  pub marks : length f.offered ≡ tokens b
  pub actions : AllIn b f.cells
  pub cells_are : cells ≡ f.cells
  pub offered-are : offered ≡ f.offered
  pub listed : Listed m f.told n rr sr
  pub count : f.told.count ≤ c

abbrev pub LeftBy : Answer Fill → List ℕ → Caps → ℕ → ℕ → Result Tally BuildRefusal → List ℕ → List ℕ → List ℕ → List ℕ → Type 0
LeftBy (is g) b m s c r cells offered rr sr = GoesOn r (λ n. Laid b m s c g n cells offered rr sr)
LeftBy (refused why) b m s c r cells offered rr sr = StoppedBy why r
