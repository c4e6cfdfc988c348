-- The struct that is filled: what it holds, and what a step of the filling leaves in it. Assumes nothing.
use Rattle.std.specs.Prelude.{List, ◌≡◌, ℕ, Result, Ok, Err}
use Rattle.pager.specs.Lists.{Answer}
use Rattle.statetable.specs.Cells.{Fill}
use Rattle.statetable.specs.Laid.{ForVerdict, SettledBy, Laid, LeftBy}
use Rattle.statetable.specs.declared.records.Tally.{Tally}
use Rattle.statetable.specs.declared.refusal.BuildRefusal.{BuildRefusal}
use Rattle.statetable.specs.declared.fill.Filling.{Filling}

-- the same room is lent still, for the same state
pub record IsSame (old new : Filling) : Type 0 where
  pub cells : new.cells.ghost_name ≡ old.cells.ghost_name
  pub offered : new.offered.ghost_name ≡ old.offered.ghost_name
  pub rr : new.rr.ghost_name ≡ old.rr.ghost_name
  pub sr : new.sr.ghost_name ≡ old.sr.ghost_name
  pub caps : new.caps ≡ old.caps
  pub state : new.state ≡ old.state

-- the numbers that are held, if nothing is refused
abbrev pub told_by : Result (Unit {0}) BuildRefusal → Tally → Result Tally BuildRefusal
told_by (Ok u) n = Ok n
told_by (Err e) n = Err e

-- for a verdict on cell t
abbrev pub ForVerdictIn : Fill → ℕ → Filling → Type 0
ForVerdictIn f t x = ForVerdict x.caps f x.told t x.cells.now x.rr.now x.sr.now

abbrev pub SettledIn : Answer Fill → Filling → Result (Unit {0}) BuildRefusal → Filling → Type 0
SettledIn a old r new = SettledBy a old.caps (told_by r new.told) new.cells.now new.rr.now new.sr.now

-- the row is f's; at most c choices were made by precedence
abbrev pub LaidIn : List ℕ → ℕ → Fill → Filling → Type 0
LaidIn b c f x = Laid b x.caps x.state c f x.told x.cells.now x.offered.now x.rr.now x.sr.now

abbrev pub LeftIn : Answer Fill → List ℕ → ℕ → Filling → Result (Unit {0}) BuildRefusal → Filling → Type 0
LeftIn a b c old r new = LeftBy a b old.caps old.state c (told_by r new.told) new.cells.now new.offered.now new.rr.now new.sr.now
