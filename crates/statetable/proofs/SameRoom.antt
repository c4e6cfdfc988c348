-- What a step of the filling leaves in the struct that is filled, and the fold that it is a step of. Assumes nothing.
use mathlib.Core.List.{List}
use mathlib.Core.Path.{◌∙◌}
use Prim.Native.Nat.{ℕ}
use Rattle.pager.specs.Lists.{Answer}
use Rattle.statetable.specs.Events.{Event}
use Rattle.statetable.specs.Cells.{Fill}
use Rattle.statetable.specs.Filled.{IsSame}
use Rattle.statetable.specs.declared.fill.Filling.{Filling}
use Rattle.statetable.proofs.Folds.{Here}

pub same_on : {a b c : Filling} → IsSame a b → IsSame b c → IsSame a c
same_on S T =
    record {
      cells = T.cells ∙ S.cells;
      offered = T.offered ∙ S.offered;
      rr = T.rr ∙ S.rr;
      sr = T.sr ∙ S.sr;
      caps = T.caps ∙ S.caps;
      state = T.state ∙ S.state;
    }

-- the walk over some events of the state has been told, from `old` on
abbrev pub HereIn : List ℕ → Filling → ℕ → Answer Fill → List Event → Filling → Type 0
HereIn b old c w rest new = Here b old.caps old.state c w rest new.told new.cells.now new.offered.now new.rr.now new.sr.now
