-- What the checks of a block answer, one after the other. Assumes nothing.
use Rattle.std.specs.Prelude.{Bool, true, false, List, ℕ, Result, Ok, Err}
use Rattle.block.specs.Refusal.{short_block, too_large, misplaced, bad_production, bad_start, bad_symbol, bad_precedence}
use Rattle.block.specs.declared.refusal.BlockRefusal.{BlockRefusal}
use Rattle.block.specs.declared.refusal.BlockRefusal.TheVariants.{BadHeader, TooLarge, BadProduction, BadStart, BadSymbol, BadPrecedence}

-- a test that holds is this refusal
abbrev pub refuse_if : Bool → BlockRefusal → Result (Unit {0}) BlockRefusal
refuse_if true e = Err e
refuse_if false e = Ok tt

-- the first refusal of two checks
infixl 10 ◌then◌
abbrev pub ◌then◌ : Result (Unit {0}) BlockRefusal → Result (Unit {0}) BlockRefusal → Result (Unit {0}) BlockRefusal
(Ok x) then r = r
(Err e) then r = Err e

-- in document 01's order
abbrev pub checked : List ℕ → Result (Unit {0}) BlockRefusal
checked b =
    refuse_if (short_block b) BadHeader then refuse_if (too_large b) TooLarge then refuse_if (misplaced b) BadHeader
    then refuse_if (bad_production b) BadProduction then refuse_if (bad_start b) BadStart then refuse_if (bad_symbol b) BadSymbol
    then refuse_if (bad_precedence b) BadPrecedence
