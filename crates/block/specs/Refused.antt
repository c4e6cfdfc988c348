-- Document 01's numbers of the refusals of a block. Assumes nothing.
use Rattle.std.specs.Prelude.{ℕ, Result, Ok, Err}
use Rattle.block.specs.declared.refusal.BlockRefusal.{BlockRefusal}
use Rattle.block.specs.declared.refusal.BlockRefusal.TheVariants.{BadHeader, TooLarge, BadProduction, BadStart, BadSymbol, BadPrecedence}

abbrev pub number_of : BlockRefusal → ℕ
number_of BadHeader = 1
number_of TooLarge = 2
number_of BadProduction = 3
number_of BadStart = 4
number_of BadSymbol = 5
number_of BadPrecedence = 6

-- 0 where nothing is refused
abbrev pub told : {A : Type 0} → Result A BlockRefusal → ℕ
told (Ok a) = 0
told (Err e) = number_of e
