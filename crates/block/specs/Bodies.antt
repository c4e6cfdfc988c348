-- Document 01's numbers of the refusals of a right side. Assumes nothing.
use Rattle.std.specs.Prelude.{ℕ, Result, Ok, Err}
use Rattle.block.specs.Refused.{number_of}
use Rattle.block.specs.declared.queries.BodyRefusal.{BodyRefusal}
use Rattle.block.specs.declared.queries.BodyRefusal.TheVariants.{Block, UnknownProduction}

abbrev pub body_number : BodyRefusal → ℕ
body_number (Block e) = number_of e
body_number UnknownProduction = 18

-- 0 where there is one
abbrev pub body_told : {A : Type 0} → Result A BodyRefusal → ℕ
body_told (Ok a) = 0
body_told (Err e) = body_number e
