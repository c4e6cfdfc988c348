-- The symbol that a word of a right side stands for. Assumes nothing.
use Rattle.std.specs.Prelude.{ℕ, ◌%◌, ◌/◌, ◌==◌, if◌then◌else◌}
use Rattle.block.specs.declared.symbol.Symbol.{Symbol}
use Rattle.block.specs.declared.symbol.Symbol.TheVariants.{Rule, Token}

abbrev pub symbol_of : ℕ → Symbol
symbol_of w = if (w % 2) == 0 then Rule (w / 2) else Token (w / 2)
