-- What is left decides as all does. Assumes nothing.
use Rattle.std.proofs.Common.{not, ◌≡◌}
use Rattle.block.specs.Block.{symbols, symbol_at}
use Rattle.block.specs.Lists.{any, upto}
use Rattle.block.specs.Refusal.{good_symbol}
use Rattle.block.proofs.ListLaws.{any_left}
use Rattle.block.proofs.check.has_symbols.Given as goal

abbrev pub invariant-loop-i : goal.invariant-loop-i
invariant-loop-i l = any_left (λ i. not (good_symbol l.words (symbol_at l.words i))) (symbols l.words) l.i ≡ any (λ i. not (good_symbol l.words (symbol_at l.words i))) (upto (symbols l.words))
