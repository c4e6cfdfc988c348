-- What is left decides as all does. Assumes nothing.
use Rattle.std.proofs.Common.{◌≡◌}
use Rattle.block.specs.Block.{prods}
use Rattle.block.specs.Lists.{any, upto}
use Rattle.block.specs.Refusal.{start_again}
use Rattle.block.proofs.ListLaws.{any_left}
use Rattle.block.proofs.check.starts_once.Given as goal

abbrev pub invariant-loop-q : goal.invariant-loop-q
invariant-loop-q l = any_left (start_again l.words) (prods l.words) l.q ≡ any (start_again l.words) (upto (prods l.words))
