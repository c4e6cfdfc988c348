-- What is left decides as all does. Assumes nothing.
use Rattle.std.proofs.Common.{not, ◌≡◌}
use Rattle.block.specs.Block.{prods, prod_prec}
use Rattle.block.specs.Lists.{any, upto}
use Rattle.block.specs.Refusal.{good_prec}
use Rattle.block.proofs.ListLaws.{any_left}
use Rattle.block.proofs.check.has_production_precedences.Given as goal

abbrev pub invariant-loop-p : goal.invariant-loop-p
invariant-loop-p l = any_left (λ p. not (good_prec (prod_prec l.words p))) (prods l.words) l.p ≡ any (λ p. not (good_prec (prod_prec l.words p))) (upto (prods l.words))
