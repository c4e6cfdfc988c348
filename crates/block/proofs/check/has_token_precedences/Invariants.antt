-- What is left decides as all does. Assumes nothing.
use Rattle.std.proofs.Common.{not, ◌≡◌}
use Rattle.block.specs.Block.{tokens, token_prec}
use Rattle.block.specs.Lists.{any, upto}
use Rattle.block.specs.Refusal.{good_prec}
use Rattle.block.proofs.ListLaws.{any_left}
use Rattle.block.proofs.check.has_token_precedences.Given as goal

abbrev pub invariant-loop-t : goal.invariant-loop-t
invariant-loop-t l = any_left (λ t. not (good_prec (token_prec l.words t))) (tokens l.words) l.t ≡ any (λ t. not (good_prec (token_prec l.words t))) (upto (tokens l.words))
