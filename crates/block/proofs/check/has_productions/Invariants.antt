use Rattle.std.proofs.Common.{◌≡◌, ◌<◌, ◌≤◌, ◌*◌, ℕ}
use Rattle.block.specs.Refusal.{lengths}
use Rattle.block.specs.Exact.{WrongProduction}
use Rattle.block.proofs.check.has_productions.Given as goal

abbrev pub invariant-loop-p : goal.invariant-loop-p
invariant-loop-p l = record {
  sum : l.sum ≡ lengths l.words l.p;
  most : l.sum ≤ 64 * l.p;
  right : (q : ℕ) → q < l.p → WrongProduction l.words q → ⊥;
}
