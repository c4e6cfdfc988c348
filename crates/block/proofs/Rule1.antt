-- Rule 1 holds of every good block. Assumes nothing.
use mathlib.Core.List.{List}
use Prim.Native.Nat.{ℕ}
use Rattle.block.specs.Refusal.{Good}
use Rattle.block.specs.First.{firsts_of}
use Rattle.block.specs.Rule1.{Rule1}
use Rattle.block.proofs.Good.{rule-below}
use Rattle.block.proofs.Bodies.{body-small}
use Rattle.block.proofs.FirstFuel.{firsts-right}

pub rule1 : (b : List ℕ) → Good b → Rule1 b (firsts_of b)
rule1 b g = firsts-right b (λ p l. body-small (record { good = g; below = l })) (λ p l. rule-below p (record { good = g; below = l }))
