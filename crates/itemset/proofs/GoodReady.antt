-- A block that is not refused has all that rules 2 and 4 ask of it. Assumes nothing.
use mathlib.Core.List.{List}
use Prim.Native.Nat.{ℕ, ◌<◌}
use Rattle.block.specs.Block.{prods}
use Rattle.block.specs.Refusal.{Good, Known}
use Rattle.block.specs.First.{firsts_of}
use Rattle.block.proofs.Exact.{good-clear}
use Rattle.block.proofs.Good.{clear-sum, rule-below, length_most, body-length}
use Rattle.block.proofs.Bodies.{body-small}
use Rattle.block.proofs.Valid.{good-valid}
use Rattle.block.proofs.FirstFuel.{firsts-fit}
use Rattle.block.proofs.Rule1.{rule1}
use Rattle.itemset.specs.Ready.{Ready}

module _ {b : List ℕ} (g : Good b) where
  known : (p : ℕ) → p < prods b → Known b p
  known p l = record { good = g; below = l }

  pub good-ready : Ready b (firsts_of b)
  good-ready =
      record {
        rule1 = rule1 b g;
        fits = firsts-fit b (λ p l. body-small (known p l)) (λ p l. rule-below p (known p l));
        lhs = λ p l. rule-below p (known p l);
        bodies = λ p l. body-small (known p l);
        inside = (good-valid g).body-in;
        lengthy = λ p l. body-length p (known p l);
        short = λ p l. length_most p (known p l);
        total = clear-sum (good-clear g).productions;
      }
