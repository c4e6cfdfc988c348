-- Rule 2 is proved: the closure's rows are the least map. Assumes nothing.
use mathlib.Core.List.{List}
use mathlib.Core.Logic.{◌↔◌}
use Prim.Native.Nat.{ℕ, ◌+◌, ◌*◌, ◌/◌, ◌%◌, ◌<◌}
use Rattle.knuth.specs.Closure.{Closed, Holds, Closing}
use Rattle.knuth.proofs.Least.{closed-least, holds-least}
use Rattle.block.specs.Limits.{DOTS}
use Rattle.block.specs.Grammar.{grammar_of}
use Rattle.block.specs.First.{Ahead}
use Rattle.itemset.specs.Rows.{Row, Present, Token, Rows}
use Rattle.itemset.specs.Kernel.{kernel_of}
use Rattle.itemset.specs.Close.{close_of}
use Rattle.itemset.specs.Ready.{Ready}
use Rattle.itemset.specs.Rule2.{Rule2}
use Rattle.itemset.proofs.RowLaws.{at_item}
use Rattle.itemset.proofs.Rounds.{close-has, close-has-tok}
use Rattle.itemset.proofs.Inside.{Inside, kernel-inside, close-inside}
use Rattle.itemset.proofs.Handing.{fixed-handing, handing-closing}
use Rattle.itemset.proofs.Fuel.{close-rows, close-fixed}

module _ (b : List ℕ) (F : List Ahead) (ready : Ready b F) (K : List Row) (R : Rows b K) where
  inside : Inside b (kernel_of K) (close_of b F K)
  inside = close-inside b (kernel_of K) F ready K (kernel-inside b K R)

  closing : Closing (grammar_of b) (kernel_of K) (kernel_of (close_of b F K))
  closing =
      handing-closing b F ready (close_of b F K) inside.below (fixed-handing b F (close_of b F K) (close-fixed b F ready K R)) (kernel_of K)
      (record {
        items = λ p d h. (h.0, close-has b F K (DOTS * p + d) h.1);
        tokens = λ p d t h. (h.0, close-has-tok b F K (DOTS * p + d) t h.1);
      })

  close-item : (p d : ℕ) → d < DOTS → Present (DOTS * p + d) (close_of b F K) ↔ Closed (grammar_of b) (kernel_of K) p d
  close-item p d l = (
    λ m. at_item (λ p d. Closed (grammar_of b) (kernel_of K) p d) p d l (inside.items (DOTS * p + d) m),
    λ c. (closed-least (grammar_of b) closing c).1,
  )

  close-tok : (p d t : ℕ) → d < DOTS → Token (DOTS * p + d) t (close_of b F K) ↔ Holds (grammar_of b) (kernel_of K) p d t
  close-tok p d t l = (
    λ m. at_item (λ p d. Holds (grammar_of b) (kernel_of K) p d t) p d l (inside.holds (DOTS * p + d) t m),
    λ c. (holds-least (grammar_of b) closing c).1,
  )

  pub rule-2 : Rule2 b F K
  rule-2 =
      record {
        rows = close-rows b F ready K R;
        items = close-item;
        tokens = close-tok;
        closing = closing;
        least = λ L c.
            record {
              items = λ p d h. closed-least (grammar_of b) c ((close-item p d h.0).0 h.1);
              tokens = λ p d t h. holds-least (grammar_of b) c ((close-tok p d t h.0).0 h.1);
            };
        fixed = close-fixed b F ready K R;
      }

  -- ---- the same by the number of an item
  pub item-closed : (k : ℕ) → Present k (close_of b F K) → Closed (grammar_of b) (kernel_of K) (k / DOTS) (k % DOTS)
  item-closed k m = inside.items k m

  pub token-holds : (k t : ℕ) → Token k t (close_of b F K) → Holds (grammar_of b) (kernel_of K) (k / DOTS) (k % DOTS) t
  token-holds k t m = inside.holds k t m

  pub closed-item : (p d : ℕ) → Closed (grammar_of b) (kernel_of K) p d → (d < DOTS) × Present (DOTS * p + d) (close_of b F K)
  closed-item p d c = closed-least (grammar_of b) closing c

  pub holds-token : (p d t : ℕ) → Holds (grammar_of b) (kernel_of K) p d t → (d < DOTS) × Token (DOTS * p + d) t (close_of b F K)
  holds-token p d t c = holds-least (grammar_of b) closing c
