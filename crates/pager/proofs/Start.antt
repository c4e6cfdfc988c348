-- State 0 is knuth's start kernel. Assumes nothing.
use mathlib.Core.Bool.{◌||◌}
use mathlib.Core.List.{List}
use mathlib.Core.Logic.{inl, inr}
use mathlib.Core.Path.{◌≡◌, sym, ap, ◌∙◌}
use Prim.Native.Nat.{ℕ, ◌<◌}
use native.Mathlib.Omega.{arith}
use lib.Dec.{eqb}
use borrow.Author.Tests.{eqb-true, eq-eqb}
use Rattle.knuth.specs.Kernel.{◌≈◌}
use Rattle.knuth.specs.Canonical.{start-kernel}
use Rattle.block.specs.Limits.{TOKENS}
use Rattle.block.specs.Block.{end_token_of}
use Rattle.block.specs.Grammar.{grammar_of}
use Rattle.block.specs.Sets.{mem, empty, with}
use Rattle.block.proofs.SetLaws.{mem-with, mem-empty, empty-fits}
use Rattle.itemset.specs.Kernel.{kernel_of}
use Rattle.pager.specs.Place.{new}
use Rattle.pager.specs.Graph.{start_state}

module _ (b : List ℕ) (l : end_token_of b < TOKENS) where
  only_end : (t : ℕ) → mem (with empty (end_token_of b)) t ≡ eqb t (end_token_of b)
  only_end t =
      mem-with empty (end_token_of b) (let z = empty-fits.0 in omega arith) t ∙ ap (λ c. c || eqb t (end_token_of b)) (mem-empty t)

  pub start-same : kernel_of (start_state b).rows ≈ start-kernel (grammar_of b)
  unfolding start_state new
  start-same =
      record {
        there =
            record {
              items = λ p d h. elim h.1 [ inl e ↦ let h0 = h.0 in (omega arith, omega arith) | inr z ↦ absurd z ];
              tokens =
                  λ p d t h.
                  elim h.1 [
                    | inl e ↦ let h0 = h.0 in let e0 = e.0 in (omega arith, omega arith, eqb-true t (end_token_of b) (sym (only_end t) ∙ e.1))
                    | inr z ↦ absurd z
                  ];
            };
        back =
            record {
              items = λ p d h. let a = h.0 in let c = h.1 in (omega arith, inl (omega arith));
              tokens = λ p d t h. let a = h.0 in let c = h.1 in (omega arith, inl (omega arith, only_end t ∙ eq-eqb t (end_token_of b) h.2));
            };
      }
