-- The graph is an automaton that knuth calls delivered. Assumes nothing.
use mathlib.Core.List.{List}
use mathlib.Core.Option.{some, some-injective}
use mathlib.Core.Path.{◌≡◌, sym, ap, subst}
use Prim.Native.Nat.{ℕ, zero, suc, ◌<◌}
use native.Mathlib.Omega.{arith}
use Rattle.knuth.specs.Kernel.{◌≈◌}
use Rattle.knuth.specs.Canonical.{start-kernel}
use Rattle.knuth.specs.Delivered.{Delivered}
use Rattle.block.specs.Limits.{TOKENS}
use Rattle.block.specs.Block.{end_token_of}
use Rattle.block.specs.Grammar.{grammar_of}
use Rattle.itemset.specs.Kernel.{kernel_of}
use Rattle.pager.specs.Place.{State, Limits}
use Rattle.pager.specs.Automaton.{Actions, Gotos, target, automaton_of}
use Rattle.pager.specs.Rules3to5.{Graphed}
use Rattle.pager.proofs.Start.{start-same}

-- an edge word that leads somewhere
pub target-some : (w t : ℕ) → target w ≡ some t → w ≡ suc t
target-some zero t e = let z : ◌≡◌ {A = ℕ} 0 1 = cc in absurd (omega arith)
target-some (suc u) t e = ap suc (some-injective u t e)

pub graph-delivered : (b : List ℕ) (m : Limits) (ss : List State) → end_token_of b < TOKENS → Graphed b m ss
    → (action : Actions) (goto : Gotos) → Delivered (grammar_of b) (automaton_of b ss action goto)
graph-delivered b m ss l H action goto =
    record {
      exact =
          record {
            some-state = H.growing.first;
            start = subst (λ rs. kernel_of rs ≈ start-kernel (grammar_of b)) (sym H.growing.start) (start-same b l);
            edges = λ s k X p d B.
                let L = H.linked.links s k (H.closed s k) X p d B in
                record { to = L.to; is = ap target L.is; in-states = L.below; target = L.leads };
            no_other = λ s k X t i e. H.linked.others s k X t i (target-some _ t e);
          };
      made = H.made;
    }
