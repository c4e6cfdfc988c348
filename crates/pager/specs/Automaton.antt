-- The graph as an automaton of knuth: states, kernels and edges, with whatever tables. Assumes nothing.
use Rattle.std.specs.Prelude.{List, ℕ, zero, suc, ◌+◌, length, get_or}
use Rattle.std.proofs.Math.Option.{Option, none, some}
use Rattle.knuth.specs.Grammar.{Sym, rule, token}
use Rattle.knuth.specs.Automaton.{Automaton}
use Rattle.knuth.specs.Tables.{Action}
use Rattle.block.specs.Block.{rules}
use Rattle.itemset.specs.Kernel.{kernel_of}
use Rattle.pager.specs.Place.{State}
use Rattle.pager.specs.Graph.{nowhere}

-- where the edge on a symbol stands in a state: rules before tokens
abbrev pub edge_of : List ℕ → Sym → ℕ
edge_of b (rule r) = r
edge_of b (token t) = rules b + t

-- where an edge word leads
abbrev pub target : ℕ → Option ℕ
target zero = none
target (suc t) = some t

-- tables, of which nothing is asked here: the action of a state at a token, the goto of a state for a rule
abbrev pub Actions : Type 0
Actions = ℕ → ℕ → Action

abbrev pub Gotos : Type 0
Gotos = ℕ → ℕ → Option ℕ

abbrev pub automaton_of : List ℕ → List State → Actions → Gotos → Automaton
automaton_of b ss action goto =
    record {
      states = length ss;
      kern = λ s. kernel_of (get_or ss s nowhere).rows;
      edge = λ s X. target (get_or (get_or ss s nowhere).edges (edge_of b X) 0);
      action = action;
      goto = goto;
    }
