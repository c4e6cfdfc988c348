-- Rules 3 to 7 as one statement: the graph is built from the start kernel by weakly compatible merges, and after collection it is an automaton
-- that knuth calls delivered, so that it has a conflict exactly where canonical LR(1) has one. Assumes nothing.
use Rattle.std.specs.Prelude.{List, ◌↔◌, ℕ, ◌≤◌}
use Rattle.knuth.specs.Automaton.{AutomatonConflict}
use Rattle.knuth.specs.Canonical.{CanonicalConflict}
use Rattle.knuth.specs.Delivered.{Delivered}
use Rattle.block.specs.Grammar.{grammar_of}
use Rattle.block.specs.First.{Ahead}
use Rattle.pager.specs.Place.{State, Limits}
use Rattle.pager.specs.Graph.{graph_of}
use Rattle.pager.specs.Collect.{collect_of}
use Rattle.pager.specs.Automaton.{Actions, Gotos, automaton_of}
use Rattle.pager.specs.Given.{Given}
use Rattle.pager.specs.Growing.{Growing}
use Rattle.pager.specs.Rules3to5.{Usable, Graphed}
use Rattle.pager.specs.Rule7.{Rule7}

-- of the states ss that graph_of gives, and of those left after collection, with whatever tables
pub record Rules3to7 (b : List ℕ) (m : Limits) (ss : List State) : Type 1 where
  pub graph : Graphed b m ss
  pub collected : Rule7 ss
  pub kept : Growing b m (collect_of ss)
  pub delivered : (action : Actions) (goto : Gotos) → Delivered (grammar_of b) (automaton_of b ss action goto)
  pub delivered-collected : (action : Actions) (goto : Gotos) → Delivered (grammar_of b) (automaton_of b (collect_of ss) action goto)
  pub conflicts : (action : Actions) (goto : Gotos)
      → AutomatonConflict (grammar_of b) (automaton_of b (collect_of ss) action goto) ↔ CanonicalConflict (grammar_of b)

-- what is claimed: of every block and its FIRST sets, under any limits, wherever graph_of does not refuse
abbrev pub Claim3to7 : Type 1
Claim3to7 =
    (b : List ℕ) (F : List Ahead) → Usable b F → (m : Limits) → 1 ≤ m.states → 1 ≤ m.items → Given (graph_of b F m) (Rules3to7 b m)
