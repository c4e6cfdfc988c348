-- A filling with nothing recorded, nothing counted and no refusal, and what is claimed of it: it comes exactly where no state of the graph has a
-- conflict, and then each cell holds what is called for. Assumes nothing.
use Rattle.std.specs.Prelude.{List, [], ◌↔◌, ◌≡◌, ℕ, get_or}
use Rattle.knuth.specs.Delivered.{Delivered, Free, Tabled}
use Rattle.block.specs.Grammar.{grammar_of}
use Rattle.block.specs.First.{Ahead}
use Rattle.pager.specs.Lists.{Answer, is, refused}
use Rattle.pager.specs.Place.{State, Limits}
use Rattle.pager.specs.Graph.{nowhere}
use Rattle.pager.specs.Given.{Given}
use Rattle.pager.specs.Growing.{Growing}
use Rattle.pager.specs.Automaton.{Actions, Gotos, automaton_of, target}
use Rattle.pager.specs.Rules3to5.{Usable}
use Rattle.statetable.specs.Cell.{decode}
use Rattle.statetable.specs.Cells.{Told, Rows, cells_of}
use Rattle.statetable.specs.declared.records.Caps.{Caps}

-- both lists are empty, and the count is 0
pub record Silent (k : Told) : Type 0 where
  pub rr : k.rr ≡ []
  pub sr : k.sr ≡ []
  pub count : k.count ≡ 0

abbrev pub Quiet : Answer Rows → Type 0
Quiet (is d) = Silent d.told
Quiet (refused why) = ⊥

-- the tables: the cells, and the rule edges as gotos
abbrev pub actions_of : Rows → Actions
actions_of d s t = decode (get_or (get_or d.cells s []) t 0)

abbrev pub gotos_of : List State → Gotos
gotos_of ss s r = target (get_or (get_or ss s nowhere).edges r 0)

-- of the states ss of a graph, with lists that have room for whatever number of records
pub record Quietly (b : List ℕ) (F : List Ahead) (m : Caps) (ss : List State) : Type 1 where
  pub exactly : (action : Actions) (goto : Gotos) → Quiet (cells_of b F m ss) ↔ Free (grammar_of b) (automaton_of b ss action goto)
  pub tabled : Given (cells_of b F m ss) (λ d. Silent d.told → Tabled (grammar_of b) (automaton_of b ss (actions_of d) (gotos_of ss)))

abbrev pub ClaimQuiet : Type 1
ClaimQuiet =
    (b : List ℕ) (F : List Ahead) → Usable b F → (l : Limits) (ss : List State) → Growing b l ss
    → ((action : Actions) (goto : Gotos) → Delivered (grammar_of b) (automaton_of b ss action goto))
    → (m : Caps) → Quietly b F m ss
