-- The tables of a filling that tells nothing are CHECKED; and there is such a filling exactly where canonical LR(1) has no conflict. Assumes nothing.
use mathlib.Core.List.{List}
use mathlib.Core.Logic.{◌↔◌}
use Prim.Native.Nat.{ℕ}
use Rattle.knuth.specs.Canonical.{CanonicalConflict}
use Rattle.knuth.specs.Checked.{Checked}
use Rattle.knuth.specs.Tables.{Action}
use Rattle.knuth.specs.Delivered.{Delivered}
use Rattle.knuth.proofs.Join.{join, conflict-iff}
use Rattle.block.specs.Grammar.{grammar_of}
use Rattle.block.specs.First.{Ahead}
use Rattle.pager.specs.Lists.{Answer, is, refused}
use Rattle.pager.specs.Place.{State, Limits}
use Rattle.pager.specs.Given.{Given}
use Rattle.pager.specs.Growing.{Growing}
use Rattle.pager.specs.Automaton.{Actions, Gotos, automaton_of}
use Rattle.pager.specs.Rules3to5.{Usable}
use Rattle.statetable.specs.Cells.{Rows, cells_of}
use Rattle.statetable.specs.Quiet.{Silent, Quiet, actions_of, gotos_of, Quietly}
use Rattle.statetable.specs.declared.records.Caps.{Caps}
use Rattle.statetable.proofs.Quiet.{quiet}

-- an answer that is quiet gives what a quiet answer gives
given-quiet : (P Q : Rows → Type 0) (x : Answer Rows) → Given x (λ d. Silent d.told → P d) → ((d : Rows) → Quiet x → P d → Q d)
    → Given x (λ d. Silent d.told → Q d)
given-quiet P Q (is d) h k = λ S. k d S (h S)
given-quiet P Q (refused why) h k = tt

module _ (b : List ℕ) (F : List Ahead) (U : Usable b F) (l : Limits) (ss : List State) (H : Growing b l ss)
    (D : (action : Actions) (goto : Gotos) → Delivered (grammar_of b) (automaton_of b ss action goto)) (m : Caps) where
  told : Quietly b F m ss
  told = quiet b F U l ss H D m

  pub checked : Given (cells_of b F m ss) (λ d. Silent d.told → Checked (grammar_of b) (automaton_of b ss (actions_of d) (gotos_of ss)))
  checked =
      given-quiet _ (λ d. Checked (grammar_of b) (automaton_of b ss (actions_of d) (gotos_of ss))) (cells_of b F m ss) told.tabled
      (λ d q T.
      join (grammar_of b) U.valid (automaton_of b ss (actions_of d) (gotos_of ss)) (D (actions_of d) (gotos_of ss)) ((told.exactly (actions_of d) (gotos_of ss)).0 q) T)

  -- (neither side speaks of tables: any will do)
  pub quiet-canonical : Quiet (cells_of b F m ss) ↔ (¬ CanonicalConflict (grammar_of b))
  quiet-canonical =
      let same = conflict-iff (grammar_of b) U.valid (automaton_of b ss (λ s t. Action.error) (gotos_of ss)) (D (λ s t. Action.error) (gotos_of ss)) in
      let free = told.exactly (λ s t. Action.error) (gotos_of ss) in (
        λ q c. let (s, k, e) = same.1 c in free.0 q s k e,
        λ n. free.1 (λ s k e. n (same.0 (s, k, e))),
      )
