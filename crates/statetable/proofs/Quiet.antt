-- A filling tells nothing exactly where no state has a conflict, and then its cells hold what is called for. Assumes nothing.
use mathlib.Core.List.{List, [], Memᴰ}
use mathlib.Core.Logic.{⊎_elim}
use mathlib.Core.Path.{◌≡◌, refl, sym, ap, subst, ◌∙◌}
use Prim.Native.Nat.{ℕ, ◌<◌}
use lib.ListN.{get_or}
use Rattle.knuth.specs.Tables.{Action}
use Rattle.knuth.specs.Automaton.{Calls}
use Rattle.knuth.specs.Delivered.{Delivered, Free, Tabled}
use Rattle.knuth.proofs.Cells.{one-call}
use Rattle.knuth.proofs.Join.{delivered-contested}
use Rattle.block.specs.Block.{tokens}
use Rattle.block.specs.Grammar.{grammar_of}
use Rattle.block.specs.First.{Ahead}
use Rattle.pager.specs.Lists.{Answer, is, refused}
use Rattle.pager.specs.Place.{State, Limits}
use Rattle.pager.specs.Graph.{nowhere}
use Rattle.pager.specs.Given.{Given}
use Rattle.pager.specs.Growing.{Growing}
use Rattle.pager.specs.Automaton.{Actions, Gotos, automaton_of}
use Rattle.pager.specs.Rules3to5.{Usable}
use Rattle.pager.proofs.Walks.{given-map}
use Rattle.statetable.specs.Cell.{decode}
use Rattle.statetable.specs.Events.{Event, events_of}
use Rattle.statetable.specs.Cells.{Rows, cells_of}
use Rattle.statetable.specs.Quiet.{Silent, Quiet, actions_of, gotos_of, ClaimQuiet}
use Rattle.statetable.proofs.Meeting.{at, act}
use Rattle.statetable.proofs.AllStates.{AllFair, AllAlike, RowsOf, cells-rows, cells-quiet}
use Rattle.statetable.proofs.Calling.{fair, calls, called}

module _ (b : List ℕ) (F : List Ahead) (U : Usable b F) (l : Limits) (ss : List State) (H : Growing b l ss) where
  -- ---- with whatever tables
  module _ (action : Actions) (goto : Gotos) (D : Delivered (grammar_of b) (automaton_of b ss action goto)) where
    all_fair : AllFair b F ss
    all_fair s hs = fair b F U l ss H action goto D s hs

    -- without a conflict the events at one token have one action
    free-alike : Free (grammar_of b) (automaton_of b ss action goto) → AllAlike b F ss
    free-alike free s hs x e m n k =
        one-call (grammar_of b) U.valid (automaton_of b ss action goto) D.exact s hs (free s hs) (at e)
        ((all_fair s hs).low e n)
        (subst (λ t. Calls (grammar_of b) (automaton_of b ss action goto) s t (act b x)) k (calls b F U l ss H action goto D s hs x m))
        (calls b F U l ss H action goto D s hs e n)

    -- two different actions that are called for do not stand in one cell
    rows-free : (d : Rows) → RowsOf b F ss d → Free (grammar_of b) (automaton_of b ss action goto)
    rows-free d W s hs c =
        let k = (delivered-contested (grammar_of b) U.valid (automaton_of b ss action goto) D s hs).1 c in
        k.differ (sym (held k.token k.one k.in-tokens k.calls-one) ∙ held k.token k.other k.in-tokens k.calls-other)
      where
        held : (t : ℕ) (a : Action) → t < tokens b → Calls (grammar_of b) (automaton_of b ss action goto) s t a → decode (get_or (get_or d.cells s []) t 0) ≡ a
        held t a k c =
            let (e, m, i, j) = called b F U l ss H action goto D s hs t a k c in
            ap (λ (n : ℕ). decode (get_or (get_or d.cells s []) n 0)) (sym i) ∙ (W s hs).written e m ∙ j

  -- ---- with the cells of the filling
  rows-tabled : (d : Rows) → RowsOf b F ss d → Delivered (grammar_of b) (automaton_of b ss (actions_of d) (gotos_of ss))
      → Tabled (grammar_of b) (automaton_of b ss (actions_of d) (gotos_of ss))
  rows-tabled d W D s hs =
      record {
        called = λ t a k c. let (e, m, i, j) = called b F U l ss H (actions_of d) (gotos_of ss) D s hs t a k c in held t e m i;
        only = λ t k n. ⊎_elim (λ e. absurd (n e)) (λ h. held t h.0 h.1 h.2) ((W s hs).only t);
        goto = λ r k. refl;
      }
    where
      held : (t : ℕ) (e : Event) → Memᴰ e (events_of b F (get_or ss s nowhere)) → at e ≡ t
          → Calls (grammar_of b) (automaton_of b ss (actions_of d) (gotos_of ss)) s t (actions_of d s t)
      held t e m i =
          subst (λ n. Calls (grammar_of b) (automaton_of b ss (actions_of d) (gotos_of ss)) s n (actions_of d s n)) i
          (subst (λ a. Calls (grammar_of b) (automaton_of b ss (actions_of d) (gotos_of ss)) s (at e) a) (sym ((W s hs).written e m))
          (calls b F U l ss H (actions_of d) (gotos_of ss) D s hs e m))

-- what holds of a filling that tells nothing
quiet-given : {P : Type 0} (Q : Rows → Type 0) (x : Answer Rows) → Given x (λ d. Silent d.told → Q d) → ((d : Rows) → Q d → P) → Quiet x → P
quiet-given Q (is d) h k q = k d (h q)
quiet-given Q (refused why) h k q = absurd q

pub quiet : ClaimQuiet
quiet b F U l ss H D m =
    record {
      exactly = λ action goto. (
        quiet-given (RowsOf b F ss) (cells_of b F m ss) rows (rows-free b F U l ss H action goto (D action goto)),
        λ free. cells-quiet b F m ss all (free-alike b F U l ss H action goto (D action goto) free),
      );
      tabled =
          given-map (λ d. Silent d.told → RowsOf b F ss d)
          (λ d. Silent d.told → Tabled (grammar_of b) (automaton_of b ss (actions_of d) (gotos_of ss)))
          (λ d W S. rows-tabled b F U l ss H d (W S) (D (actions_of d) (gotos_of ss))) (cells_of b F m ss) rows;
    }
  where
    -- the events are the same with whatever tables
    all : AllFair b F ss
    all = all_fair b F U l ss H (λ s t. Action.error) (gotos_of ss) (D (λ s t. Action.error) (gotos_of ss))

    rows : Given (cells_of b F m ss) (λ d. Silent d.told → RowsOf b F ss d)
    rows = cells-rows b F m ss all
