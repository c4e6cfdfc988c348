-- A build ends clean exactly where canonical LR(1) has no conflict, and then the lent tables are those of a checked automaton. Assumes nothing.
use mathlib.Core.Bool.{Bool, true, false, ◌||◌, cond}
use mathlib.Core.List.{List, [], ◌∷◌}
use mathlib.Core.Logic.Iff
use mathlib.Core.Logic.{◌↔◌}
use mathlib.Core.Path.{◌≡◌, refl, sym, ap, subst}
use Prim.Native.Nat.{ℕ, zero, suc, ◌*◌}
use native.Mathlib.Omega.{arith}
use lib.ListN.{length, drop}
use Rattle.knuth.specs.Canonical.{CanonicalConflict}
use Rattle.knuth.specs.Checked.{Checked}
use Rattle.block.specs.Block.{tokens, rules}
use Rattle.block.specs.Refusal.{refusal_of}
use Rattle.block.specs.Grammar.{grammar_of}
use Rattle.block.specs.First.{firsts_of}
use Rattle.pager.specs.Lists.{Answer, is, refused, unless, unchanged}
use Rattle.pager.specs.Place.{State}
use Rattle.pager.specs.Graph.{graph_of}
use Rattle.pager.specs.Collect.{collect_of}
use Rattle.pager.specs.Given.{Given}
use Rattle.pager.specs.Growing.{Growing}
use Rattle.pager.specs.Automaton.{automaton_of, target}
use Rattle.pager.specs.Rules3to7.{Rules3to7}
use Rattle.pager.specs.Rules3to5.{Usable}
use Rattle.pager.specs.Call as graph
use Rattle.pager.specs.Call.{or_else}
use Rattle.pager.specs.CallSteps.{Roomy}
use Rattle.pager.proofs.CallRules.{usable, let-in}
use Rattle.pager.proofs.Collected.{rules-3-to-7}
use Rattle.statetable.specs.Cell.{decode}
use Rattle.statetable.specs.Cells.{Rows, cells_of}
use Rattle.statetable.specs.Quiet.{Silent, Quiet, actions_of, gotos_of}
use Rattle.statetable.specs.Build.{Buffers, limits_of, caps_of, turned_away, Built, with_rows, then_tables, build_of, build_call, counts_of, written, leaves}
use Rattle.statetable.specs.Clean.{Clean, EndsClean, ClaimClean, CheckedTables, ClaimChecked}
use Rattle.statetable.specs.declared.call.Named.{Named}
use Rattle.statetable.proofs.Checked.{checked, quiet-canonical}
use Rattle.statetable.proofs.Widths.{Tabular, cells-tabular}
use Rattle.statetable.proofs.ReadBack.{cell-read, goto-read}

-- ---- no record is counted where none is told
none_of : {A : Type 0} (xs : List A) → length xs ≡ 0 → xs ≡ []
none_of [] e = refl
none_of (x ∷ xs) e = absurd (omega arith)

clean-silent : (ks : List State) (before : ℕ) (d : Rows) → Clean (counts_of (record { states = ks; before = before; rows = d })) → Silent d.told
clean-silent ks before d C = record { rr = none_of d.told.rr C.rr; sr = none_of d.told.sr C.sr; count = C.count }

-- the build ends clean exactly where the filling is quiet
ends-quiet : (ks : List State) (before : ℕ) (x : Answer Rows) → EndsClean (with_rows ks before x) ↔ Quiet x
ends-quiet ks before (is d) = (
  clean-silent ks before d,
  λ S. record { rr = ap length S.rr; sr = ap length S.sr; count = S.count },
)
ends-quiet ks before (refused why) = (λ n. n, λ n. n)

-- ---- a build that is not turned away has a good block, and its graph is that of rules 3 to 7
not-away : (r : ℕ) (a c : Bool) → or_else r (cond (a || c) 7 0) ≡ 0 → or_else r (cond a 7 0) ≡ 0
not-away zero true c e = e
not-away zero false c e = refl
not-away (suc r) a c e = e

module _ (b : List ℕ) (n : Named) (l : Buffers) where
  roomy : turned_away b n l ≡ 0 → Roomy b (record { states = n.states; items = n.items }) l.graph
  unfolding turned_away graph.turned_away
  roomy e = let-in b (limits_of n) l.graph (not-away (refusal_of b) (graph.is_short b (limits_of n) l.graph) _ e)

  can-use : turned_away b n l ≡ 0 → Usable b (firsts_of b)
  can-use e = usable (roomy e).good

  rules-hold : turned_away b n l ≡ 0 → Given (graph_of b (firsts_of b) (limits_of n)) (Rules3to7 b (limits_of n))
  rules-hold e = rules-3-to-7 b (firsts_of b) (can-use e) (limits_of n) (roomy e).some-states (roomy e).some-items

  -- ---- clean exactly where canonical LR(1) has no conflict
  abbrev Exactly : Answer Built → Type 0
  Exactly a = EndsClean a ↔ (¬ CanonicalConflict (grammar_of b))

  tables-exactly : Usable b (firsts_of b) → (x : Answer (List State)) → Given x (Rules3to7 b (limits_of n))
      → Given x (λ ss. Exactly (then_tables b (caps_of n) x))
  tables-exactly U (is ss) R =
      Iff.trans (ends-quiet (collect_of ss) (length ss) (cells_of b (firsts_of b) (caps_of n) (collect_of ss)))
      (quiet-canonical b (firsts_of b) U (limits_of n) (collect_of ss) R.kept R.delivered-collected (caps_of n))
  tables-exactly U (refused why) R = tt

  -- ---- what the buffers then hold: after the answer a, that of the build x
  abbrev Holds : Answer Built → Built → Type 1
  Holds a x = Clean (counts_of x) → CheckedTables b (length x.states) (written a b n l)

  rows-checked : (ks : List State) (before : ℕ) → Growing b (limits_of n) ks → (x : Answer Rows)
      → Given x (λ d. Silent d.told → Checked (grammar_of b) (automaton_of b ks (actions_of d) (gotos_of ks)))
      → Given x (λ d. Tabular (length ks) (tokens b) d.cells)
      → Given (with_rows ks before x) (Holds (with_rows ks before x))
  rows-checked ks before H (is d) h R =
      λ C. record {
        automaton = automaton_of b ks (actions_of d) (gotos_of ks);
        checked = h (clean-silent ks before d C);
        agree = record {
          states = refl;
          action = λ s t i j.
              ap decode (sym (cell-read (tokens b) d.cells (length ks) R (n.states * tokens b) (drop (n.states * tokens b) l.actions) s t i j));
          goto = λ s r i j. ap target (sym (goto-read b (limits_of n) ks H (n.states * rules b) (drop (n.states * rules b) l.gotos) s r i j));
        };
      }
  rows-checked ks before H (refused why) h R = tt

  graph-checked : Usable b (firsts_of b) → (x : Answer (List State)) → Given x (Rules3to7 b (limits_of n))
      → Given (then_tables b (caps_of n) x) (Holds (then_tables b (caps_of n) x))
  graph-checked U (is ss) R =
      rows-checked (collect_of ss) (length ss) R.kept (cells_of b (firsts_of b) (caps_of n) (collect_of ss))
      (checked b (firsts_of b) U (limits_of n) (collect_of ss) R.kept R.delivered-collected (caps_of n))
      (cells-tabular b (firsts_of b) (caps_of n) (collect_of ss))
  graph-checked U (refused why) R = tt

pub clean : ClaimClean
unfolding build_call build_of
clean b n l e =
    subst (λ (k : ℕ). Given (graph_of b (firsts_of b) (limits_of n)) (λ ss. Exactly b n l (unless k (build_of b n)))) (sym e)
    (tables-exactly b n l (can-use b n l e) (graph_of b (firsts_of b) (limits_of n)) (rules-hold b n l e))

pub checked-tables : ClaimChecked
unfolding build_call build_of leaves
checked-tables b n l = go (turned_away b n l) refl
  where
    go : (k : ℕ) → turned_away b n l ≡ k
        → Given (unless k (build_of b n)) (λ x. Clean (counts_of x) → CheckedTables b (length x.states) (unchanged k l (written (build_of b n) b n l)))
    go zero e = graph-checked b n l (can-use b n l e) (graph_of b (firsts_of b) (limits_of n)) (rules-hold b n l e)
    go (suc k) e = tt
