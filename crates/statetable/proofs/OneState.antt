-- A whole state, on the buffers: its kernel is closed, its complete items come, then its token edges. Assumes nothing.
use mathlib.Core.List.{List, ◌++◌}
use mathlib.Core.Path.{◌≡◌, refl, sym, ap, ◌∙◌, subst}
use Prim.Native.Nat.{ℕ, ◌+◌, ◌-◌, ◌*◌, ◌≤◌}
use native.Mathlib.Omega.{arith}
use lib.ListN.{length, take, drop, replicate, length-drop, length-replicate}
use lib.Seq.{take_all, get_or-drop}
use Rattle.std.specs.Prelude.{Ok, Err}
use Rattle.block.specs.Limits.{ITEM, PRODS, SYMBOLS}
use Rattle.block.specs.Block.{tokens, rules, prods, symbols}
use Rattle.block.specs.First.{firsts_of}
use Rattle.block.proofs.Good.{placed}
use Rattle.block.proofs.SetLaws.{zeros-zero}
use Rattle.itemset.specs.Rows.{Row, Rows}
use Rattle.itemset.specs.Close.{close_of}
use Rattle.itemset.specs.Lent.{ForClosure, Wrote}
use Rattle.itemset.proofs.Bounds.{rows_few}
use Rattle.itemset.proofs.Fuel.{close-rows}
use Rattle.itemset.proofs.GoodReady.{good-ready}
use Rattle.pager.specs.Lists.{each, walk}
use Rattle.pager.specs.Place.{State}
use Rattle.pager.specs.Held.{STATES}
use Rattle.pager.proofs.Rooms.{wrote-front, wrote-scratch}
use Rattle.statetable.specs.Cell.{decode}
use Rattle.statetable.specs.Events.{of_row, of_edges, events_of}
use Rattle.statetable.specs.Cells.{Told, fill, fresh, fill_state}
use Rattle.statetable.specs.Laid.{ActionIn, AllIn, Laid, LeftBy}
use Rattle.statetable.specs.ForFilling.{ForRow, ForEdges, ForState}
use Rattle.statetable.specs.declared.records.Caps.{Caps}
use Rattle.statetable.specs.declared.records.Tally.{Tally}
use Rattle.statetable.specs.declared.refusal.BuildRefusal.{BuildRefusal}
use Rattle.statetable.proofs.Folds.{Here, here-more, more-stuck}

-- cells that are all 0 are errors
empty-in : (b : List ℕ) (n : ℕ) → AllIn b (replicate n 0)
unfolding decode
empty-in b n t l = subst (λ w. ActionIn b (decode w)) (sym (zeros-zero n t)) tt

module _ {b : List ℕ} {m : Caps} {s : ℕ} {kernel edges closed : List ℕ} {n : Tally} {cells offered rr sr : List ℕ} {st : State} {k : Told}
    (F : ForState b m s kernel edges closed n cells offered rr sr st k) where
  abbrev C : List Row
  C = close_of b (firsts_of b) st.rows

  pub state-closure : ForClosure b kernel closed st.rows
  state-closure =
      record {
        kernel = record { good = F.good; rows = F.fillable.rows; words = F.words };
        room = F.room;
      }

  closure-rows : Rows b C
  closure-rows = close-rows b (firsts_of b) (good-ready F.good) st.rows F.fillable.rows

  few : length C ≤ symbols b + prods b
  few = rows_few b (firsts_of b) (good-ready F.good) C closure-rows

  -- ---- the closed rows
  module _ (r : ℕ) (closed' : List ℕ) (W : Wrote C r closed closed') where
    pub closed-few : r ≤ SYMBOLS + PRODS
    closed-few = let p = placed F.good in let x = p.symbols-most in let y = p.prods-most in omega (arith, few, W.count)

    pub closed-fits : ITEM * r ≤ length closed'
    closed-fits = omega (arith, few, W.count, F.room, (wrote-scratch W closure-rows.sets (symbols b + prods b) few F.room).size)

    pub closed-row : ForRow b (take (ITEM * r) closed') C
    closed-row = record { rows = closure-rows; words = wrote-front W closure-rows.sets }

  -- ---- the empty row
  pub state-laid : Laid b m s (s * tokens b) (fresh b k) n cells offered rr sr
  state-laid =
      record {
        good = F.good;
        state = F.state;
        width = length-replicate {A = ℕ} (tokens b) 0;
        marks = length-replicate {A = ℕ} (tokens b) 0;
        actions = empty-in b (tokens b);
        cells_are = F.cells_are;
        offered-are = F.offered-are;
        listed = F.listed;
        count = F.count;
      }

  -- ---- the token edges
  module _ (r : ℕ) (e : r ≡ rules b) where
    pub edges-part : take (length edges - r) (drop r edges) ≡ drop (rules b) st.edges
    edges-part =
        take_all (length edges - r) (drop r edges) (omega (arith, length-drop r edges))
        ∙ ap (λ (j : ℕ). drop j edges) e
        ∙ ap (drop (rules b)) F.edges_are

    pub edges-start : r ≤ length edges
    edges-start = omega (arith, F.fillable.width, ap length F.edges_are)

    pub for-edges : ForEdges b (take (length edges - r) (drop r edges))
    for-edges = subst (ForEdges b) (sym edges-part) behind
      where
        behind : ForEdges b (drop (rules b) st.edges)
        behind =
            record {
              width = omega (arith, length-drop (rules b) st.edges, F.fillable.width);
              edge = λ t. subst (λ (x : ℕ). x ≤ STATES) (sym (get_or-drop (rules b) st.edges t 0)) (F.fillable.edge (rules b + t));
            }

  -- ---- the complete items are still to come, then the token edges
  pub state-start : Here b m s (s * tokens b) (fill_state b (firsts_of b) m s k st) (each (of_row b) C ++ of_edges 0 (drop (rules b) st.edges)) n cells offered rr sr
  unfolding fill_state events_of
  state-start = record { row = fresh b k; laid = state-laid; whole = refl }

  -- the complete items have come
  pub items-done : {n' : Tally} {cells' offered' rr' sr' : List ℕ}
      → LeftBy (walk (fill b m s) (fresh b k) (each (of_row b) C)) b m s (s * tokens b) (Ok n') cells' offered' rr' sr'
      → Here b m s (s * tokens b) (fill_state b (firsts_of b) m s k st) (of_edges 0 (drop (rules b) st.edges)) n' cells' offered' rr' sr'
  unfolding state-start
  items-done L = here-more state-start (each (of_row b) C) (of_edges 0 (drop (rules b) st.edges)) refl L

  pub items-stuck : (e : BuildRefusal) (cells' offered' rr' sr' : List ℕ)
      → LeftBy (walk (fill b m s) (fresh b k) (each (of_row b) C)) b m s (s * tokens b) (Err e) cells' offered' rr' sr'
      → (c' : ℕ) (cells'' offered'' rr'' sr'' : List ℕ) → LeftBy (fill_state b (firsts_of b) m s k st) b m s c' (Err e) cells'' offered'' rr'' sr''
  unfolding state-start
  items-stuck e cells' offered' rr' sr' L = more-stuck state-start (each (of_row b) C) (of_edges 0 (drop (rules b) st.edges)) refl (s * tokens b) e cells' offered' rr' sr' L
