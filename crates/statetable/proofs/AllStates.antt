-- The states in order: what is told only grows, so a filling that tells nothing at its end told nothing at any state, and row s is that of state s.
-- Assumes nothing.
use mathlib.Core.List.{List, [], ◌∷◌, ◌++◌, append_assoc, append-nil, Memᴰ}
use mathlib.Core.Path.{◌≡◌, refl, sym, ap, subst, ◌∙◌}
use Prim.Native.Nat.{ℕ, zero, suc, ◌<◌, ◌≤◌}
use native.Mathlib.Omega.{arith}
use lib.ListN.{length, get_or}
use Rattle.block.specs.First.{Ahead}
use Rattle.pager.specs.Lists.{Answer, is, refused, walk}
use Rattle.pager.specs.Place.{State}
use Rattle.pager.specs.Graph.{nowhere}
use Rattle.pager.specs.Given.{Given}
use Rattle.pager.proofs.Walks.{given-map, given_both}
use Rattle.statetable.specs.Events.{Event, events_of}
use Rattle.statetable.specs.Cells.{Told, Fill, fill_state, Rows, row_added, added, fill_next, no_rows, cells_of}
use Rattle.statetable.specs.Quiet.{Silent, Quiet}
use Rattle.statetable.specs.declared.records.Caps.{Caps}
use Rattle.statetable.proofs.Meeting.{at, act, mass, AtLeast}
use Rattle.statetable.proofs.Filling.{Fair, RowOf, state-more, state-writes, state-silent}

-- ---- nothing told is a mass of 0
pub silent-mass : (k : Told) → Silent k → mass k ≤ 0
silent-mass k S = omega (arith, ap length S.rr, ap length S.sr, S.count)

module _ (b : List ℕ) (F : List Ahead) where
  -- what is asked of the events of each state
  abbrev pub AllFair : List State → Type 0
  AllFair ss = (n : ℕ) → n < length ss → Fair b (events_of b F (get_or ss n nowhere))

  -- events at one token have one action
  abbrev pub AllAlike : List State → Type 0
  AllAlike ss =
      (n : ℕ) → n < length ss → (x e : Event) → Memᴰ x (events_of b F (get_or ss n nowhere)) → Memᴰ e (events_of b F (get_or ss n nowhere))
      → at x ≡ at e → act b x ≡ act b e

  -- row s holds what the events of state s call for
  abbrev pub RowsOf : List State → Rows → Type 0
  RowsOf ss d = (s : ℕ) → s < length ss → RowOf b F (get_or ss s nowhere) (get_or d.cells s [])

module _ (b : List ℕ) (F : List Ahead) (m : Caps) where
  -- the rows hold what the events of the states call for, state by state
  abbrev Rowed : List (List ℕ) → List State → Type 0
  Rowed [] [] = Unit {0}
  Rowed [] (st ∷ ss) = ⊥
  Rowed (c ∷ cs) [] = ⊥
  Rowed (c ∷ cs) (st ∷ ss) = RowOf b F st c × Rowed cs ss

  rowed-at : (cs : List (List ℕ)) (ss : List State) → Rowed cs ss → (s : ℕ) → s < length ss
      → RowOf b F (get_or ss s nowhere) (get_or cs s [])
  rowed-at [] [] h s l = absurd (omega arith)
  rowed-at [] (st ∷ ss) h s l = absurd h
  rowed-at (c ∷ cs) [] h s l = absurd h
  rowed-at (c ∷ cs) (st ∷ ss) h zero l = h.0
  rowed-at (c ∷ cs) (st ∷ ss) h (suc s) l = rowed-at cs ss h.1 s (omega arith)

  -- rows have come, and no less is told; where nothing new is, they hold what is called for
  record Came (d : Rows) (ss : List State) (r : Rows) : Type 0 where
    more : mass d.told ≤ mass r.told
    rows : mass r.told ≤ mass d.told → (new : List (List ℕ)) × (r.cells ≡ d.cells ++ new) × Rowed new ss

  came-none : (d : Rows) → Came d [] d
  came-none d = record { more = omega arith; rows = λ l. ([], sym (append-nil d.cells), tt) }

  came-next : (d r : Rows) (f : Fill) (st : State) (ss : List State) → mass d.told ≤ mass f.told
      → (mass f.told ≤ mass d.told → RowOf b F st f.cells) → Came (row_added d f) ss r → Came d (st ∷ ss) r
  came-next d r f st ss l w C =
      record {
        more = let h = C.more in omega arith;
        rows = λ k.
            let h = C.more in
            let (new, e, R) = C.rows (omega arith) in
            (f.cells ∷ new, e ∙ append_assoc d.cells (f.cells ∷ []) new, (w (omega arith), R));
      }

  walk_rows : (ss : List State) (d : Rows) → AllFair b F ss → Given (walk (fill_next b F m) d ss) (Came d ss)
  unfolding walk fill_next
  walk_rows [] d A = came-none d
  walk_rows (st ∷ ss) d A =
      go (fill_state b F m n d.told st)
      (given_both (AtLeast d.told) (λ g. mass g.told ≤ mass d.told → RowOf b F st g.cells)
      (fill_state b F m n d.told st) (state-more b F m n d.told st fair) (state-writes b F m n d.told st fair))
      (λ r. walk_rows ss r (λ j l. A (suc j) (omega arith)))
    where
      n : ℕ
      n = length d.cells

      fair : Fair b (events_of b F st)
      fair = A 0 (omega arith)

      go : (x : Answer Fill)
          → Given x (λ g. (mass d.told ≤ mass g.told) × (mass g.told ≤ mass d.told → RowOf b F st g.cells))
          → ((r : Rows) → Given (walk (fill_next b F m) r ss) (Came r ss))
          → Given (elim (added d x) [ is r ↦ walk (fill_next b F m) r ss | refused e ↦ refused e ]) (Came d (st ∷ ss))
      go (is f) h r =
          given-map (Came (row_added d f) ss) (Came d (st ∷ ss)) (λ c k. came-next d c f st ss h.0 h.1 k) (walk (fill_next b F m) (row_added d f) ss) (r (row_added d f))
      go (refused e) h r = tt

  pub cells-rows : (ss : List State) → AllFair b F ss → Given (cells_of b F m ss) (λ d. Silent d.told → RowsOf b F ss d)
  unfolding cells_of
  cells-rows ss A =
      given-map (Came no_rows ss) (λ d. Silent d.told → RowsOf b F ss d)
      (λ d C S s l.
      let (new, e, R) = C.rows (silent-mass d.told S) in
      subst (λ cs. RowOf b F (get_or ss s nowhere) (get_or cs s [])) (sym e) (rowed-at new ss R s l))
      (walk (fill_next b F m) no_rows ss) (walk_rows ss no_rows A)

  -- ---- where events at one token have one action, nothing is told
  walk-quiet : (ss : List State) (d : Rows) → AllFair b F ss → AllAlike b F ss → Silent d.told → Quiet (walk (fill_next b F m) d ss)
  unfolding walk fill_next
  walk-quiet [] d A U S = S
  walk-quiet (st ∷ ss) d A U S =
      let (f, e, t) = state-silent b F m (length d.cells) d.told st (A 0 (omega arith)) (U 0 (omega arith)) in
      subst (λ (x : Answer Fill). Quiet (elim (added d x) [ is r ↦ walk (fill_next b F m) r ss | refused e ↦ refused e ])) (sym e)
      (walk-quiet ss (row_added d f) (λ j l. A (suc j) (omega arith)) (λ j l. U (suc j) (omega arith)) (subst Silent (sym t) S))

  pub cells-quiet : (ss : List State) → AllFair b F ss → AllAlike b F ss → Quiet (cells_of b F m ss)
  unfolding cells_of
  cells-quiet ss A U = walk-quiet ss no_rows A U (record { rr = refl; sr = refl; count = refl })
