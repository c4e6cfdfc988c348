-- The events of a state of a delivered graph are the actions that it calls for; they stand in order. Assumes nothing.
use mathlib.Core.Bool.{Bool, true, false, ◌&&◌, cond, true≢false}
use mathlib.Core.List.Memᴰ
use mathlib.Core.List.{List, Memᴰ}
use mathlib.Core.Logic.{◌≢◌, ⊎_elim}
use mathlib.Core.Path.{◌≡◌, refl, sym, ap, ap₂, subst, ◌∙◌}
use Prim.Native.Nat.{ℕ, suc, ◌+◌, ◌<◌, ◌/◌}
use native.Mathlib.Omega.{arith}
use lib.Dec.{eqb}
use lib.ListN.{length, get_or, drop}
use borrow.Author.Tests.{eqb-true, eq-eqb, ne_eqb}
use Rattle.knuth.specs.Grammar.{token}
use Rattle.knuth.specs.Canonical.{Act, Acts}
use Rattle.knuth.specs.Tables.{Action}
use Rattle.knuth.specs.Automaton.{Automaton, Calls}
use Rattle.knuth.specs.Delivered.{Delivered}
use Rattle.knuth.proofs.Items.{start-at-end, no-shift-at-end}
use Rattle.block.specs.Limits.{DOTS}
use Rattle.block.specs.Block.{tokens, rules, end_token_of, start_prod}
use Rattle.block.specs.Grammar.{grammar_of}
use Rattle.block.specs.First.{Ahead}
use Rattle.block.proofs.ListLaws.{and_both}
use Rattle.itemset.specs.Rows.{Row, Rows}
use Rattle.itemset.specs.Kernel.{kernel_of}
use Rattle.itemset.specs.Close.{close_of}
use Rattle.pager.specs.Lists.{each}
use Rattle.pager.specs.Place.{State, Limits}
use Rattle.pager.specs.Graph.{nowhere}
use Rattle.pager.specs.Growing.{Growing}
use Rattle.pager.specs.Automaton.{Actions, Gotos, automaton_of, target}
use Rattle.pager.specs.Rules3to5.{Usable}
use Rattle.pager.proofs.Exact.{target-some}
use Rattle.statetable.specs.Events.{Event, completes, leads, of_row, of_edges, events_of}
use Rattle.statetable.proofs.Pairs.{pairs-append}
use Rattle.statetable.proofs.Meeting.{at, act, ends, Before}
use Rattle.statetable.proofs.Filling.{Fair}
use Rattle.statetable.proofs.Completing.{Ended, rows-only, close-pairs, event-holds, holds-event}
use Rattle.statetable.proofs.Leading.{edges-pairs, edge-kind, edge-event}

-- whether the start production ends at the end token
ends-yes : (b : List ℕ) (t p : ℕ) → p ≡ start_prod b → t ≡ end_token_of b → ends b t p ≡ true
ends-yes b t p e k = ap₂ ◌&&◌ (eq-eqb p (start_prod b) e) (eq-eqb t (end_token_of b) k)

ends-no : (b : List ℕ) (t p : ℕ) → p ≢ start_prod b → ends b t p ≡ false
ends-no b t p n = ap (λ (c : Bool). c && eqb t (end_token_of b)) (ne_eqb p (start_prod b) n)

module _ (b : List ℕ) (F : List Ahead) (U : Usable b F) (l : Limits) (ss : List State) (H : Growing b l ss) (action : Actions) (goto : Gotos)
    (D : Delivered (grammar_of b) (automaton_of b ss action goto)) (s : ℕ) (hs : s < length ss) where
  abbrev A : Automaton
  A = automaton_of b ss action goto

  abbrev K : List Row
  K = (get_or ss s nowhere).rows

  abbrev es : List ℕ
  es = (get_or ss s nowhere).edges

  abbrev Here : Event → Type 0
  Here e = Memᴰ e (events_of b F (get_or ss s nowhere))

  rows : Rows b K
  rows = (H.state s hs).rows

  -- ---- what each event says
  abbrev Says : Event → Type 0
  Says (completes t p) = (t < tokens b) × Ended b K p t
  Says (leads t u) = (t < tokens b) × (get_or es (rules b + t) 0 ≡ suc u)

  says : (e : Event) → Here e → Says e
  unfolding events_of
  says (completes t p) m =
      ⊎_elim (event-holds b F U.ready K rows t p)
      (λ n. let (u, v, e, _, _) = edge-kind b es (H.state s hs).width (completes t p) n in let z : ◌≡◌ {A = ℕ} 0 1 = cc in absurd (omega arith))
      (Memᴰ.append_cases (each (of_row b) (close_of b F K)) m)
  says (leads t u) m =
      ⊎_elim (λ n. let E = rows-only b (close_of b F K) (leads t u) n in let k = E.is in let z : ◌≡◌ {A = ℕ} 0 1 = cc in absurd (omega arith))
      (λ n. let (v, w, e, k, h) = edge-kind b es (H.state s hs).width (leads t u) n in same v w e k h)
      (Memᴰ.append_cases (each (of_row b) (close_of b F K)) m)
    where
      same : (v w : ℕ) → leads t u ≡ leads v w → v < tokens b → get_or es (rules b + v) 0 ≡ suc w → Says (leads t u)
      same v w e k h =
          let i : t ≡ v = cc in
          let j : u ≡ w = cc in
          (omega arith, ap (λ (n : ℕ). get_or es (rules b + n) 0) i ∙ h ∙ ap suc (sym j))

  -- ---- no edge is at the end token, so the events stand in order
  edge-acts : (t u : ℕ) → t < tokens b → get_or es (rules b + t) 0 ≡ suc u → Acts (grammar_of b) (kernel_of K) t Act.shift
  edge-acts t u k e = let (p, d, B) = D.exact.no_other s hs (token t) u k (ap target e) in Acts.shifts B.closed B.after

  no_end : (t u : ℕ) → t < tokens b → get_or es (rules b + t) 0 ≡ suc u → t ≢ end_token_of b
  no_end t u k e h =
      no-shift-at-end (grammar_of b) U.valid (D.made s hs) (subst (λ n. Acts (grammar_of b) (kernel_of K) n Act.shift) h (edge-acts t u k e))

  pub fair : Fair b (events_of b F (get_or ss s nowhere))
  unfolding events_of
  fair =
      record {
        low = λ e m. low e (says e m);
        pairs =
            pairs-append (Before b) (each (of_row b) (close_of b F K)) (of_edges 0 (drop (rules b) es)) (close-pairs b F U.ready K rows)
            (edges-pairs b (drop (rules b) es) 0) cross;
      }
    where
      low : (e : Event) → Says e → at e < tokens b
      low (completes t p) h = h.0
      low (leads t u) h = h.0

      cross : (x y : Event) → Memᴰ x (each (of_row b) (close_of b F K)) → Memᴰ y (of_edges 0 (drop (rules b) es)) → Before b x y
      cross x y m n =
          let X = rows-only b (close_of b F K) x m in
          let (t, u, e, k, h) = edge-kind b es (H.state s hs).width y n in
          subst (λ z. Before b z y) (sym X.is) (subst (λ z. Before b (completes X.token (X.item / DOTS)) z) (sym e) (λ q r. no_end t u k h (sym q ∙ r)))

  -- ---- an event is called for
  start-end : (t : ℕ) → Ended b K (start_prod b) t → t ≡ end_token_of b
  start-end t h = start-at-end (grammar_of b) U.valid (D.made s hs) (Acts.reduces h refl)

  pub calls : (e : Event) → Here e → Calls (grammar_of b) A s (at e) (act b e)
  calls e m = go e (says e m)
    where
      reduced : (t p : ℕ) (c : Bool) → ends b t p ≡ c → Ended b K p t
          → Calls (grammar_of b) A s t (cond c Action.accept (Action.reduce p))
      reduced t p true k h =
          Calls.accepts
          (subst (λ q. Ended b K q t)
          (eqb-true p (start_prod b) (and_both (eqb p (start_prod b)) (eqb t (end_token_of b)) k).0) h)
      reduced t p false k h = Calls.reduces h other
        where
          other : p ≢ start_prod b
          other e =
              true≢false
              (sym (ends-yes b t p e (start-end t (subst (λ q. Ended b K q t) e h))) ∙ k)

      go : (e : Event) → Says e → Calls (grammar_of b) A s (at e) (act b e)
      go (completes t p) h = reduced t p (ends b t p) refl h.1
      go (leads t u) h = Calls.shifts (ap target h.1)

  -- ---- and what is called for is an event
  pub called : (t : ℕ) (a : Action) → t < tokens b → Calls (grammar_of b) A s t a → (e : Event) × Here e × (at e ≡ t) × (act b e ≡ a)
  unfolding events_of
  called t a k (Calls.shifts {s'} e) =
      (leads t s', Memᴰ.append_right (each (of_row b) (close_of b F K)) (edge-event b es (H.state s hs).width t s' (target-some _ s' e)), refl, refl)
  called t a k (Calls.reduces {p} h n) = (
    completes t p,
    Memᴰ.append_left (of_edges 0 (drop (rules b) es)) (holds-event b F U.ready K rows t p k h),
    refl,
    ap {B = Action} (λ c. cond c Action.accept (Action.reduce p)) (ends-no b t p n),
  )
  called t a k (Calls.accepts h) = (
    completes t (start_prod b),
    Memᴰ.append_left (of_edges 0 (drop (rules b) es)) (holds-event b F U.ready K rows t (start_prod b) k h),
    refl,
    ap {B = Action} (λ c. cond c Action.accept (Action.reduce (start_prod b))) (ends-yes b t (start_prod b) refl (start-end t h)),
  )
