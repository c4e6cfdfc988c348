-- The graph's fuel is never used up: where it gives states, all are closed. Assumes nothing.
use mathlib.Core.Bool.{Bool, true, false, ◌&&◌}
use mathlib.Core.List.{List, [], ◌∷◌, ◌++◌}
use mathlib.Core.Logic.{◌⊎◌, inl, inr}
use mathlib.Core.Option.{Option, none, some}
use mathlib.Core.Path.{◌≡◌, refl, ap, ap₂, ◌∙◌}
use Prim.Native.Nat.{ℕ, zero, suc, ◌+◌, ◌*◌, ◌^◌, ◌≤◌, ◌<◌}
use native.Mathlib.Omega.{arith}
use lib.ListN.{length, get_or}
use Rattle.block.specs.Limits.{WORDS}
use Rattle.block.specs.Lists.{change}
use Rattle.block.specs.Block.{prods, start_prod}
use Rattle.block.specs.Sets.{join}
use Rattle.block.specs.First.{Ahead}
use Rattle.block.proofs.Joins.{weigh, join-grows, fits-weigh}
use Rattle.itemset.specs.Rows.{Row, row, Sets, same_rows}
use Rattle.itemset.specs.Close.{close_of}
use Rattle.itemset.specs.Goto.{goto_of}
use Rattle.itemset.specs.Ready.{Ready}
use Rattle.itemset.proofs.Put.{value}
use Rattle.itemset.proofs.Fuel.{rows_refl}
use Rattle.pager.specs.Lists.{is, refused}
use Rattle.pager.specs.Weak.{union}
use Rattle.pager.specs.Place.{State, Limits, items, new, take_in}
use Rattle.pager.specs.Graph.{edge_to, mark, nowhere, close_state, next_state, grow, start_state, graph_of}
use Rattle.pager.specs.Given.{Given}
use Rattle.pager.specs.Growing.{Growing}
use Rattle.pager.proofs.Walks.{given-map, given-on}
use Rattle.pager.proofs.Places.{Placing, close-keeps, Unclosed, Next, next-right}
use Rattle.pager.proofs.Growing.{Onward, step-onward, mark-onward, arriving, growing-mark, growing-start}

-- ---- the measure: 2 for a state, 2 for each unit of its value, 1 if it is closed
abbrev pub bit_of : Bool → ℕ
bit_of true = 1
bit_of false = 0

abbrev pub phi : List State → ℕ
phi [] = 0
phi (st ∷ ss) = 2 + 2 * value st.rows + bit_of st.closed + phi ss

bit_le : (c : Bool) → bit_of c ≤ 1
bit_le true = omega arith
bit_le false = omega arith

-- ---- its bound
sets-value : (rs : List Row) → Sets rs → value rs ≤ length rs * (WORDS * 2 ^ 64 + 1)
sets-value [] h = omega arith
sets-value (row i s ∷ rs) h = let a : weigh s ≤ WORDS * 2 ^ 64 = fits-weigh WORDS s h.0 in let c = sets-value rs h.1 in omega arith

phi-bound : (ss : List State) → ((n : ℕ) → n < length ss → Sets (get_or ss n nowhere).rows)
    → phi ss ≤ 3 * length ss + 2 * items ss * (WORDS * 2 ^ 64 + 1)
unfolding items
phi-bound [] h = omega arith
phi-bound (st ∷ ss) h =
    let a = sets-value st.rows (h 0 (omega arith)) in
    let c = phi-bound ss (λ n l. h (suc n) (omega arith)) in
    let d = bit_le st.closed in
    omega arith

-- ---- what a step does to it
union-grows : (K L : List Row) → (union K L ≡ K) ⊎ (value K < value (union K L))
unfolding union
union-grows [] L = inl refl
union-grows (row i s ∷ K) [] = inl refl
union-grows (row i s ∷ K) (row j t ∷ L) = go (join-grows s t) (union-grows K L)
  where
    go : (join s t ≡ s) ⊎ (weigh s < weigh (join s t)) → (union K L ≡ K) ⊎ (value K < value (union K L))
        → (row i (join s t) ∷ union K L ≡ row i s ∷ K) ⊎ (1 + weigh s + value K < 1 + weigh (join s t) + value (union K L))
    go (inl e) (inl d) = inl (ap₂ {C = List Row} (λ x xs. row i x ∷ xs) e d)
    go (inl e) (inr l) = inr (let z : weigh (join s t) ≡ weigh s = ap weigh e in omega arith)
    go (inr l) (inl d) = inr (let z : value (union K L) ≡ value K = ap value d in omega arith)
    go (inr l) (inr m) = inr (omega arith)

-- a change of a state that does not lower its part
abbrev Up : (State → State) → Type 0
Up f = (st : State) → 2 * value st.rows + bit_of st.closed ≤ 2 * value (f st).rows + bit_of (f st).closed

take-up : (K : List Row) → Up (take_in K)
unfolding take_in
take-up K st = go st.rows st.closed (union-grows st.rows K)
  where
    and-true : (c : Bool) → bit_of c ≤ bit_of (c && true)
    and-true true = omega arith
    and-true false = omega arith

    go : (rs : List Row) (c : Bool) → (union rs K ≡ rs) ⊎ (value rs < value (union rs K))
        → 2 * value rs + bit_of c ≤ 2 * value (union rs K) + bit_of (c && same_rows (union rs K) rs)
    go rs c (inl e) =
        let v : value (union rs K) ≡ value rs = ap value e in
        let q : bit_of (c && same_rows (union rs K) rs) ≡ bit_of (c && true) = ap (λ d. bit_of (c && d)) (ap (λ r. same_rows r rs) e ∙ rows_refl rs) in
        let w = and-true c in
        omega arith
    go rs c (inr l) = let w = bit_le c in omega arith

edge-up : (b : List ℕ) (x t : ℕ) → Up (edge_to b x t)
unfolding edge_to
edge-up b x t st = omega arith

change-phi : (f : State → State) → Up f → (n : ℕ) (ss : List State) → phi ss ≤ phi (change f n ss)
unfolding change
change-phi f U n [] = omega arith
change-phi f U zero (st ∷ ss) = let h = U st in omega arith
change-phi f U (suc n) (st ∷ ss) = let h = change-phi f U n ss in omega arith

snoc-phi : (ss : List State) (st : State) → phi ss ≤ phi (ss ++ (st ∷ []))
snoc-phi [] st = omega arith
snoc-phi (x ∷ ss) st = let h = snoc-phi ss st in omega arith

place-phi : (b : List ℕ) (m : Limits) (x : ℕ) (K : List Row) (ss : List State) (t : ℕ) (rr : List State) → Placing b m x K ss t rr → phi ss ≤ phi rr
place-phi b m x K ss t rr (Placing.equal n l e r) = omega arith
place-phi b m x K ss t rr (Placing.weak n l e r) = change-phi (take_in K) (take-up K) n ss
place-phi b m x K ss t rr (Placing.fresh l e) = snoc-phi ss (new b (suc x) K)

mark-phi : (n : ℕ) (ss : List State) → Unclosed ss n → phi ss < phi (change mark n ss)
unfolding change mark
mark-phi n [] u = absurd (omega (arith, u.0))
mark-phi zero (st ∷ ss) u = let e : bit_of st.closed ≡ 0 = ap bit_of u.1 in omega arith
mark-phi (suc n) (st ∷ ss) u = let k = mark-phi n ss (omega (arith, u.0), u.1) in omega arith

-- no state is left to be closed
abbrev pub Done : List State → Type 0
Done ss = (n : ℕ) → ¬ Unclosed ss n

-- ---- all rounds
module _ (b : List ℕ) (m : Limits) (F : List Ahead) (ready : Ready b F) where
  abbrev most : ℕ
  most = 3 * m.states + 2 * m.items * (WORDS * 2 ^ 64 + 1)

  pub phi-most : (ss : List State) → Growing b m ss → phi ss ≤ most
  phi-most ss G =
      let a = phi-bound ss (λ n l. (G.state n l).rows.sets) in
      let c = G.few in
      let d = G.fit in
      omega arith

  -- a state that is closed raises the measure
  pub close-phi : (ss : List State) (n : ℕ) → Growing b m ss → Unclosed ss n
      → Given (close_state b F m ss n) (λ rr. Growing b m rr × (phi ss < phi rr))
  close-phi ss n G u =
      given-map (λ rr. Onward b m ss rr × (phi ss < phi rr)) (λ rr. Growing b m rr × (phi ss < phi rr)) (λ rr h. (h.0.0, h.1)) (close_state b F m ss n)
      (close-keeps b F m ss n (λ xs rr. Onward b m ss rr × (phi ss < phi rr)) (mark-onward b m n ss G u.0, mark-phi n ss u)
      (λ x xs qq t rr k h p. (
        step-onward b m n x t (goto_of b (close_of b F (get_or ss n nowhere).rows) x) ss qq rr u.0
            (arriving b F ready (get_or ss n nowhere).rows (G.state n u.0).rows x k) p h.0,
        let h1 = h.1 in
            let q = place-phi b m x (goto_of b (close_of b F (get_or ss n nowhere).rows) x) qq t rr p in
            omega (arith, change-phi (edge_to b x t) (edge-up b x t) n rr),
      )))

  -- with fuel for what the measure may still rise, nothing is left unclosed
  pub grow-closed : (k last : ℕ) (ss : List State) → Growing b m ss → most ≤ k + phi ss → Given (grow b F m k last ss) Done
  unfolding grow
  grow-closed zero last ss G e =
      λ n u. let a = phi-most (change mark n ss) (growing-mark b m n ss G u.0) in let c = mark-phi n ss u in omega arith
  grow-closed (suc k) last ss G e = go (next_state last ss) (next-right last ss) (λ n rr H q. grow-closed k n rr H q)
    where
      go : (o : Option ℕ) → Next ss o → ((n : ℕ) (rr : List State) → Growing b m rr → most ≤ k + phi rr → Given (grow b F m k n rr) Done)
          → Given (elim o [ none ↦ is ss | some n ↦ elim (close_state b F m ss n) [ is rr ↦ grow b F m k n rr | refused x ↦ refused x ] ]) Done
      go none u r = u
      go (some n) u r =
          given-on (λ rr. Growing b m rr × (phi ss < phi rr)) Done (λ rr. grow b F m k n rr) (close_state b F m ss n) (close-phi ss n G u)
          (λ rr h. r n rr h.0 (let h1 = h.1 in omega arith))

  pub graph-closed : start_prod b < prods b → 1 ≤ m.states → 1 ≤ m.items → Given (graph_of b F m) Done
  unfolding graph_of
  graph-closed s a c = grow-closed most 0 (start_state b ∷ []) (growing-start b m s a c) (omega arith)
