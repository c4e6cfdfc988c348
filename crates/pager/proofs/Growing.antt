-- The states keep what is said of them while the graph is built. Assumes nothing.
use mathlib.Core.List.{List, [], ◌∷◌, ◌++◌, Memᴰ}
use mathlib.Core.Path.{◌≡◌, refl, sym, ap, ◌∙◌, subst}
use Prim.Native.Nat.{ℕ, suc, ◌+◌, ◌≤◌, ◌<◌}
use native.Mathlib.Omega.{arith}
use lib.ListN.{length, get_or}
use Rattle.block.specs.Lists.{change}
use Rattle.block.specs.Block.{prods, start_prod}
use Rattle.block.specs.First.{Ahead}
use Rattle.block.proofs.ListLaws.{change-size}
use Rattle.itemset.specs.Rows.{Row, Rows}
use Rattle.itemset.specs.Close.{close_of}
use Rattle.itemset.specs.Goto.{sights_of, goto_of}
use Rattle.itemset.specs.Ready.{Ready}
use Rattle.itemset.proofs.Rule4.{rule-4}
use Rattle.pager.specs.Place.{State, Limits, items, new, take_in, place_of}
use Rattle.pager.specs.Graph.{nowhere, edge_to, mark, place_edge, close_state, grow, start_state, graph_of}
use Rattle.pager.specs.Given.{Given}
use Rattle.pager.specs.Growing.{Standing, Arriving, Growing, Grown, Grows}
use Rattle.pager.proofs.Walks.{given-map}
use Rattle.pager.proofs.Places.{Placing, place-cases, edge-cases, close-keeps, grow-keeps}
use Rattle.pager.proofs.Grown.{change-get, change-items, snoc-items, snoc-length, snoc-get, grown-take, grown-edge, grown-mark, grows-refl, grows-trans, grows-change, grows-place}
use Rattle.pager.proofs.Standing.{more-standing, take-standing, mark-standing, edge-standing, new-standing, start-standing}

-- ---- the goto kernels of a state
pub arriving : (b : List ℕ) (F : List Ahead) → Ready b F → (K : List Row) → Rows b K → (x : ℕ) → Memᴰ x (sights_of b (close_of b F K))
    → Arriving b x (goto_of b (close_of b F K) x)
arriving b F ready K R x k =
    let r = rule-4 b F ready K R in
    record {
      rows = (r.moves x).rows;
      some = filled (goto_of b (close_of b F K) x) (r.some x k);
      dots = (r.moves x).dots;
      known = r.sights.known x k;
    }
  where
    filled : (rs : List Row) → (rs ≡ [] → ⊥) → 0 < length rs
    filled [] d = absurd (d refl)
    filled (q ∷ rs) d = omega arith

module _ (b : List ℕ) (m : Limits) where
  -- ---- one state changed
  growing-change : (f : State → State) (n : ℕ) (ss : List State) → Growing b m ss → n < length ss → ((st : State) → Grown st (f st))
      → (Standing b (length ss) n (get_or ss n nowhere) → Standing b (length ss) n (f (get_or ss n nowhere)))
      → (n ≡ 0 → (f (get_or ss n nowhere)).rows ≡ (get_or ss n nowhere).rows) → Growing b m (change f n ss)
  growing-change f n ss G l g stand same =
      record {
        few = let h = G.few in omega (arith, change-size f n ss);
        fit = let h = G.fit in omega (arith, change-items f (λ st. (g st).size) n ss);
        first = let h = G.first in omega (arith, change-size f n ss);
        start = change-get (λ st. st.rows ≡ (start_state b).rows) f n ss 0 l
            (λ e. same (sym e) ∙ ap (λ i. (get_or ss i nowhere).rows) (sym e) ∙ G.start) (λ d. G.start);
        start-made = change-get (λ st. st.made ≡ 0) f n ss 0 l
            (λ e. (g (get_or ss n nowhere)).made ∙ ap (λ i. (get_or ss i nowhere).made) (sym e) ∙ G.start-made) (λ d. G.start-made);
        state = λ r k.
            let z = change-size f n ss in
            let h : r < length ss = omega arith in
            change-get (λ st. Standing b (length (change f n ss)) r st) f n ss r l
            (λ e. more-standing b (length ss) (length (change f n ss)) r (f (get_or ss n nowhere)) (omega arith)
            (subst (λ i. Standing b (length ss) i (f (get_or ss n nowhere))) (sym e) (stand (G.state n l))))
            (λ d. more-standing b (length ss) (length (change f n ss)) r (get_or ss r nowhere) (omega arith) (G.state r h));
      }

  growing-snoc : (ss : List State) (x : ℕ) (K : List Row) → Growing b m ss → Arriving b x K → length ss < m.states → items ss + length K ≤ m.items
      → Growing b m (ss ++ (new b (suc x) K ∷ []))
  unfolding new
  growing-snoc ss x K G A s i =
      let st : State = new b (suc x) K in
      let z = snoc-length ss st in
      let f = G.first in
      record {
        few = omega arith;
        fit = omega (arith, snoc-items ss st);
        first = omega arith;
        start = snoc-get (λ rt. rt.rows ≡ (start_state b).rows) ss st 0 (omega arith) (λ l. G.start) (λ e. absurd (omega arith));
        start-made = snoc-get (λ rt. rt.made ≡ 0) ss st 0 (omega arith) (λ l. G.start-made) (λ e. absurd (omega arith));
        state = λ r l.
            snoc-get (λ rt. Standing b (length (ss ++ (st ∷ []))) r rt) ss st r (omega arith)
            (λ h. more-standing b (length ss) (length (ss ++ (st ∷ []))) r (get_or ss r nowhere) (omega arith) (G.state r h))
            (λ h. new-standing b (length (ss ++ (st ∷ []))) r x K A);
      }

  -- ---- a kernel is placed, and the edge drawn
  pub growing-placed : (x : ℕ) (K : List Row) (ss : List State) (t : ℕ) (rr : List State) → Growing b m ss → Arriving b x K
      → Placing b m x K ss t rr
      → Growing b m rr × (t < length rr)
  growing-placed x K ss t rr G A (Placing.equal n l e r) = (G, l)
  growing-placed x K ss t rr G A (Placing.weak n l e r) = (
    growing-change (take_in K) n ss G l (grown-take K) (take-standing b (length ss) n x K (get_or ss n nowhere) A)
        (λ z. absurd (let h : (get_or ss n nowhere).made ≡ 0 = ap (λ i. (get_or ss i nowhere).made) z ∙ G.start-made in omega arith)),
    omega (arith, change-size (take_in K) n ss),
  )
  growing-placed x K ss t rr G A (Placing.fresh s i) = (growing-snoc ss x K G A s i, omega (arith, snoc-length ss (new b (suc x) K)))

  pub growing-edge : (n x t : ℕ) (ss : List State) → Growing b m ss → n < length ss → t < length ss → Growing b m (change (edge_to b x t) n ss)
  unfolding edge_to
  growing-edge n x t ss G l k =
      growing-change (edge_to b x t) n ss G l (grown-edge b x t) (edge-standing b (length ss) n x t (get_or ss n nowhere) k) (λ e. refl)

  pub growing-mark : (n : ℕ) (ss : List State) → Growing b m ss → n < length ss → Growing b m (change mark n ss)
  unfolding mark
  growing-mark n ss G l = growing-change mark n ss G l grown-mark (mark-standing b (length ss) n (get_or ss n nowhere)) (λ e. refl)

  -- one step: a kernel placed for a symbol of state n
  abbrev pub Onward : List State → List State → Type 0
  Onward ss rr = Growing b m rr × Grows ss rr

  pub step-onward : (n x t : ℕ) (K : List Row) (ss qq rr : List State) → n < length ss → Arriving b x K → Placing b m x K qq t rr → Onward ss qq
      → Onward ss (change (edge_to b x t) n rr)
  step-onward n x t K ss qq rr l A p (G, g) =
      let (H, k) = growing-placed x K qq t rr G A p in
      let h : Grows ss rr = grows-trans ss qq rr g (grows-place b m x K qq t rr p) in
      let a = h.more in
      let n-low : n < length rr = omega arith in
      (growing-edge n x t rr H n-low k, grows-trans ss rr (change (edge_to b x t) n rr) h (grows-change (edge_to b x t) (grown-edge b x t) n rr n-low))

  pub growing-place : (x : ℕ) (K : List Row) (ss : List State) → Growing b m ss → Arriving b x K
      → Given (place_of b m ss x K) (λ p. Growing b m p.1 × (p.0 < length p.1) × Grows ss p.1)
  growing-place x K ss G A =
      given-map (λ p. Placing b m x K ss p.0 p.1) (λ p. Growing b m p.1 × (p.0 < length p.1) × Grows ss p.1)
      (λ p q. let h = growing-placed x K ss p.0 p.1 G A q in (h.0, h.1, grows-place b m x K ss p.0 p.1 q)) (place_of b m ss x K)
      (place-cases b m ss x K)

  pub growing-place-edge : (n x : ℕ) (K : List Row) (ss : List State) → Growing b m ss → n < length ss → Arriving b x K
      → Given (place_edge b m n ss (x, K)) (Onward ss)
  growing-place-edge n x K ss G l A =
      edge-cases b m n ss x K (Onward ss) (λ t rr p. step-onward n x t K ss ss rr l A p (G, grows-refl ss))

  -- ---- the first state, and a state marked
  pub growing-start : start_prod b < prods b → 1 ≤ m.states → 1 ≤ m.items → Growing b m (start_state b ∷ [])
  unfolding start_state new items
  growing-start s a c =
      record {
        few = a;
        fit = omega arith;
        first = omega arith;
        start = refl;
        start-made = refl;
        state = λ n l.
            let z : n ≡ 0 = omega arith in
            subst (λ i. Standing b 1 i (get_or (start_state b ∷ []) i nowhere)) (sym z) (start-standing b 1 s);
      }

  pub mark-onward : (n : ℕ) (ss : List State) → Growing b m ss → n < length ss → Onward ss (change mark n ss)
  mark-onward n ss G l = (growing-mark n ss G l, grows-change mark grown-mark n ss l)

  -- ---- a state is closed
  module _ (F : List Ahead) (ready : Ready b F) where
    pub growing-close : (ss : List State) (n : ℕ) → Growing b m ss → n < length ss → Given (close_state b F m ss n) (Onward ss)
    growing-close ss n G l =
        close-keeps b F m ss n (λ xs. Onward ss) (mark-onward n ss G l)
        (λ x xs qq t rr k h p.
        step-onward n x t (goto_of b (close_of b F (get_or ss n nowhere).rows) x) ss qq rr l (arriving b F ready (get_or ss n nowhere).rows (G.state n l).rows x k) p h)

    -- ---- all rounds
    pub growing-grow : (k last : ℕ) (ss : List State) → Growing b m ss → Given (grow b F m k last ss) (Onward ss)
    growing-grow k last ss G =
        grow-keeps b F m (Onward ss)
        (λ qq n u h.
        given-map (Onward qq) (Onward ss) (λ rr g. (g.0, grows-trans ss qq rr h.1 g.1)) (close_state b F m qq n) (growing-close qq n h.0 u.0)) k
        last ss (G, grows-refl ss)

    pub growing-graph : start_prod b < prods b → 1 ≤ m.states → 1 ≤ m.items → Given (graph_of b F m) (Growing b m)
    unfolding graph_of
    growing-graph s a c =
        given-map (Onward (start_state b ∷ [])) (Growing b m) (λ rr h. h.0) (graph_of b F m)
        (growing-grow _ 0 (start_state b ∷ []) (growing-start s a c))
