-- The edges of each closed state lead to its gotos, while the graph is built. Assumes nothing.
use mathlib.Core.Bool.{true, true≢false}
use mathlib.Core.List.Memᴰ
use mathlib.Core.List.{List, [], ◌∷◌, Memᴰ}
use mathlib.Core.Logic.{◌⊎◌, inl, inr}
use mathlib.Core.Path.{◌≡◌, sym, ap, ◌∙◌, subst}
use Prim.Native.Nat.{ℕ, suc, ◌<◌}
use native.Mathlib.Decide.{ℕ_discrete, dec_lt}
use native.Mathlib.Omega.{arith}
use lib.ListN.{length, get_or, set}
use lib.Seq.{get_or-set_same, get_or-set_other}
use Rattle.knuth.specs.Grammar.{Sym, In}
use Rattle.knuth.specs.Automaton.{Before}
use Rattle.knuth.proofs.Linear.{⊑_trans}
use Rattle.block.specs.Lists.{change}
use Rattle.block.specs.Grammar.{symbol, grammar_of}
use Rattle.block.specs.First.{Ahead}
use Rattle.block.proofs.ListLaws.{change-at, change-other, change-size}
use Rattle.itemset.specs.Rows.{Row, Rows}
use Rattle.itemset.specs.Close.{close_of}
use Rattle.itemset.specs.Goto.{sights_of, goto_of}
use Rattle.itemset.specs.Kernel.{kernel_of}
use Rattle.itemset.specs.Ready.{Ready}
use Rattle.itemset.proofs.Rule4.{rule-4}
use Rattle.pager.specs.Place.{State, Limits}
use Rattle.pager.specs.Graph.{nowhere, edge_at, edge_to, mark, close_state}
use Rattle.pager.specs.Given.{Given}
use Rattle.pager.specs.Growing.{Growing, Grows}
use Rattle.pager.specs.Automaton.{edge_of}
use Rattle.pager.specs.Rules3to5.{Link, Links, NoOther, Linked}
use Rattle.pager.proofs.Walks.{given-map}
use Rattle.pager.proofs.Symbols.{word, symbol-word, edge-at, edge-injective, edge-below}
use Rattle.pager.proofs.Places.{Placing, close-keeps}
use Rattle.pager.proofs.Grown.{change-get, grown-mark, grown-edge, grows-change, grows-trans, grows-place, grown-under, grown-back}
use Rattle.pager.proofs.Growing.{growing-placed, Onward, step-onward, mark-onward, arriving}
use Rattle.pager.proofs.Still.{place_still, place-new, place_inside}
use Rattle.pager.proofs.LinkLaws.{before-mono, link-grows, others-grow, others-set}

-- ---- a state is closed: its gotos are placed in order
module _ (b : List ℕ) (m : Limits) (F : List Ahead) (ready : Ready b F) (ss : List State) (n : ℕ) (G : Growing b m ss) (l : n < length ss) where
  abbrev K : List Row
  K = (get_or ss n nowhere).rows

  R : Rows b K
  R = (G.state n l).rows

  abbrev seen : List ℕ
  seen = sights_of b (close_of b F K)

  -- the symbols xs are left to be placed, and the states are qq
  record Walking (xs : List ℕ) (qq : List State) : Type 0 where
    onward : Onward b m ss qq
    others : (r : ℕ) → r < length qq → NoOther b (get_or qq r nowhere).rows (get_or qq r nowhere).edges
    links : (r : ℕ) → r < length qq → (r ≡ n → ⊥) → (get_or qq r nowhere).closed ≡ true → Links b qq (get_or qq r nowhere).rows (get_or qq r nowhere).edges
    here : (x : ℕ) → Memᴰ x seen → Memᴰ x xs ⊎ Link b qq K (get_or qq n nowhere).edges (symbol x)
    rows : (get_or qq n nowhere).closed ≡ true → (get_or qq n nowhere).rows ≡ K

  begin : Linked b ss → Walking seen (change mark n ss)
  unfolding mark
  begin L =
      let z = change-size mark n ss in
      let g : Grows ss (change mark n ss) = grows-change mark grown-mark n ss l in
      record {
        onward = mark-onward b m n ss G l;
        others = λ r k. change-get (λ st. NoOther b st.rows st.edges) mark n ss r l (λ e. L.others n l) (λ d. L.others r (omega arith));
        links = λ r k d.
            subst (λ st. st.closed ≡ true → Links b (change mark n ss) st.rows st.edges) (sym (change-other mark nowhere n ss r d))
            (λ c X p e B. link-grows b ss (change mark n ss) (get_or ss r nowhere).rows (get_or ss r nowhere).edges X g (L.links r (omega arith) c X p e B));
        here = λ x k. inl k;
        rows = λ c. ap (λ st. st.rows) (change-at mark nowhere n ss l);
      }

  -- ---- one goto
  module _ (x : ℕ) (xs : List ℕ) (qq : List State) (t : ℕ) (rr : List State) (k : Memᴰ x seen) (W : Walking (x ∷ xs) qq)
      (P : Placing b m x (goto_of b (close_of b F K) x) qq t rr) where
    abbrev L : List Row
    L = goto_of b (close_of b F K) x

    abbrev zz : List State
    zz = change (edge_to b x t) n rr

    known : In (grammar_of b) (symbol x)
    known = (rule-4 b F ready K R).sights.known x k

    placed : Growing b m rr × (t < length rr)
    placed = growing-placed b m x L qq t rr W.onward.0 (arriving b F ready K R x k) P

    to-rr : Grows ss rr
    to-rr = grows-trans ss qq rr W.onward.1 (grows-place b m x L qq t rr P)

    low : n < length rr
    low = let a = to-rr.more in omega arith

    n-old : n < length qq
    n-old = let a = W.onward.1.more in omega arith

    to-zz : Grows rr zz
    to-zz = grows-change (edge_to b x t) (grown-edge b x t) n rr low

    qq-zz : Grows qq zz
    qq-zz = grows-trans qq rr zz (grows-place b m x L qq t rr P) to-zz

    at_n : get_or zz n nowhere ≡ edge_to b x t (get_or rr n nowhere)
    at_n = change-at (edge_to b x t) nowhere n rr low

    edges-n : (get_or zz n nowhere).edges ≡ set (get_or qq n nowhere).edges (edge_at b x) (suc t)
    unfolding edge_to
    edges-n = ap (λ st. st.edges) at_n ∙ ap (λ es. set es (edge_at b x) (suc t)) (place_still b m x L qq t rr P n n-old).edges

    -- no other edge
    others-rr : (r : ℕ) → r < length rr → NoOther b (get_or rr r nowhere).rows (get_or rr r nowhere).edges
    others-rr r h =
        elim (dec_lt r (length qq)) [
          | yes o ↦
              others-grow b (get_or qq r nowhere) (get_or rr r nowhere) ((grows-place b m x L qq t rr P).state r o) (place_still b m x L qq t rr P r o).edges
              (W.others r o)
          | no d ↦ λ X u i e. absurd (let z = (place-new b m x L qq t rr P r (omega arith) h).1 (edge_of b X) in omega arith)
        ]

    others-zz : (r : ℕ) → r < length zz → NoOther b (get_or zz r nowhere).rows (get_or zz r nowhere).edges
    unfolding edge_to
    others-zz r h =
        let z = change-size (edge_to b x t) n rr in
        let (p, d, B) = ((rule-4 b F ready K R).sighted x).0 k in
        change-get (λ st. NoOther b st.rows st.edges) (edge_to b x t) n rr r low
        (λ e. others-set b (get_or rr n nowhere).rows (get_or rr n nowhere).edges x t p d known
        (before-mono b K (get_or rr n nowhere).rows (grown-under (get_or ss n nowhere) (get_or rr n nowhere) (to-rr.state n l)).items (symbol x) p d B)
        (others-rr n low)) (λ d. others-rr r (omega arith))

    -- the links of other states
    links-zz : (r : ℕ) → r < length zz → (r ≡ n → ⊥) → (get_or zz r nowhere).closed ≡ true
        → Links b zz (get_or zz r nowhere).rows (get_or zz r nowhere).edges
    links-zz r h d =
        let z = change-size (edge_to b x t) n rr in
        subst (λ st. st.closed ≡ true → Links b zz st.rows st.edges) (sym (change-other (edge_to b x t) nowhere n rr r d))
        (λ c.
        elim (dec_lt r (length qq)) [
          | yes o ↦
              let S = place_still b m x L qq t rr P r o in
              subst (λ rs. Links b zz rs (get_or rr r nowhere).edges) (sym (S.rows c))
              (subst (λ es. Links b zz (get_or qq r nowhere).rows es) (sym S.edges)
              (λ X p e B. link-grows b qq zz (get_or qq r nowhere).rows (get_or qq r nowhere).edges X qq-zz (W.links r o d (S.closed c) X p e B)))
          | no u ↦ absurd (true≢false (sym c ∙ (place-new b m x L qq t rr P r (omega arith) (omega arith)).0))
        ])

    -- the new link, and those drawn before
    fresh : Link b zz K (get_or zz n nowhere).edges (symbol x)
    fresh =
        let I = place_inside b m x L qq t rr W.onward.0 ((rule-4 b F ready K R).moves x).rows P in
        let g = (rule-4 b F ready K R).goes x in
        let h = to-zz.state t placed.1 in
        let z = change-size (edge_to b x t) n rr in
        let y = placed.1 in
        record {
          to = t;
          is =
              ap (λ es. get_or es (edge_of b (symbol x)) 0) edges-n
              ∙ ap (λ i. get_or (set (get_or qq n nowhere).edges (edge_at b x) (suc t)) i 0) (sym (edge-at b x))
              ∙ get_or-set_same (get_or qq n nowhere).edges (edge_at b x) (suc t) 0
              (subst (λ i. i < length (get_or qq n nowhere).edges) (sym (edge-at b x))
              (let w = (W.onward.0.state n n-old).width in let u = edge-below b (symbol x) known in omega arith));
          below = omega arith;
          leads =
              record {
                contains = ⊑_trans g.back (⊑_trans I.0 (grown-under (get_or rr t nowhere) (get_or zz t nowhere) h));
                only = λ p d q. g.there.items p d (I.1 p d (grown-back (get_or rr t nowhere) (get_or zz t nowhere) h p d q));
              };
        }

    older : (y : ℕ) → Memᴰ y seen → Link b qq K (get_or qq n nowhere).edges (symbol y) → Link b zz K (get_or zz n nowhere).edges (symbol y)
    older y j Q = go (ℕ_discrete (edge_of b (symbol y)) (edge_at b x))
      where
        go : Dec (edge_of b (symbol y) ≡ edge_at b x) → Link b zz K (get_or zz n nowhere).edges (symbol y)
        go (yes e) =
            subst (λ X. Link b zz K (get_or zz n nowhere).edges X)
            (edge-injective b (symbol x) (symbol y) known ((rule-4 b F ready K R).sights.known y j) (sym (e ∙ edge-at b x))) fresh
        go (no d) =
            let M = link-grows b qq zz K (get_or qq n nowhere).edges (symbol y) qq-zz Q in
            record {
              to = M.to;
              is =
                  ap (λ es. get_or es (edge_of b (symbol y)) 0) edges-n
                  ∙ get_or-set_other (get_or qq n nowhere).edges (edge_at b x) (edge_of b (symbol y)) (suc t) 0 d
                  ∙ M.is;
              below = M.below;
              leads = M.leads;
            }

    here-zz : (y : ℕ) → Memᴰ y seen → Memᴰ y xs ⊎ Link b zz K (get_or zz n nowhere).edges (symbol y)
    here-zz y j =
        elim (W.here y j) [
          | inl h ↦
              elim (Memᴰ.cases_cons h) [
                | inl e ↦ inr (subst (λ i. Link b zz K (get_or zz n nowhere).edges (symbol i)) (sym e) fresh)
                | inr h ↦ inl h
              ]
          | inr Q ↦ inr (older y j Q)
        ]

    next : Walking xs zz
    unfolding edge_to
    next =
        record {
          onward = step-onward b m n x t L ss qq rr l (arriving b F ready K R x k) P W.onward;
          others = others-zz;
          links = links-zz;
          here = here-zz;
          rows =
              let S = place_still b m x L qq t rr P n n-old in
              subst (λ st. st.closed ≡ true → st.rows ≡ K) (sym at_n) (λ c. S.rows c ∙ W.rows (S.closed c));
        }

  -- ---- all of them
  done : (rr : List State) → Walking [] rr → Linked b rr
  done rr W = record { others = W.others; links = λ r k c. at r k c (ℕ_discrete r n) }
    where
      all : (X : Sym) → Memᴰ (word X) [] ⊎ Link b rr K (get_or rr n nowhere).edges (symbol (word X)) → Link b rr K (get_or rr n nowhere).edges X
      all X (inl h) = absurd (Memᴰ.not-nil h)
      all X (inr Q) = subst (λ Y. Link b rr K (get_or rr n nowhere).edges Y) (symbol-word X) Q

      mine : (get_or rr n nowhere).closed ≡ true → Links b rr (get_or rr n nowhere).rows (get_or rr n nowhere).edges
      mine c =
          subst (λ rs. Links b rr rs (get_or rr n nowhere).edges) (sym (W.rows c))
          (λ X p d B.
          all X
          (W.here (word X)
          (((rule-4 b F ready K R).sighted (word X)).1 (p, d, subst (λ Y. Before (grammar_of b) (kernel_of K) Y p d) (sym (symbol-word X)) B))))

      at : (r : ℕ) → r < length rr → (get_or rr r nowhere).closed ≡ true → Dec (r ≡ n) → Links b rr (get_or rr r nowhere).rows (get_or rr r nowhere).edges
      at r k c (no d) = W.links r k d c
      at r k c (yes e) =
          subst (λ i. Links b rr (get_or rr i nowhere).rows (get_or rr i nowhere).edges) (sym e) (mine (subst (λ i. (get_or rr i nowhere).closed ≡ true) e c))

  pub linked-close : Linked b ss → Given (close_state b F m ss n) (Linked b)
  linked-close Q = given-map (Walking []) (Linked b) done (close_state b F m ss n) (close-keeps b F m ss n Walking (begin Q) next)
