-- Collection keeps a delivered automaton delivered; and rules 3 to 7 together. Assumes nothing.
use mathlib.Core.List.{List}
use mathlib.Core.Path.{◌≡◌, refl, sym, ap, ◌∙◌, subst}
use Prim.Native.Nat.{ℕ, zero, suc, ◌≤◌, ◌<◌}
use native.Mathlib.Omega.{arith}
use native.Mathlib.Decide.{dec_lt}
use lib.ListN.{length, get_or, length-map, get_or-eq_default}
use Rattle.knuth.specs.Grammar.{Grammar, Sym}
use Rattle.knuth.specs.Kernel.{Kernel, ◌≈◌}
use Rattle.knuth.specs.Canonical.{start-kernel}
use Rattle.knuth.specs.Pager.{Made}
use Rattle.knuth.specs.Automaton.{Automaton, Before, Target, Edged, NoOtherEdge}
use Rattle.knuth.specs.Delivered.{Delivered}
use Rattle.knuth.proofs.Join.{conflict-iff}
use Rattle.block.specs.Limits.{TOKENS}
use Rattle.block.specs.Block.{end_token_of}
use Rattle.block.specs.Grammar.{grammar_of}
use Rattle.block.specs.First.{Ahead}
use Rattle.itemset.specs.Kernel.{kernel_of}
use Rattle.pager.specs.Place.{State, Limits}
use Rattle.pager.specs.Graph.{nowhere, graph_of}
use Rattle.pager.specs.Collect.{reach_of, renumber, collect_of}
use Rattle.pager.specs.Growing.{Standing, Growing}
use Rattle.pager.specs.Automaton.{Actions, Gotos, edge_of, target, automaton_of}
use Rattle.pager.specs.Rules3to5.{Usable, Graphed}
use Rattle.pager.specs.Rule7.{Reachable, Edges, Rule7, number, moved}
use Rattle.pager.specs.Rules3to7.{Rules3to7, Claim3to7}
use Rattle.pager.proofs.Walks.{given-map}
use Rattle.pager.proofs.Ranks.{renumber-suc, suc-renumber, renumber-zero, map_at, reachable-below, kept-edge, rule-7}
use Rattle.pager.proofs.Whole.{graphed}
use Rattle.pager.proofs.Exact.{target-some, graph-delivered}

-- ---- the edges of a graph lead to states
pub growing-edges : (b : List ℕ) (m : Limits) (ss : List State) → Growing b m ss → Edges ss
growing-edges b m ss G = record { some = G.first; low = λ n i. at n i (dec_lt n (length ss)) }
  where
    out : (n i : ℕ) → length ss ≤ n → get_or (get_or ss n nowhere).edges i 0 ≤ length ss
    out n i h = rw (get_or-eq_default ss nowhere h) (omega arith)

    at : (n i : ℕ) → Dec (n < length ss) → get_or (get_or ss n nowhere).edges i 0 ≤ length ss
    at n i (yes l) = (G.state n l).edge i
    at n i (no d) = out n i (omega arith)

module _ (b : List ℕ) (ss : List State) (E : Edges ss) (action : Actions) (goto : Gotos)
    (D : Delivered (grammar_of b) (automaton_of b ss action goto)) where
  abbrev G : Grammar
  G = grammar_of b

  abbrev A : Automaton
  A = automaton_of b ss action goto

  abbrev B : Automaton
  B = automaton_of b (collect_of ss) action goto

  R : Rule7 ss
  R = rule-7 ss E

  -- ---- a kept state at its number
  module _ (n : ℕ) (r : Reachable ss n) where
    same_rows : (get_or (collect_of ss) (number ss n) nowhere).rows ≡ (get_or ss n nowhere).rows
    same_rows = ap (λ st. st.rows) (R.there n r)

    low : n < length ss
    low = reachable-below ss E r

    -- a statement of the kernel of n is one of the kernel of its number
    to-kept {ℓ} : (P : Kernel → Type ℓ) → P (A.kern n) → P (B.kern (number ss n))
    to-kept P h = subst (λ rs. P (kernel_of rs)) (sym same_rows) h

    from-kept {ℓ} : (P : Kernel → Type ℓ) → P (B.kern (number ss n)) → P (A.kern n)
    from-kept P h = subst (λ rs. P (kernel_of rs)) same_rows h

  kept-made : (n : ℕ) → Reachable ss n → Made G (B.kern (number ss n))
  kept-made n r = to-kept n r (λ K. Made G K) (D.made n (low n r))

  kept-edges : (n : ℕ) → Reachable ss n → (X : Sym) (p d : ℕ) → Before G (B.kern (number ss n)) X p d → Edged G B (number ss n) X
  kept-edges n r X p d h =
      let e = D.exact.edges n (low n r) X p d (from-kept n r (λ K. Before G K X p d) h) in
      let w = target-some (get_or (get_or ss n nowhere).edges (edge_of b X) 0) e.to e.is in
      let q = Reachable.step (edge_of b X) r w in
      record {
        to = number ss e.to;
        is = ap target (kept-edge ss E n r (edge_of b X) ∙ renumber-suc ss (get_or (get_or ss n nowhere).edges (edge_of b X) 0) e.to w);
        in-states = R.below e.to q;
        target = to-kept n r (λ K. Target G K X (B.kern (number ss e.to))) (to-kept e.to q (λ K. Target G (A.kern n) X K) e.target);
      }

  kept-others : (n : ℕ) → Reachable ss n → NoOtherEdge G B (number ss n)
  kept-others n r X k i h =
      let (t, w, _) =
      suc-renumber ss (get_or (get_or ss n nowhere).edges (edge_of b X) 0) k (sym (kept-edge ss E n r (edge_of b X)) ∙ target-some _ k h) in
      let (p, d, c) = D.exact.no_other n (low n r) X t i (ap target w) in
      (p, d, to-kept n r (λ K. Before G K X p d) c)

  -- ---- and so each state that is left
  pub collected-delivered : Delivered G B
  collected-delivered =
      record {
        exact =
            record {
              some-state = let h = R.below 0 Reachable.start in let z = R.first in omega arith;
              start = subst (λ k. B.kern k ≈ start-kernel G) R.first (to-kept 0 Reachable.start (λ K. K ≈ start-kernel G) D.exact.start);
              edges = λ s l.
                  let (n, r, e) = R.only s l in
                  subst (λ k. (X : Sym) (p d : ℕ) → Before G (B.kern k) X p d → Edged G B k X) e (kept-edges n r);
              no_other = λ s l. let (n, r, e) = R.only s l in subst (λ k. NoOtherEdge G B k) e (kept-others n r);
            };
        made = λ s l. let (n, r, e) = R.only s l in subst (λ k. Made G (B.kern k)) e (kept-made n r);
      }

-- ---- what is left stands as the states of a graph do
module _ (b : List ℕ) (m : Limits) (ss : List State) (G : Growing b m ss) where
  edges-low : Edges ss
  edges-low = growing-edges b m ss G

  rule7 : Rule7 ss
  rule7 = rule-7 ss edges-low

  word_low : (n : ℕ) → Reachable ss n → (i : ℕ) → renumber (reach_of ss) (get_or (get_or ss n nowhere).edges i 0) ≤ length (collect_of ss)
  word_low n r i = go (get_or (get_or ss n nowhere).edges i 0) refl
    where
      go : (w : ℕ) → get_or (get_or ss n nowhere).edges i 0 ≡ w → renumber (reach_of ss) w ≤ length (collect_of ss)
      go zero e = omega (arith, renumber-zero ss)
      go (suc t) e = omega (arith, renumber-suc ss (suc t) t refl, rule7.below t (Reachable.step i r e))

  standing-kept : (n : ℕ) → Reachable ss n → Standing b (length (collect_of ss)) (number ss n) (moved ss (get_or ss n nowhere))
  standing-kept n r =
      let S = G.state n (reachable-below ss edges-low r) in
      record {
        rows = S.rows;
        some = S.some;
        made = λ l. S.made (past l);
        dots = λ l. S.dots (past l);
        symbols = S.symbols;
        width = length-map (get_or ss n nowhere).edges (renumber (reach_of ss)) ∙ S.width;
        edge = λ i.
            let h = word_low n r i in
            let e = map_at (renumber (reach_of ss)) (renumber-zero ss) (get_or ss n nowhere).edges i in
            omega arith;
      }
    where
      past : 0 < number ss n → 0 < n
      past l =
          elim (dec_lt 0 n) [
            | yes h ↦ h
            | no d ↦
                let y : n ≡ 0 = omega arith in
                let z : number ss n ≡ number ss 0 = ap (number ss) y in
                let f = rule7.first in
                absurd (omega arith)
          ]

  pub growing-collected : Growing b m (collect_of ss)
  growing-collected =
      let z = rule7.there 0 Reachable.start in
      let f = rule7.first in
      record {
        few = let a = rule7.few in let c = G.few in omega arith;
        fit = let a = rule7.fit in let c = G.fit in omega arith;
        first = let h = rule7.below 0 Reachable.start in omega arith;
        start = ap (λ k. (get_or (collect_of ss) k nowhere).rows) (sym f) ∙ ap (λ st. st.rows) z ∙ G.start;
        start-made = ap (λ k. (get_or (collect_of ss) k nowhere).made) (sym f) ∙ ap (λ st. st.made) z ∙ G.start-made;
        state = λ k l.
            let (n, r, e) = rule7.only k l in
            subst (λ k. Standing b (length (collect_of ss)) k (get_or (collect_of ss) k nowhere)) e
            (subst (λ st. Standing b (length (collect_of ss)) (number ss n) st) (sym (rule7.there n r)) (standing-kept n r));
      }

-- ---- rules 3 to 7
pub rules-of : (b : List ℕ) (F : List Ahead) → Usable b F → (m : Limits) (ss : List State) → Graphed b m ss → Rules3to7 b m ss
rules-of b F U m ss H =
    let l : end_token_of b < TOKENS = (let a = U.valid.end-in in let c = U.few in omega arith) in
    let E = growing-edges b m ss H.growing in
    let D = graph-delivered b m ss l H in
    let C : (action : Actions) (goto : Gotos) → Delivered (grammar_of b) (automaton_of b (collect_of ss) action goto) =
    λ action goto. collected-delivered b ss E action goto (D action goto) in
    record {
      graph = H;
      collected = rule-7 ss E;
      kept = growing-collected b m ss H.growing;
      delivered = D;
      delivered-collected = C;
      conflicts = λ action goto. conflict-iff (grammar_of b) U.valid (automaton_of b (collect_of ss) action goto) (C action goto);
    }

pub rules-3-to-7 : Claim3to7
rules-3-to-7 b F U m s i = given-map (Graphed b m) (Rules3to7 b m) (λ ss H. rules-of b F U m ss H) (graph_of b F m) (graphed b F U m s i)
