-- What the graph is, all of it closed: rules 3 to 5 together. Assumes nothing.
use mathlib.Core.Bool.{Bool, true, false, true≢false}
use mathlib.Core.List.{List, [], ◌∷◌}
use mathlib.Core.Path.{◌≡◌, refl, sym, ap, ◌∙◌, subst}
use Prim.Native.Nat.{ℕ, ◌+◌, ◌≤◌, ◌<◌}
use native.Mathlib.Omega.{arith}
use lib.ListN.{length, get_or}
use Rattle.knuth.specs.Pager.{Made}
use Rattle.block.specs.Limits.{TOKENS}
use Rattle.block.specs.Block.{tokens, rules, end_token_of}
use Rattle.block.specs.Grammar.{grammar_of}
use Rattle.block.specs.First.{Ahead}
use Rattle.block.proofs.ListLaws.{get_d-same}
use Rattle.itemset.specs.Kernel.{kernel_of}
use Rattle.pager.specs.Place.{State, Limits, new}
use Rattle.pager.specs.Graph.{nowhere, close_state, start_state, graph_of}
use Rattle.pager.specs.Given.{Given}
use Rattle.pager.specs.Growing.{Growing}
use Rattle.pager.specs.Automaton.{edge_of}
use Rattle.pager.specs.Rules3to5.{Usable, AllMade, Linked, Graphed}
use Rattle.pager.proofs.Walks.{given-map, given_both}
use Rattle.pager.proofs.Places.{grow-keeps}
use Rattle.pager.proofs.Growing.{Onward, growing-close, growing-start}
use Rattle.pager.proofs.GraphFuel.{Done, graph-closed}
use Rattle.pager.proofs.Start.{start-same}
use Rattle.pager.proofs.Made.{made-close}
use Rattle.pager.proofs.Links.{linked-close}

module _ (b : List ℕ) (F : List Ahead) (U : Usable b F) (m : Limits) (s : 1 ≤ m.states) (i : 1 ≤ m.items) where
  end_low : end_token_of b < TOKENS
  end_low = let a = U.valid.end-in in let c = U.few in omega arith

  record Whole (ss : List State) : Type 1 where
    growing : Growing b m ss
    made : AllMade b ss
    linked : Linked b ss

  begin : Whole (start_state b ∷ [])
  unfolding start_state new
  begin =
      record {
        growing = growing-start b m U.valid.start-in s i;
        made = λ n l.
            subst (λ r. Made (grammar_of b) (kernel_of (get_or (start_state b ∷ []) r nowhere).rows)) (let z : 0 ≡ n = omega arith in z)
            (Made.same Made.start (record { there = (start-same b end_low).back; back = (start-same b end_low).there }));
        linked =
            record {
              others = λ n l X t k e.
                  absurd
                  (let z : n ≡ 0 = omega arith in
                  let y : get_or (get_or (start_state b ∷ []) n nowhere).edges (edge_of b X) 0 ≡ 0 =
                  ap (λ r. get_or (get_or (start_state b ∷ []) r nowhere).edges (edge_of b X) 0) z ∙ get_d-same {A = ℕ} (rules b + tokens b) (edge_of b X) 0 in
                  omega arith);
              links = λ n l c.
                  absurd (let z : n ≡ 0 = omega arith in true≢false (sym c ∙ ap (λ r. (get_or (start_state b ∷ []) r nowhere).closed) z));
            };
      }

  step : (ss : List State) (n : ℕ) → n < length ss → Whole ss → Given (close_state b F m ss n) Whole
  step ss n l W =
      given-map (λ rr. Onward b m ss rr × (AllMade b rr × Linked b rr)) Whole
      (λ rr h. record { growing = h.0.0; made = h.1.0; linked = h.1.1 }) (close_state b F m ss n)
      (given_both (Onward b m ss) (λ rr. AllMade b rr × Linked b rr) (close_state b F m ss n) (growing-close b m F U.ready ss n W.growing l)
      (given_both (AllMade b) (Linked b) (close_state b F m ss n) (made-close b m F U.ready ss n W.growing l W.made)
      (linked-close b m F U.ready ss n W.growing l W.linked)))

  whole : Given (graph_of b F m) Whole
  unfolding graph_of
  whole =
      grow-keeps b F m Whole (λ ss n u W. step ss n u.0 W) _ 0 (start_state b ∷ []) begin

  pub graphed : Given (graph_of b F m) (Graphed b m)
  graphed =
      given-map (λ rr. Whole rr × Done rr) (Graphed b m)
      (λ rr h. record {
        growing = h.0.growing;
        closed = λ n l. shut rr n (get_or rr n nowhere).closed refl (λ e. h.1 n (l, e));
        made = h.0.made;
        linked = h.0.linked;
      }) (graph_of b F m)
      (given_both Whole Done (graph_of b F m) whole (graph-closed b m F U.ready U.valid.start-in s i))
    where
      shut : (rr : List State) (n : ℕ) (c : Bool) → (get_or rr n nowhere).closed ≡ c → ((get_or rr n nowhere).closed ≡ false → ⊥)
          → (get_or rr n nowhere).closed ≡ true
      shut rr n true e h = e
      shut rr n false e h = absurd (h e)
