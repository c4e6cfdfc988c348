-- What is said of one state, after each change of it. Assumes nothing.
use mathlib.Core.List.{List, [], ◌∷◌}
use mathlib.Core.Logic.{inl, inr}
use mathlib.Core.Path.{◌≡◌, ◌∙◌}
use Prim.Native.Nat.{ℕ, zero, suc, ◌+◌, ◌≤◌, ◌<◌}
use native.Mathlib.Omega.{arith}
use lib.ListN.{get_or, set, length-set, length-replicate}
use Rattle.block.specs.Limits.{WORDS}
use Rattle.block.specs.Block.{tokens, rules, prods, start_prod, end_token_of}
use Rattle.block.specs.Sets.{empty}
use Rattle.block.proofs.ListLaws.{get_d-same}
use Rattle.block.proofs.SetLaws.{empty-fits, with-fits}
use Rattle.itemset.specs.Rows.{Row, Rows}
use Rattle.pager.specs.Place.{State, new, take_in}
use Rattle.pager.specs.Graph.{edge_to, edge_at, mark, start_state}
use Rattle.pager.specs.Growing.{Standing, Arriving}
use Rattle.pager.proofs.Union.{union-rows, union-length, union-present}

module _ (b : List ℕ) where
  pub more-standing : (M N n : ℕ) (st : State) → M ≤ N → Standing b M n st → Standing b N n st
  more-standing M N n st l S =
      record {
        rows = S.rows;
        some = S.some;
        made = S.made;
        dots = S.dots;
        symbols = S.symbols;
        width = S.width;
        edge = λ i. let h = S.edge i in omega arith;
      }

  pub take-standing : (N n x : ℕ) (K : List Row) (st : State) → Arriving b x K → Standing b N n st → Standing b N n (take_in K st)
  unfolding take_in
  take-standing N n x K st A S =
      record {
        rows = union-rows b st.rows K S.rows A.rows.sets;
        some = let h = S.some in omega (arith, union-length st.rows K);
        made = S.made;
        dots = λ l k m. S.dots l k (union-present k st.rows K m);
        symbols = S.symbols;
        width = S.width;
        edge = S.edge;
      }

  pub mark-standing : (N n : ℕ) (st : State) → Standing b N n st → Standing b N n (mark st)
  unfolding mark
  mark-standing N n st S =
      record { rows = S.rows; some = S.some; made = S.made; dots = S.dots; symbols = S.symbols; width = S.width; edge = S.edge }

  set-low : (ws : List ℕ) (i j w N : ℕ) → w ≤ N → get_or ws j 0 ≤ N → get_or (set ws i w) j 0 ≤ N
  set-low [] i j w N l h = h
  set-low (v ∷ ws) zero zero w N l h = l
  set-low (v ∷ ws) zero (suc j) w N l h = h
  set-low (v ∷ ws) (suc i) zero w N l h = h
  set-low (v ∷ ws) (suc i) (suc j) w N l h = set-low ws i j w N l h

  pub edge-standing : (N n x t : ℕ) (st : State) → t < N → Standing b N n st → Standing b N n (edge_to b x t st)
  unfolding edge_to
  edge-standing N n x t st l S =
      record {
        rows = S.rows;
        some = S.some;
        made = S.made;
        dots = S.dots;
        symbols = S.symbols;
        width = length-set st.edges (edge_at b x) (suc t) ∙ S.width;
        edge = λ i. set-low st.edges (edge_at b x) i (suc t) N l (S.edge i);
      }

  pub new-standing : (N n x : ℕ) (K : List Row) → Arriving b x K → Standing b N n (new b (suc x) K)
  unfolding new
  new-standing N n x K A =
      record {
        rows = A.rows;
        some = A.some;
        made = λ l. omega arith;
        dots = λ l. A.dots;
        symbols = λ y e. let z : x ≡ y = omega arith in rw z at A.known;
        width = length-replicate {A = ℕ} (rules b + tokens b) 0;
        edge = λ i. let z = get_d-same {A = ℕ} (rules b + tokens b) i 0 in omega arith;
      }

  start-rows : start_prod b < prods b → Rows b (start_state b).rows
  unfolding start_state new
  start-rows s =
      record {
        ascend = (omega arith, tt);
        sets = (with-fits WORDS empty (end_token_of b) empty-fits, tt);
        items = λ k m. elim m [ inl e ↦ record { prod = omega arith; dot = omega arith } | inr m ↦ absurd m ];
      }

  pub start-standing : (N : ℕ) → start_prod b < prods b → Standing b N 0 (start_state b)
  unfolding start_state new
  start-standing N s =
      record {
        rows = start-rows s;
        some = omega arith;
        made = λ h. absurd (omega arith);
        dots = λ h. absurd (omega arith);
        symbols = λ x e. absurd (omega arith);
        width = length-replicate {A = ℕ} (rules b + tokens b) 0;
        edge = λ i. let z = get_d-same {A = ℕ} (rules b + tokens b) i 0 in omega arith;
      }
