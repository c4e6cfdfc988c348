-- Each kernel of the graph is made from the start kernel. Assumes nothing.
use mathlib.Core.List.{List}
use mathlib.Core.Path.{◌≡◌, refl, sym, subst}
use Prim.Native.Nat.{ℕ, suc, ◌<◌}
use native.Mathlib.Omega.{arith}
use lib.ListN.{length, get_or}
use Rattle.knuth.specs.Kernel.{Kernel, ◌≈◌}
use Rattle.knuth.specs.Pager.{Made}
use Rattle.block.specs.Lists.{change}
use Rattle.block.specs.Grammar.{symbol, grammar_of}
use Rattle.block.specs.First.{Ahead}
use Rattle.block.proofs.ListLaws.{change-size}
use Rattle.itemset.specs.Rows.{Row, Rows}
use Rattle.itemset.specs.Close.{close_of}
use Rattle.itemset.specs.Goto.{goto_of}
use Rattle.itemset.specs.Kernel.{kernel_of}
use Rattle.itemset.specs.Ready.{Ready}
use Rattle.itemset.proofs.Rule4.{rule-4}
use Rattle.pager.specs.Place.{State, Limits, new, take_in}
use Rattle.pager.specs.Graph.{nowhere, edge_to, mark, close_state}
use Rattle.pager.specs.Given.{Given}
use Rattle.pager.specs.Growing.{Growing}
use Rattle.pager.specs.Rules3to5.{AllMade}
use Rattle.pager.proofs.Walks.{given-map}
use Rattle.pager.proofs.Union.{union-kernel}
use Rattle.pager.proofs.Weak.{weak-to, weak-items}
use Rattle.pager.proofs.Places.{Placing, close-keeps}
use Rattle.pager.proofs.Grown.{change-get, snoc-get, snoc-length, grows-place}
use Rattle.pager.proofs.Growing.{Onward, step-onward, mark-onward, arriving}

swap : {K L : Kernel} → K ≈ L → L ≈ K
swap h = record { there = h.back; back = h.there }

module _ (b : List ℕ) where
  -- ---- a change that leaves the rows
  made-change : (f : State → State) → ((st : State) → (f st).rows ≡ st.rows) → (n : ℕ) (ss : List State) → n < length ss → AllMade b ss
      → AllMade b (change f n ss)
  made-change f same n ss l M r k =
      let z = change-size f n ss in
      change-get (λ st. Made (grammar_of b) (kernel_of st.rows)) f n ss r l
      (λ e. subst (λ rs. Made (grammar_of b) (kernel_of rs)) (sym (same (get_or ss n nowhere))) (M n l)) (λ d. M r (omega arith))

  pub made-mark : (n : ℕ) (ss : List State) → n < length ss → AllMade b ss → AllMade b (change mark n ss)
  unfolding mark
  made-mark n ss l M = made-change mark (λ st. refl) n ss l M

  pub made-edge : (x t n : ℕ) (ss : List State) → n < length ss → AllMade b ss → AllMade b (change (edge_to b x t) n ss)
  unfolding edge_to
  made-edge x t n ss l M = made-change (edge_to b x t) (λ st. refl) n ss l M

  -- ---- a kernel is placed
  pub made-place : (m : Limits) (x : ℕ) (K : List Row) (ss : List State) (t : ℕ) (rr : List State) → Growing b m ss → Rows b K
      → Made (grammar_of b) (kernel_of K) → Placing b m x K ss t rr → AllMade b ss → AllMade b rr
  unfolding take_in new
  made-place m x K ss t rr G R k (Placing.equal n l e r) M = M
  made-place m x K ss t rr G R k (Placing.weak n l e c) M =
      λ r h.
      let z = change-size (take_in K) n ss in
      let rs : List Row = (get_or ss n nowhere).rows in
      let Q : Rows b rs = (G.state n l).rows in
      change-get (λ st. Made (grammar_of b) (kernel_of st.rows)) (take_in K) n ss r l
      (λ e. Made.same (Made.union (M n l) k (weak-to b rs K Q R c)) (swap (union-kernel rs K (weak-items b rs K Q R c)))) (λ d. M r (omega arith))
  made-place m x K ss t rr G R k (Placing.fresh l e) M =
      λ r h.
      let z = snoc-length ss (new b (suc x) K) in
      snoc-get (λ st. Made (grammar_of b) (kernel_of st.rows)) ss (new b (suc x) K) r (omega arith) (λ l. M r l) (λ e. k)

  -- ---- a goto kernel
  pub made-goto : (F : List Ahead) → Ready b F → (K : List Row) → Rows b K → (x : ℕ) → Made (grammar_of b) (kernel_of K)
      → Made (grammar_of b) (kernel_of (goto_of b (close_of b F K) x))
  made-goto F ready K R x M = Made.same (Made.goto (symbol x) M) (swap ((rule-4 b F ready K R).goes x))

-- ---- a state is closed
pub made-close : (b : List ℕ) (m : Limits) (F : List Ahead) → Ready b F → (ss : List State) (n : ℕ) → Growing b m ss → n < length ss → AllMade b ss
    → Given (close_state b F m ss n) (AllMade b)
made-close b m F ready ss n G l M =
    let K : List Row = (get_or ss n nowhere).rows in
    let R : Rows b K = (G.state n l).rows in
    given-map (λ rr. Onward b m ss rr × AllMade b rr) (AllMade b) (λ rr h. h.1) (close_state b F m ss n)
    (close-keeps b F m ss n (λ xs rr. Onward b m ss rr × AllMade b rr) (mark-onward b m n ss G l, made-mark b n ss l M)
    (λ x xs qq t rr k h p.
    let L : List Row = goto_of b (close_of b F K) x in
    let A = arriving b F ready K R x k in
    let low : n < length rr = (let a = h.0.1.more in let c = (grows-place b m x L qq t rr p).more in omega arith) in (
      step-onward b m n x t L ss qq rr l A p h.0,
      made-edge b x t n rr low (made-place b m x L qq t rr h.0.0 A.rows (made-goto b F ready K R x (M n l)) p h.1),
    )))
