-- The three ways in which rule 5 places a kernel, and what the steps of the graph keep. Assumes nothing.
use mathlib.Core.Bool.{Bool, true, false, true≢false, not}
use mathlib.Core.List.{List, [], ◌∷◌, ◌++◌, Memᴰ}
use mathlib.Core.Option.{Option, none, some}
use mathlib.Core.Path.{◌≡◌, refl, sym, ap, ◌∙◌, subst}
use Prim.Native.Nat.{ℕ, zero, suc, ◌+◌, ◌≤◌, ◌<◌}
use native.Mathlib.Omega.{arith}
use lib.Dec.{ltb, leb, eqb}
use lib.ListN.{length, get_or, drop, length-drop}
use borrow.Author.Tests.{ltb-true, leb-true, eqb-true, not-true, not-false}
use lib.Seq.{get_or-drop}
use Rattle.block.specs.Lists.{change}
use Rattle.block.specs.First.{Ahead}
use Rattle.block.proofs.ListLaws.{and_both}
use Rattle.itemset.specs.Rows.{Row, same_rows}
use Rattle.itemset.specs.Close.{close_of}
use Rattle.itemset.specs.Goto.{sights_of, goto_of, gotos_of}
use Rattle.itemset.proofs.Fuel.{rows_is}
use Rattle.pager.specs.Lists.{find, is, refused}
use Rattle.pager.specs.Weak.{compatible}
use Rattle.pager.specs.Place.{State, Limits, items, new, take_in, is_equal, is_weak, add_state, place_of}
use Rattle.pager.specs.Graph.{edge_to, mark, place_edge, nowhere, close_state, next_state, grow}
use Rattle.pager.specs.Given.{Given}
use Rattle.pager.proofs.Walks.{given-on, walk-keeps, Found, found, found-zero}

-- ---- the kernel K, made for symbol x, comes to state n, and the states are then rr
pub data Placing (b : List ℕ) (m : Limits) (x : ℕ) (K : List Row) (ss : List State) : ℕ → List State → Type 0 where
  equal : (n : ℕ) → n < length ss → (get_or ss n nowhere).made ≡ suc x → (get_or ss n nowhere).rows ≡ K → Placing b m x K ss n ss
  weak : (n : ℕ) → n < length ss → (get_or ss n nowhere).made ≡ suc x → compatible (get_or ss n nowhere).rows K ≡ true
      → Placing b m x K ss n (change (take_in K) n ss)
  fresh : length ss < m.states → items ss + length K ≤ m.items → Placing b m x K ss (length ss) (ss ++ (new b (suc x) K ∷ []))

module _ (b : List ℕ) (m : Limits) (ss : List State) (x : ℕ) (K : List Row) where
  abbrev Placed : ℕ × List State → Type 0
  Placed p = Placing b m x K ss p.0 p.1

  add-cases : Given (add_state b m ss (suc x) K) Placed
  unfolding add_state
  add-cases = go (ltb (length ss) m.states) refl (leb (items ss + length K) m.items) refl
    where
      go : (c : Bool) → ltb (length ss) m.states ≡ c → (d : Bool) → leb (items ss + length K) m.items ≡ d
          → Given (elim c [ false ↦ refused (8 ∷ []) | true ↦ elim d [ false ↦ refused (9 ∷ []) | true ↦ is (length ss, ss ++ (new b (suc x) K ∷ [])) ] ]) Placed
      go false h d k = tt
      go true h false k = tt
      go true h true k = Placing.fresh (ltb-true (length ss) m.states h) (leb-true (items ss + length K) m.items k)

  equal-test : (st : State) → is_equal (suc x) K st ≡ true → (st.made ≡ suc x) × (st.rows ≡ K)
  unfolding is_equal
  equal-test st e = let h = and_both (eqb st.made (suc x)) (same_rows st.rows K) e in (eqb-true st.made (suc x) h.0, rows_is st.rows K h.1)

  weak-test : (st : State) → is_weak (suc x) K st ≡ true → (st.made ≡ suc x) × (compatible st.rows K ≡ true)
  unfolding is_weak
  weak-test st e = let h = and_both (eqb st.made (suc x)) (compatible st.rows K) e in (eqb-true st.made (suc x) h.0, h.1)

  pub place-cases : Given (place_of b m ss x K) Placed
  unfolding place_of
  place-cases =
      go (find (is_equal (suc x) K) 0 ss) (found (is_equal (suc x) K) nowhere 0 ss) (find (is_weak (suc x) K) 0 ss) (found (is_weak (suc x) K) nowhere 0 ss)
    where
      go : (o : Option ℕ) → Found (is_equal (suc x) K) nowhere 0 ss o → (p : Option ℕ) → Found (is_weak (suc x) K) nowhere 0 ss p
          → Given (elim o [ some n ↦ is (n, ss) | none ↦ elim p [ some n ↦ is (n, change (take_in K) n ss) | none ↦ add_state b m ss (suc x) K ] ]) Placed
      go (some n) h p k =
          let f = found-zero (is_equal (suc x) K) nowhere ss n h in
          let t = equal-test (get_or ss n nowhere) f.1 in
          Placing.equal n f.0 t.0 t.1
      go none h (some n) k =
          let f = found-zero (is_weak (suc x) K) nowhere ss n k in
          let t = weak-test (get_or ss n nowhere) f.1 in
          Placing.weak n f.0 t.0 t.1
      go none h none k = add-cases

-- the same with the edge drawn
pub edge-cases {ℓ} : (b : List ℕ) (m : Limits) (n : ℕ) (ss : List State) (x : ℕ) (K : List Row) (Q : List State → Type ℓ)
    → ((t : ℕ) (rr : List State) → Placing b m x K ss t rr → Q (change (edge_to b x t) n rr)) → Given (place_edge b m n ss (x, K)) Q
unfolding place_edge
edge-cases b m n ss x K Q h =
    given-on (λ p. Placing b m x K ss p.0 p.1) Q (λ p. is (change (edge_to b x p.0) n p.1)) (place_of b m ss x K) (place-cases b m ss x K)
    (λ p k. h p.0 p.1 k)

-- ---- a state is closed: P of the symbols that are left and the states
pub close-keeps {ℓ} : (b : List ℕ) (F : List Ahead) (m : Limits) (ss : List State) (n : ℕ) (P : List ℕ → List State → Type ℓ)
    → P (sights_of b (close_of b F (get_or ss n nowhere).rows)) (change mark n ss)
    → ((x : ℕ) (xs : List ℕ) (qq : List State) (t : ℕ) (rr : List State) → Memᴰ x (sights_of b (close_of b F (get_or ss n nowhere).rows)) → P (x ∷ xs) qq
    → Placing b m x (goto_of b (close_of b F (get_or ss n nowhere).rows) x) qq t rr → P xs (change (edge_to b x t) n rr))
    → Given (close_state b F m ss n) (P [])
unfolding close_state gotos_of
close-keeps b F m ss n P h step =
    let C : List Row = close_of b F (get_or ss n nowhere).rows in
    walk-keeps (place_edge b m n) (λ x. (x, goto_of b C x)) P (sights_of b C)
    (λ x xs qq k p. edge-cases b m n qq x (goto_of b C x) (P xs) (λ t rr q. step x xs qq t rr k p q)) (sights_of b C) (λ x k. k) (change mark n ss) h

-- ---- the next state to close
abbrev pub Unclosed : List State → ℕ → Type 0
Unclosed ss n = (n < length ss) × ((get_or ss n nowhere).closed ≡ false)

abbrev pub Next : List State → Option ℕ → Type 0
Next ss (some n) = Unclosed ss n
Next ss none = (n : ℕ) → ¬ Unclosed ss n

pub next-right : (last : ℕ) (ss : List State) → Next ss (next_state last ss)
unfolding next_state
next-right last ss =
    go (find (λ st. not st.closed) (suc last) (drop (suc last) ss)) (found (λ st. not st.closed) nowhere (suc last) (drop (suc last) ss))
    (find (λ st. not st.closed) 0 ss) (found (λ st. not st.closed) nowhere 0 ss)
  where
    go : (o : Option ℕ) → Found (λ st. not st.closed) nowhere (suc last) (drop (suc last) ss) o → (p : Option ℕ)
        → Found (λ st. not st.closed) nowhere 0 ss p → Next ss (elim o [ some n ↦ some n | none ↦ p ])
    go (some n) (j, e, l, t) p k = (
      omega (arith, length-drop (suc last) ss),
      subst (λ i. (get_or ss i nowhere).closed ≡ false) (sym e) (ap (λ st. st.closed) (sym (get_or-drop (suc last) ss j nowhere)) ∙ not-true _ t),
    )
    go none h (some n) k = let f = found-zero (λ st. not st.closed) nowhere ss n k in (f.0, not-true _ f.1)
    go none h none k = λ n u. true≢false (sym (not-false _ (k n u.0)) ∙ u.1)

-- ---- all rounds: P of the states
pub grow-keeps {ℓ} : (b : List ℕ) (F : List Ahead) (m : Limits) (P : List State → Type ℓ)
    → ((ss : List State) (n : ℕ) → Unclosed ss n → P ss → Given (close_state b F m ss n) P)
    → (k last : ℕ) (ss : List State) → P ss → Given (grow b F m k last ss) P
unfolding grow
grow-keeps b F m P step zero last ss h = h
grow-keeps b F m P step (suc k) last ss h = go (next_state last ss) (next-right last ss) (λ n rr r. grow-keeps b F m P step k n rr r)
  where
    go : (o : Option ℕ) → Next ss o → ((n : ℕ) (rr : List State) → P rr → Given (grow b F m k n rr) P)
        → Given (elim o [ none ↦ is ss | some n ↦ elim (close_state b F m ss n) [ is rr ↦ grow b F m k n rr | refused e ↦ refused e ] ]) P
    go none u r = h
    go (some n) u r = given-on P P (λ rr. grow b F m k n rr) (close_state b F m ss n) (step ss n u h) (λ rr q. r n rr q)
