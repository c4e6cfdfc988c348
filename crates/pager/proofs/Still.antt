-- What placing a kernel leaves as it was: edges, and the rows of a state that stays closed; and where the kernel then stands. Assumes nothing.
use mathlib.Core.Bool.{true, false}
use mathlib.Core.List.{List, [], ◌∷◌, ◌++◌}
use mathlib.Core.Path.{◌≡◌, refl, sym, ap, ◌∙◌, subst}
use Prim.Native.Nat.{ℕ, suc, ◌+◌, ◌*◌, ◌≤◌, ◌<◌}
use native.Mathlib.Omega.{arith}
use lib.ListN.{length, get_or, get_or-append}
use lib.Seq.{get_or-append_seam}
use Rattle.knuth.specs.Kernel.{◌⊑◌, ◌⊆◌}
use Rattle.block.specs.Limits.{DOTS}
use Rattle.block.specs.Block.{tokens, rules}
use Rattle.block.proofs.ListLaws.{and_both, change-at, change-size, get_d-same}
use Rattle.itemset.specs.Rows.{Row, same_rows, Rows}
use Rattle.itemset.specs.Kernel.{kernel_of}
use Rattle.itemset.proofs.Fuel.{rows_is}
use Rattle.pager.specs.Weak.{union}
use Rattle.pager.specs.Place.{State, Limits, new, take_in}
use Rattle.pager.specs.Graph.{nowhere}
use Rattle.pager.specs.Growing.{Growing}
use Rattle.pager.proofs.Both.{items-present, items-swap}
use Rattle.pager.proofs.Union.{union-present, present-union, token-union-right}
use Rattle.pager.proofs.Weak.{weak-items}
use Rattle.pager.proofs.Places.{Placing}
use Rattle.pager.proofs.Grown.{change-get, snoc-length}

-- ---- a state st that has become rt, while another kernel was placed
pub record Still (st rt : State) : Type 0 where
  pub edges : rt.edges ≡ st.edges
  pub rows : rt.closed ≡ true → rt.rows ≡ st.rows
  pub closed : rt.closed ≡ true → st.closed ≡ true

still-refl : (st : State) → Still st st
still-refl st = record { edges = refl; rows = λ e. refl; closed = λ e. e }

take-still : (K : List Row) (st : State) → Still st (take_in K st)
unfolding take_in
take-still K st =
    record {
      edges = refl;
      rows = λ e. rows_is (union st.rows K) st.rows (and_both st.closed (same_rows (union st.rows K) st.rows) e).1;
      closed = λ e. (and_both st.closed (same_rows (union st.rows K) st.rows) e).0;
    }

module _ (b : List ℕ) (m : Limits) (x : ℕ) (K : List Row) (ss : List State) where
  pub place_still : (t : ℕ) (rr : List State) → Placing b m x K ss t rr → (r : ℕ) → r < length ss → Still (get_or ss r nowhere) (get_or rr r nowhere)
  place_still t rr (Placing.equal n l e c) r k = still-refl (get_or ss r nowhere)
  place_still t rr (Placing.weak n l e c) r k =
      change-get (λ st. Still (get_or ss r nowhere) st) (take_in K) n ss r l
      (λ e. subst (λ i. Still (get_or ss i nowhere) (take_in K (get_or ss n nowhere))) (sym e) (take-still K (get_or ss n nowhere))) (λ d. still-refl (get_or ss r nowhere))
  place_still t rr (Placing.fresh l e) r k =
      subst (λ st. Still (get_or ss r nowhere) st) (sym (get_or-append ss (new b (suc x) K ∷ []) nowhere r k)) (still-refl (get_or ss r nowhere))

  -- a state more has no edge, and is not closed
  pub place-new : (t : ℕ) (rr : List State) → Placing b m x K ss t rr → (r : ℕ) → length ss ≤ r → r < length rr
      → ((get_or rr r nowhere).closed ≡ false) × ((i : ℕ) → get_or (get_or rr r nowhere).edges i 0 ≡ 0)
  unfolding new
  place-new t rr (Placing.equal n l e c) r k h = absurd (omega arith)
  place-new t rr (Placing.weak n l e c) r k h = absurd (omega (arith, change-size (take_in K) n ss))
  place-new t rr (Placing.fresh l e) r k h =
      let z : r ≡ length ss = omega (arith, snoc-length ss (new b (suc x) K)) in
      let q : get_or (ss ++ (new b (suc x) K ∷ [])) r nowhere ≡ new b (suc x) K =
      ap (λ i. get_or (ss ++ (new b (suc x) K ∷ [])) i nowhere) z ∙ get_or-append_seam ss (new b (suc x) K) [] nowhere in
      subst (λ st. (st.closed ≡ false) × ((i : ℕ) → get_or st.edges i 0 ≡ 0)) (sym q) (refl, λ i. get_d-same {A = ℕ} (rules b + tokens b) i 0)

  -- ---- the kernel is contained in the state that it came to, with the same items
  abbrev pub Inside : State → Type 0
  Inside st = (kernel_of K ⊑ kernel_of st.rows) × (kernel_of st.rows ⊆ kernel_of K)

  inside-refl : (st : State) → st.rows ≡ K → Inside st
  inside-refl st e =
      subst (λ rs. (kernel_of K ⊑ kernel_of rs) × (kernel_of rs ⊆ kernel_of K)) (sym e) (record { items = λ p d h. h; tokens = λ p d t h. h }, λ p d h. h)

  pub place_inside : (t : ℕ) (rr : List State) → Growing b m ss → Rows b K → Placing b m x K ss t rr → Inside (get_or rr t nowhere)
  unfolding take_in new
  place_inside t rr G R (Placing.equal n l e c) = inside-refl (get_or ss n nowhere) c
  place_inside t rr G R (Placing.weak n l e c) =
      let rs : List Row = (get_or ss n nowhere).rows in
      let S = weak-items b rs K (G.state n l).rows R c in
      let T = items-swap rs K S in
      subst Inside (sym (change-at (take_in K) nowhere n ss l)) (
        record {
          items = λ p d h. (h.0, present-union (DOTS * p + d) rs K (items-present (DOTS * p + d) K rs T h.1));
          tokens = λ p d t h. (h.0, token-union-right (DOTS * p + d) t rs K S h.1);
        },
        λ p d h. (h.0, items-present (DOTS * p + d) rs K S (union-present (DOTS * p + d) rs K h.1)),
      )
  place_inside t rr G R (Placing.fresh l e) =
      subst Inside (sym (get_or-append_seam ss (new b (suc x) K) [] nowhere)) (inside-refl (new b (suc x) K) refl)
