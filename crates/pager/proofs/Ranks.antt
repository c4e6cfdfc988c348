-- Rule 7 is proved: the marked states are kept in order, each at its rank. Assumes nothing.
use mathlib.Core.Bool.{Bool, true, false, true≢false}
use mathlib.Core.List.{List, [], ◌∷◌, map}
use mathlib.Core.Path.{◌≡◌, refl, sym, ap, ◌∙◌, subst}
use Prim.Native.Nat.{ℕ, zero, suc, ◌≤◌, ◌<◌}
use native.Mathlib.Omega.{arith}
use lib.ListN.{length, get_or}
use Rattle.pager.specs.Place.{State, items}
use Rattle.pager.specs.Graph.{nowhere}
use Rattle.pager.specs.Collect.{reach_of, rank, renumber, kept, collect_of}
use Rattle.pager.specs.Rule7.{Reachable, Edges, Rule7, number, moved}
use Rattle.pager.proofs.Reach.{reach-iff}

-- ---- ranks
pub rank-zero : (ms : List Bool) → rank ms 0 ≡ 0
unfolding rank
rank-zero [] = refl
rank-zero (m ∷ ms) = refl

rank-le : (ms : List Bool) (m n : ℕ) → m ≤ n → rank ms m ≤ rank ms n
unfolding rank
rank-le [] m n l = omega arith
rank-le (q ∷ ms) zero n l = omega arith
rank-le (q ∷ ms) (suc m) zero l = absurd (omega arith)
rank-le (true ∷ ms) (suc m) (suc n) l = let h = rank-le ms m n (omega arith) in omega arith
rank-le (false ∷ ms) (suc m) (suc n) l = rank-le ms m n (omega arith)

pub rank-ascends : (ms : List Bool) (m n : ℕ) → get_or ms m false ≡ true → m < n → rank ms m < rank ms n
unfolding rank
rank-ascends [] m n e l = absurd (true≢false (sym e))
rank-ascends (q ∷ ms) m zero e l = absurd (omega arith)
rank-ascends (true ∷ ms) zero (suc n) e l = omega arith
rank-ascends (false ∷ ms) zero (suc n) e l = absurd (true≢false (sym e))
rank-ascends (true ∷ ms) (suc m) (suc n) e l = let h = rank-ascends ms m n e (omega arith) in omega arith
rank-ascends (false ∷ ms) (suc m) (suc n) e l = rank-ascends ms m n e (omega arith)

-- ---- a renumbered word
pub renumber-zero : (ss : List State) → renumber (reach_of ss) 0 ≡ 0
unfolding renumber
renumber-zero ss = refl

pub renumber-suc : (ss : List State) (w t : ℕ) → w ≡ suc t → renumber (reach_of ss) w ≡ suc (number ss t)
unfolding renumber
renumber-suc ss zero t e = absurd (omega arith)
renumber-suc ss (suc u) t e = ap (λ i. suc (number ss i)) (let z : u ≡ t = omega arith in z)

pub suc-renumber : (ss : List State) (w k : ℕ) → renumber (reach_of ss) w ≡ suc k → (t : ℕ) × (w ≡ suc t) × (k ≡ number ss t)
unfolding renumber
suc-renumber ss zero k e = absurd (omega arith)
suc-renumber ss (suc t) k e = (t, refl, omega arith)

pub map_at : (f : ℕ → ℕ) → f 0 ≡ 0 → (ws : List ℕ) (i : ℕ) → get_or (map f ws) i 0 ≡ f (get_or ws i 0)
map_at f z [] i = sym z
map_at f z (w ∷ ws) zero = refl
map_at f z (w ∷ ws) (suc i) = map_at f z ws i

-- ---- what is kept
module _ (marks : List Bool) where
  abbrev pub renumbered : State → State
  renumbered st = record { made = st.made; rows = st.rows; edges = map (renumber marks) st.edges; closed = true }

  kept-below : (ms : List Bool) (ss : List State) (n : ℕ) → n < length ss → get_or ms n false ≡ true → rank ms n < length (kept marks ms ss)
  unfolding kept rank
  kept-below [] ss n l e = absurd (true≢false (sym e))
  kept-below (m ∷ ms) [] n l e = absurd (omega arith)
  kept-below (true ∷ ms) (st ∷ ss) zero l e = omega arith
  kept-below (false ∷ ms) (st ∷ ss) zero l e = absurd (true≢false (sym e))
  kept-below (true ∷ ms) (st ∷ ss) (suc n) l e = let h = kept-below ms ss n (omega arith) e in omega arith
  kept-below (false ∷ ms) (st ∷ ss) (suc n) l e = kept-below ms ss n (omega arith) e

  kept_at : (ms : List Bool) (ss : List State) (n : ℕ) → n < length ss → get_or ms n false ≡ true
      → get_or (kept marks ms ss) (rank ms n) nowhere ≡ renumbered (get_or ss n nowhere)
  unfolding kept rank
  kept_at [] ss n l e = absurd (true≢false (sym e))
  kept_at (m ∷ ms) [] n l e = absurd (omega arith)
  kept_at (true ∷ ms) (st ∷ ss) zero l e = refl
  kept_at (false ∷ ms) (st ∷ ss) zero l e = absurd (true≢false (sym e))
  kept_at (true ∷ ms) (st ∷ ss) (suc n) l e = kept_at ms ss n (omega arith) e
  kept_at (false ∷ ms) (st ∷ ss) (suc n) l e = kept_at ms ss n (omega arith) e

  kept_from : (ms : List Bool) (ss : List State) (k : ℕ) → k < length (kept marks ms ss) → (n : ℕ) × (get_or ms n false ≡ true) × (rank ms n ≡ k)
  unfolding kept rank
  kept_from [] ss k l = absurd (omega arith)
  kept_from (m ∷ ms) [] k l = absurd (omega arith)
  kept_from (true ∷ ms) (st ∷ ss) zero l = (0, refl, refl)
  kept_from (true ∷ ms) (st ∷ ss) (suc k) l = let r = kept_from ms ss k (omega arith) in (suc r.0, r.1, ap suc r.2)
  kept_from (false ∷ ms) (st ∷ ss) k l = let r = kept_from ms ss k l in (suc r.0, r.1, r.2)

  pub kept-few : (ms : List Bool) (ss : List State) → length (kept marks ms ss) ≤ length ss
  unfolding kept
  kept-few [] ss = omega arith
  kept-few (m ∷ ms) [] = omega arith
  kept-few (true ∷ ms) (st ∷ ss) = let h = kept-few ms ss in omega arith
  kept-few (false ∷ ms) (st ∷ ss) = let h = kept-few ms ss in omega arith

  pub kept-fit : (ms : List Bool) (ss : List State) → items (kept marks ms ss) ≤ items ss
  unfolding kept items
  kept-fit [] ss = omega arith
  kept-fit (m ∷ ms) [] = omega arith
  kept-fit (true ∷ ms) (st ∷ ss) = let h = kept-fit ms ss in omega arith
  kept-fit (false ∷ ms) (st ∷ ss) = let h = kept-fit ms ss in omega arith

module _ (ss : List State) (E : Edges ss) where
  pub reachable-below : {n : ℕ} → Reachable ss n → n < length ss
  reachable-below Reachable.start = E.some
  reachable-below (Reachable.step {n} {t} i r e) = let h = E.low n i in omega arith

  -- a kept state at its number, and its edges
  pub kept-state : (n : ℕ) → Reachable ss n → get_or (collect_of ss) (number ss n) nowhere ≡ moved ss (get_or ss n nowhere)
  unfolding collect_of
  kept-state n r = kept_at (reach_of ss) (reach_of ss) ss n (reachable-below r) ((reach-iff ss E n).1 r)

  pub kept-edge : (n : ℕ) → Reachable ss n → (i : ℕ)
      → get_or (get_or (collect_of ss) (number ss n) nowhere).edges i 0 ≡ renumber (reach_of ss) (get_or (get_or ss n nowhere).edges i 0)
  kept-edge n r i = ap (λ st. get_or st.edges i 0) (kept-state n r) ∙ map_at (renumber (reach_of ss)) (renumber-zero ss) (get_or ss n nowhere).edges i

  -- a way to a state is a way to its number
  kept-way : {n : ℕ} → Reachable ss n → Reachable (collect_of ss) (number ss n)
  kept-way Reachable.start = subst (λ k. Reachable (collect_of ss) k) (sym (rank-zero (reach_of ss))) Reachable.start
  kept-way (Reachable.step {n} {t} i r e) = Reachable.step i (kept-way r) (kept-edge n r i ∙ renumber-suc ss (get_or (get_or ss n nowhere).edges i 0) t e)

  pub rule-7 : Rule7 ss
  unfolding collect_of
  rule-7 =
      let ms : List Bool = reach_of ss in
      record {
        marks = reach-iff ss E;
        below = λ n r. kept-below ms ms ss n (reachable-below r) ((reach-iff ss E n).1 r);
        there = kept-state;
        first = rank-zero ms;
        ascend = λ m n r l. rank-ascends ms m n ((reach-iff ss E m).1 r) l;
        only = λ k l. let h = kept_from ms ms ss k l in (h.0, (reach-iff ss E h.0).0 h.1, h.2);
        edge = λ n i t r e. kept-edge n r i ∙ renumber-suc ss (get_or (get_or ss n nowhere).edges i 0) t e;
        none = λ n i r e. kept-edge n r i ∙ ap (renumber (reach_of ss)) e ∙ renumber-zero ss;
        reached = λ k l.
            let h = kept_from ms ms ss k l in
            subst (λ k. Reachable (collect_of ss) k) h.2 (kept-way ((reach-iff ss E h.0).0 h.1));
        few = kept-few ms ms ss;
        fit = kept-fit ms ms ss;
      }
