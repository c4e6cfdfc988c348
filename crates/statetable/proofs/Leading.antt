-- The events of token edges: one for each edge, each at the token of its place. Assumes nothing.
use mathlib.Core.List.Memᴰ
use mathlib.Core.List.{List, [], ◌∷◌, Memᴰ}
use mathlib.Core.Logic.{⊎_elim}
use mathlib.Core.Path.{◌≡◌, refl, sym, ap, ap₂, subst, ◌∙◌}
use Prim.Native.Nat.{ℕ, zero, suc, ◌+◌, ◌<◌}
use native.Mathlib.Omega.{arith}
use lib.ListN.{length, get_or, drop, length-drop}
use lib.Seq.{get_or-drop}
use Rattle.block.specs.Block.{tokens, rules}
use Rattle.statetable.specs.Events.{Event, leads, of_edges}
use Rattle.statetable.proofs.Pairs.{Pairs}
use Rattle.statetable.proofs.Meeting.{Before}

-- an event of the edges es, the first of them that of token t: the edge j places behind leads to a state
record Edge (t : ℕ) (es : List ℕ) (e : Event) : Type 0 where
  place : ℕ
  to : ℕ
  is : e ≡ leads (t + place) to
  below : place < length es
  word : get_or es place 0 ≡ suc to

edge-later : (t w : ℕ) (es : List ℕ) (e : Event) → Edge (suc t) es e → Edge t (w ∷ es) e
edge-later t w es e E =
    let l = E.below in
    record {
      place = suc E.place;
      to = E.to;
      is = E.is ∙ ap {B = Event} (λ n. leads n E.to) (let z : suc t + E.place ≡ t + suc E.place = omega arith in z);
      below = omega arith;
      word = E.word;
    }

edges-only : (es : List ℕ) (t : ℕ) (e : Event) → Memᴰ e (of_edges t es) → Edge t es e
unfolding of_edges
edges-only [] t e m = absurd (Memᴰ.not-nil m)
edges-only (zero ∷ es) t e m = edge-later t 0 es e (edges-only es (suc t) e m)
edges-only (suc u ∷ es) t e m = ⊎_elim here (λ n. edge-later t (suc u) es e (edges-only es (suc t) e n)) (Memᴰ.cases_cons m)
  where
    here : e ≡ leads t u → Edge t (suc u ∷ es) e
    here k = record { place = 0; to = u; is = k ∙ ap {B = Event} (λ n. leads n u) (let z : t ≡ t + 0 = omega arith in z); below = omega arith; word = refl }

edges-all : (es : List ℕ) (t j u : ℕ) → get_or es j 0 ≡ suc u → Memᴰ (leads (t + j) u) (of_edges t es)
unfolding of_edges
edges-all [] t j u e = absurd (omega arith)
edges-all (zero ∷ es) t zero u e = absurd (omega arith)
edges-all (zero ∷ es) t (suc j) u e =
    subst (λ n. Memᴰ (leads n u) (of_edges (suc t) es)) (let z : suc t + j ≡ t + suc j = omega arith in z) (edges-all es (suc t) j u e)
edges-all (suc v ∷ es) t zero u e =
    Memᴰ.head (ap₂ {C = Event} leads (let z : t + 0 ≡ t = omega arith in z) (let z : u ≡ v = omega arith in z))
edges-all (suc v ∷ es) t (suc j) u e =
    Memᴰ.tail (subst (λ n. Memᴰ (leads n u) (of_edges (suc t) es)) (let z : suc t + j ≡ t + suc j = omega arith in z) (edges-all es (suc t) j u e))

-- each edge has another token
pub edges-pairs : (b es : List ℕ) (t : ℕ) → Pairs (Before b) (of_edges t es)
unfolding of_edges
edges-pairs b [] t = tt
edges-pairs b (zero ∷ es) t = edges-pairs b es (suc t)
edges-pairs b (suc u ∷ es) t = (
  λ y m. let E = edges-only es (suc t) y m in subst (λ z. Before b (leads t u) z) (sym E.is) (λ e. omega arith),
  edges-pairs b es (suc t),
)

-- ---- the token edges of a state
module _ (b es : List ℕ) (w : length es ≡ rules b + tokens b) where
  -- each is an event that leads, along the edge of its token
  pub edge-kind : (e : Event) → Memᴰ e (of_edges 0 (drop (rules b) es)) → (t : ℕ) × (u : ℕ) × (e ≡ leads t u) × (t < tokens b) × (get_or es (rules b + t) 0 ≡ suc u)
  edge-kind e m =
      let E = edges-only (drop (rules b) es) 0 e m in
      let l = E.below in (
        E.place,
        E.to,
        E.is ∙ ap {B = Event} (λ n. leads n E.to) (zero-plus E.place),
        omega (arith, length-drop (rules b) es),
        sym (get_or-drop (rules b) es E.place 0) ∙ E.word,
      )
    where
      zero-plus : (n : ℕ) → 0 + n ≡ n
      zero-plus n = omega arith

  pub edge-event : (t u : ℕ) → get_or es (rules b + t) 0 ≡ suc u → Memᴰ (leads t u) (of_edges 0 (drop (rules b) es))
  edge-event t u e =
      subst (λ n. Memᴰ (leads n u) (of_edges 0 (drop (rules b) es))) (let z : 0 + t ≡ t = omega arith in z)
      (edges-all (drop (rules b) es) 0 t u (get_or-drop (rules b) es t 0 ∙ e))
