-- The fronts of filled rooms that are lent are the buffers of the case. Assumes nothing.
use mathlib.Core.List.{List}
use mathlib.Core.Path.{◌≡◌, refl, ap, ◌∙◌, subst}
use Prim.Native.Nat.{ℕ, ◌≤◌}
use lib.ListN.{get_or, take, replicate}
use Rattle.pager.specs.Call as graph
use Rattle.statetable.specs.Build.{Buffers, lent_all}
use Rattle.listed_block.specs.Rooms.{ROOM, bounded_of}
use Rattle.listed_block.proofs.Front.{take-replicate}
use Rattle.listed_pager.specs.Work.{lent_of}
use Rattle.listed_pager.specs.declared.work.Work.{Work}
use Rattle.listed_statetable.specs.Builds.{lent_all_for}

-- n words are lent of a room, as many as k says
abbrev Lends : ℕ → ℕ → Type 0
Lends n k = (n ≡ k) × (n ≤ ROOM)

abbrev front : ℕ → ℕ → List ℕ
front n w = take n (replicate ROOM w)

front-is : (n k w : ℕ) → Lends n k → front n w ≡ replicate k w
front-is n k w h = take-replicate n ROOM w h.1 ∙ ap (λ j. replicate j w) h.0

-- the fronts of fourteen rooms
abbrev fronts : (fill items spans edges actions gotos offered shifts cores only rr sr marks closed kernel : ℕ) → Buffers
fronts fill items spans edges actions gotos offered shifts cores only rr sr marks closed kernel =
    lent_all (graph.lent (front items fill) (front spans fill) (front edges fill) (front marks fill) (front closed fill) (front kernel fill))
    (front actions fill) (front gotos fill) (front offered fill) (front shifts fill) (front cores fill) (front only fill) (front rr fill) (front sr fill)

abbrev LendsAt : List ℕ → ℕ → ℕ → Type 0
LendsAt lengths n k = Lends n (bounded_of (get_or lengths k 0))

module _ {v w : Work} (e : v ≡ w) (fill : ℕ) (lengths : List ℕ) {items spans edges actions gotos offered shifts cores only rr sr marks closed kernel : ℕ} where
  pub fronts-are : LendsAt lengths items 0 → LendsAt lengths spans 1 → LendsAt lengths edges 2 → LendsAt lengths actions 3 → LendsAt lengths gotos 4
      → LendsAt lengths offered 5 → LendsAt lengths shifts 6 → LendsAt lengths cores 7 → LendsAt lengths only 8 → LendsAt lengths rr 9 → LendsAt lengths sr 10
      → Lends marks (lent_of v.marks) → Lends closed (lent_of v.closed) → Lends kernel (lent_of v.kernel)
      → fronts fill items spans edges actions gotos offered shifts cores only rr sr marks closed kernel ≡ lent_all_for w fill lengths
  fronts-are h0 h1 h2 h3 h4 h5 h6 h7 h8 h9 h10 hm hc hk =
      subst (λ z. fronts fill items spans edges actions gotos offered shifts cores only rr sr marks closed kernel ≡ lent_all_for z fill lengths) e
      (rw (
        front-is items (bounded_of (get_or lengths 0 0)) fill h0,
        front-is spans (bounded_of (get_or lengths 1 0)) fill h1,
        front-is edges (bounded_of (get_or lengths 2 0)) fill h2,
        front-is actions (bounded_of (get_or lengths 3 0)) fill h3,
        front-is gotos (bounded_of (get_or lengths 4 0)) fill h4,
        front-is offered (bounded_of (get_or lengths 5 0)) fill h5,
        front-is shifts (bounded_of (get_or lengths 6 0)) fill h6,
        front-is cores (bounded_of (get_or lengths 7 0)) fill h7,
        front-is only (bounded_of (get_or lengths 8 0)) fill h8,
        front-is rr (bounded_of (get_or lengths 9 0)) fill h9,
        front-is sr (bounded_of (get_or lengths 10 0)) fill h10,
        front-is marks (lent_of v.marks) fill hm,
        front-is closed (lent_of v.closed) fill hc,
        front-is kernel (lent_of v.kernel) fill hk,
      ) refl)
