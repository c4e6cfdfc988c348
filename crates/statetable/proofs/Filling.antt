-- The events of one state, one by one: a filling that tells nothing new leaves in each cell the action of the event that came to it; and where no two
-- events at a token have different actions, nothing is told. Assumes nothing.
use mathlib.Core.List.Memᴰ
use mathlib.Core.List.{List, [], ◌∷◌, Memᴰ}
use mathlib.Core.Logic.{◌⊎◌, inl, inr, ◌≢◌, ⊎_elim}
use mathlib.Core.Path.{◌≡◌, refl, sym, ap, subst, ◌∙◌}
use Prim.Native.Nat.{ℕ, ◌<◌, ◌≤◌}
use native.Mathlib.Decide.{ℕ_discrete}
use native.Mathlib.Omega.{arith}
use lib.ListN.{length, get_or, set, length-set, length-replicate, replicate}
use lib.Seq.{get_or-set_same, get_or-set_other}
use Rattle.knuth.specs.Tables.{Action}
use Rattle.block.specs.Block.{tokens}
use Rattle.block.specs.First.{Ahead}
use Rattle.block.proofs.ListLaws.{get_d-same}
use Rattle.pager.specs.Lists.{Answer, is, refused, walk}
use Rattle.pager.specs.Place.{State}
use Rattle.pager.specs.Given.{Given}
use Rattle.pager.proofs.Walks.{given-map, given-on}
use Rattle.statetable.specs.Cell.{decode, encode}
use Rattle.statetable.specs.Events.{Event, events_of}
use Rattle.statetable.specs.Cells.{Told, Fill, write, offer, fill, fresh, fill_state}
use Rattle.statetable.specs.declared.records.Caps.{Caps}
use Rattle.statetable.proofs.Cells.{decode-encode}
use Rattle.statetable.proofs.Pairs.{Pairs}
use Rattle.statetable.proofs.Meeting.{at, act, Before, act-some, act-differ, mass, Louder, AtLeast, fill-empty, fill-loud, fill_more}

-- the cells hold what the events D call for, and nothing else
pub record Wrote (b cells : List ℕ) (D : Event → Type 0) : Type 0 where
  pub size : length cells ≡ tokens b
  pub written : (e : Event) → D e → decode (get_or cells (at e) 0) ≡ act b e
  pub only : (t : ℕ) → (decode (get_or cells t 0) ≡ Action.error) ⊎ ((e : Event) × D e × (at e ≡ t))

-- D and one event more
abbrev More : Event → (Event → Type 0) → Event → Type 0
More e D x = (x ≡ e) ⊎ D x

wrote_map : {b cells : List ℕ} {D E : Event → Type 0} → ((e : Event) → D e → E e) → ((e : Event) → E e → D e) → Wrote b cells D → Wrote b cells E
wrote_map f g W =
    record {
      size = W.size;
      written = λ e d. W.written e (g e d);
      only = λ t. ⊎_elim (λ h. inl h) (λ h. inr (h.0, f h.0 h.1, h.2)) (W.only t);
    }

-- an event is written into an empty cell
wrote-more : (b cells : List ℕ) (D : Event → Type 0) (e : Event) → Wrote b cells D → at e < tokens b → decode (get_or cells (at e) 0) ≡ Action.error
    → Wrote b (set cells (at e) (encode (act b e))) (More e D)
wrote-more b cells D e W l h =
    record {
      size = length-set cells (at e) (encode (act b e)) ∙ W.size;
      written = written;
      only = λ t. only t (ℕ_discrete t (at e));
    }
  where
    here : decode (get_or (set cells (at e) (encode (act b e))) (at e) 0) ≡ act b e
    here = ap decode (get_or-set_same cells (at e) (encode (act b e)) 0 (omega (arith, W.size))) ∙ decode-encode (act b e)

    there : (t : ℕ) → t ≢ at e → decode (get_or (set cells (at e) (encode (act b e))) t 0) ≡ decode (get_or cells t 0)
    there t n = ap decode (get_or-set_other cells (at e) t (encode (act b e)) 0 n)

    apart : (x : Event) → D x → at x ≢ at e
    apart x d k = act-some b x (sym (W.written x d) ∙ ap (λ (t : ℕ). decode (get_or cells t 0)) k ∙ h)

    written : (x : Event) → More e D x → decode (get_or (set cells (at e) (encode (act b e))) (at x) 0) ≡ act b x
    written x (inl k) = subst (λ y. decode (get_or (set cells (at e) (encode (act b e))) (at y) 0) ≡ act b y) (sym k) here
    written x (inr d) = there (at x) (apart x d) ∙ W.written x d

    only : (t : ℕ) → Dec (t ≡ at e)
        → (decode (get_or (set cells (at e) (encode (act b e))) t 0) ≡ Action.error) ⊎ ((x : Event) × More e D x × (at x ≡ t))
    only t (yes k) = inr (e, inl refl, sym k)
    only t (no n) = ⊎_elim (λ k. inl (there t n ∙ k)) (λ k. inr (k.0, inr k.1, k.2)) (W.only t)

-- ---- what is asked of the events es that are left after the events D: each at a token, and in order
pub record Orderly (b : List ℕ) (D : Event → Type 0) (es : List Event) : Type 0 where
  pub low : (e : Event) → Memᴰ e es → at e < tokens b
  pub pairs : Pairs (Before b) es
  pub cross : (x e : Event) → D x → Memᴰ e es → Before b x e

orderly-next : (b : List ℕ) (D : Event → Type 0) (e : Event) (es : List Event) → Orderly b D (e ∷ es) → Orderly b (More e D) es
orderly-next b D e es O =
    record { low = λ x m. O.low x (Memᴰ.tail m); pairs = O.pairs.1; cross = cross }
  where
    cross : (x y : Event) → More e D x → Memᴰ y es → Before b x y
    cross x y (inl k) m = subst (λ z. Before b z y) (sym k) (O.pairs.0 y m)
    cross x y (inr d) m = O.cross x y d (Memᴰ.tail m)

-- D and the events of a list
abbrev With : (Event → Type 0) → List Event → Event → Type 0
With D es x = D x ⊎ Memᴰ x es

with-next : (D : Event → Type 0) (e : Event) (es : List Event) (x : Event) → With (More e D) es x → With D (e ∷ es) x
with-next D e es x (inl (inl k)) = inr (Memᴰ.head k)
with-next D e es x (inl (inr d)) = inl d
with-next D e es x (inr m) = inr (Memᴰ.tail m)

with-back : (D : Event → Type 0) (e : Event) (es : List Event) (x : Event) → With D (e ∷ es) x → With (More e D) es x
with-back D e es x (inl d) = inl (inr d)
with-back D e es x (inr m) = ⊎_elim (λ k. inl (inl k)) (λ n. inr n) (Memᴰ.cases_cons m)

module _ (b : List ℕ) (m : Caps) (s : ℕ) where
  -- ---- what is told only grows
  walk_more : (es : List Event) (f : Fill) → Given (walk (fill b m s) f es) (AtLeast f.told)
  unfolding walk
  walk_more [] f = omega arith
  walk_more (e ∷ es) f =
      given-on (AtLeast f.told) (AtLeast f.told) (λ g. walk (fill b m s) g es) (fill b m s f e) (fill_more b m s f e)
      (λ g l. given-map (AtLeast g.told) (AtLeast f.told) (λ h k. omega arith) (walk (fill b m s) g es) (walk_more es g))

  -- ---- where nothing new is told, the cells hold what the events call for
  abbrev Silently : Fill → (Event → Type 0) → Fill → Type 0
  Silently f D g = mass g.told ≤ mass f.told → Wrote b g.cells D

  walk-writes : (es : List Event) (D : Event → Type 0) (f : Fill) → Orderly b D es → Wrote b f.cells D
      → Given (walk (fill b m s) f es) (Silently f (With D es))
  unfolding walk
  walk-writes [] D f O W = λ l. wrote_map (λ e d. inl d) (λ e d. elim d [ inl d ↦ d | inr n ↦ elim n [ ] ]) W
  walk-writes (e ∷ es) D f O W = go (W.only (at e)) (λ g k. walk-writes es (More e D) g (orderly-next b D e es O) k)
    where
      go : (decode (get_or f.cells (at e) 0) ≡ Action.error) ⊎ ((x : Event) × D x × (at x ≡ at e))
          → ((g : Fill) → Wrote b g.cells (More e D) → Given (walk (fill b m s) g es) (Silently g (With (More e D) es)))
          → Given (walk (fill b m s) f (e ∷ es)) (Silently f (With D (e ∷ es)))
      go (inl h) r =
          let g = write (at e) (encode (act b e)) (offer (at e) f) in
          subst (λ (a : Answer Fill). Given (elim a [ is c ↦ walk (fill b m s) c es | refused n ↦ refused n ]) (Silently f (With D (e ∷ es))))
          (sym (fill-empty b m s f e h))
          (given-map (Silently g (With (More e D) es)) (Silently f (With D (e ∷ es))) (λ c k l. wrote_map (with-next D e es) (with-back D e es) (k l))
          (walk (fill b m s) g es) (r g (wrote-more b f.cells D e W (O.low e (Memᴰ.head refl)) h)))
      go (inr (x, d, k)) r =
          given-on (Louder f.told) (Silently f (With D (e ∷ es))) (λ g. walk (fill b m s) g es) (fill b m s f e)
          (fill-loud b m s f x e (O.cross x e d (Memᴰ.head refl)) k (ap (λ (t : ℕ). decode (get_or f.cells t 0)) (sym k) ∙ W.written x d))
          (λ g l. given-map (AtLeast g.told) (Silently f (With D (e ∷ es))) (λ h n o. absurd (omega arith)) (walk (fill b m s) g es) (walk_more es g))

  -- ---- where events at one token have one action, nothing new is told
  abbrev Alike : (Event → Type 0) → Type 0
  Alike D = (x e : Event) → D x → D e → at x ≡ at e → act b x ≡ act b e

  walk-silent : (es : List Event) (D : Event → Type 0) (f : Fill) → Orderly b D es → Wrote b f.cells D → Alike (With D es)
      → (g : Fill) × (walk (fill b m s) f es ≡ is g) × (g.told ≡ f.told)
  unfolding walk
  walk-silent [] D f O W A = (f, refl, refl)
  walk-silent (e ∷ es) D f O W A =
      go (W.only (at e)) (λ g k. walk-silent es (More e D) g (orderly-next b D e es O) k (λ x y c d. A x y (with-next D e es x c) (with-next D e es y d)))
    where
      go : (decode (get_or f.cells (at e) 0) ≡ Action.error) ⊎ ((x : Event) × D x × (at x ≡ at e))
          → ((g : Fill) → Wrote b g.cells (More e D) → (h : Fill) × (walk (fill b m s) g es ≡ is h) × (h.told ≡ g.told))
          → (h : Fill) × (walk (fill b m s) f (e ∷ es) ≡ is h) × (h.told ≡ f.told)
      go (inl h) r =
          let g = write (at e) (encode (act b e)) (offer (at e) f) in
          let (c, k, t) = r g (wrote-more b f.cells D e W (O.low e (Memᴰ.head refl)) h) in
          (c, ap (λ (a : Answer Fill). elim a [ is c ↦ walk (fill b m s) c es | refused n ↦ refused n ]) (fill-empty b m s f e h) ∙ k, t)
      go (inr (x, d, k)) r =
          absurd (act-differ b x e (O.cross x e d (Memᴰ.head refl)) k (A x e (inl d) (inr (Memᴰ.head refl)) k))

-- ---- a state, from empty cells
abbrev None : Event → Type 0
None e = ⊥

wrote_none : (b : List ℕ) → Wrote b (replicate (tokens b) 0) None
unfolding decode
wrote_none b =
    record {
      size = length-replicate {A = ℕ} (tokens b) 0;
      written = λ e d. absurd d;
      only = λ t. inl (ap decode (get_d-same {A = ℕ} (tokens b) t 0));
    }

-- what is asked of the events of a state
pub record Fair (b : List ℕ) (es : List Event) : Type 0 where
  pub low : (e : Event) → Memᴰ e es → at e < tokens b
  pub pairs : Pairs (Before b) es

-- the cells hold what the events of the state call for
abbrev pub RowOf : List ℕ → List Ahead → State → List ℕ → Type 0
RowOf b F st cells = Wrote b cells (λ e. Memᴰ e (events_of b F st))

module _ (b : List ℕ) (F : List Ahead) (m : Caps) (s : ℕ) (k : Told) (st : State) (O : Fair b (events_of b F st)) where
  abbrev Here : Event → Type 0
  Here e = Memᴰ e (events_of b F st)

  orderly : Orderly b None (events_of b F st)
  orderly = record { low = O.low; pairs = O.pairs; cross = λ x e d. absurd d }

  pub state-more : Given (fill_state b F m s k st) (AtLeast k)
  unfolding fill_state
  state-more = walk_more b m s (events_of b F st) (fresh b k)

  pub state-writes : Given (fill_state b F m s k st) (λ g. mass g.told ≤ mass k → RowOf b F st g.cells)
  unfolding fill_state
  state-writes =
      given-map (Silently b m s (fresh b k) (With None (events_of b F st))) (λ g. mass g.told ≤ mass k → RowOf b F st g.cells)
      (λ g h l. wrote_map (λ e d. elim d [ inl n ↦ absurd n | inr d ↦ d ]) (λ e d. inr d) (h l)) (fill_state b F m s k st)
      (walk-writes b m s (events_of b F st) None (fresh b k) orderly (wrote_none b))

  pub state-silent : ((x e : Event) → Here x → Here e → at x ≡ at e → act b x ≡ act b e)
      → (g : Fill) × (fill_state b F m s k st ≡ is g) × (g.told ≡ k)
  unfolding fill_state
  state-silent A =
      walk-silent b m s (events_of b F st) None (fresh b k) orderly (wrote_none b)
      (λ x e c d. A x e (elim c [ inl n ↦ absurd n | inr c ↦ c ]) (elim d [ inl n ↦ absurd n | inr d ↦ d ]))
