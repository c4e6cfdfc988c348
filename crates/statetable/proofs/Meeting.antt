-- An event comes to a cell that another has written: it is recorded, counted or refused, so that more is told. Assumes nothing.
use mathlib.Core.Bool.{Bool, true, false, ◌&&◌, ◌||◌, cond}
use mathlib.Core.List.{List, [], ◌∷◌}
use mathlib.Core.Logic.{◌≢◌}
use mathlib.Core.Path.{◌≡◌, refl, sym, ap, subst, ◌∙◌}
use Prim.Native.Nat.{ℕ, ◌+◌, ◌/◌, ◌%◌, ◌<◌, ◌≤◌}
use native.Mathlib.Omega.{arith}
use lib.Dec.{ltb, eqb}
use lib.ListN.{length, get_or, length-append}
use borrow.Author.Tests.{eqb-true}
use Rattle.knuth.specs.Tables.{Action}
use Rattle.block.specs.Block.{end_token_of, start_prod, token_prec}
use Rattle.block.proofs.ListLaws.{and_both}
use Rattle.pager.specs.Lists.{Answer, is, refused}
use Rattle.pager.specs.Given.{Given}
use Rattle.pager.proofs.Walks.{given-map}
use Rattle.statetable.specs.Cell.{decode, encode}
use Rattle.statetable.specs.Events.{Event, completes, leads}
use Rattle.statetable.specs.Verdict.{Verdict, writes, two-reduces, unsettled, settled, stops, precedence_of, on_reduce, by_kind, resolve, on_shift}
use Rattle.statetable.specs.Cells.{ReduceReduce, ShiftReduce, Told, Fill, write, offer, settle, fill}
use Rattle.statetable.specs.declared.records.Caps.{Caps}

-- ---- events: the token, whether the start production is complete at the end token, and the action called for
abbrev pub at : Event → ℕ
at (completes t p) = t
at (leads t u) = t

abbrev pub ends : List ℕ → ℕ → ℕ → Bool
ends b t p = eqb p (start_prod b) && eqb t (end_token_of b)

abbrev pub act : List ℕ → Event → Action
act b (completes t p) = cond (ends b t p) Action.accept (Action.reduce p)
act b (leads t u) = Action.shift u

-- How an event may stand before another at the same token: two productions differ; no edge is at the end token, nor two at one; complete items
-- come before edges.
abbrev pub Before : List ℕ → Event → Event → Type 0
Before b (completes t p) (completes u q) = t ≡ u → p ≢ q
Before b (completes t p) (leads u v) = t ≡ u → t ≢ end_token_of b
Before b (leads t v) (completes u q) = ⊥
Before b (leads t v) (leads u w) = t ≢ u

-- ---- an event's action is none, and two such events have different ones
reduces-some : (c : Bool) (p : ℕ) → cond c Action.accept (Action.reduce p) ≢ Action.error
reduces-some true p e = let z : ◌≡◌ {A = ℕ} 0 1 = cc in omega arith
reduces-some false p e = let z : ◌≡◌ {A = ℕ} 0 1 = cc in omega arith

pub act-some : (b : List ℕ) (e : Event) → act b e ≢ Action.error
act-some b (completes t p) e = reduces-some (ends b t p) p e
act-some b (leads t u) e = let z : ◌≡◌ {A = ℕ} 0 1 = cc in omega arith

reduces-shifts : (c : Bool) (p v : ℕ) → cond c Action.accept (Action.reduce p) ≢ Action.shift v
reduces-shifts true p v e = let z : ◌≡◌ {A = ℕ} 0 1 = cc in omega arith
reduces-shifts false p v e = let z : ◌≡◌ {A = ℕ} 0 1 = cc in omega arith

reduces-same : (b : List ℕ) (t u p q : ℕ) (c d : Bool) → ends b t p ≡ c → ends b u q ≡ d
    → cond c Action.accept (Action.reduce p) ≡ cond d Action.accept (Action.reduce q) → p ≡ q
reduces-same b t u p q true true h k e =
    eqb-true p (start_prod b) (and_both (eqb p (start_prod b)) (eqb t (end_token_of b)) h).0
    ∙ sym (eqb-true q (start_prod b) (and_both (eqb q (start_prod b)) (eqb u (end_token_of b)) k).0)
reduces-same b t u p q true false h k e = cc
reduces-same b t u p q false true h k e = cc
reduces-same b t u p q false false h k e = cc

pub act-differ : (b : List ℕ) (x e : Event) → Before b x e → at x ≡ at e → act b x ≢ act b e
act-differ b (completes t p) (completes u q) h s e = h s (reduces-same b t u p q (ends b t p) (ends b u q) refl refl e)
act-differ b (completes t p) (leads u v) h s e = reduces-shifts (ends b t p) p v e
act-differ b (leads t v) (completes u q) h s e = h
act-differ b (leads t v) (leads u w) h s e = h s

-- ---- verdicts that tell something
abbrev pub Loud : Verdict → Type 0
Loud (writes w) = ⊥
Loud (two-reduces w a o) = Unit {0}
Loud (unsettled w p) = Unit {0}
Loud (settled w) = Unit {0}
Loud (stops values) = Unit {0}

abbrev pub verdict : List ℕ → ℕ → Event → Action → Verdict
verdict b s (completes t p) a = on_reduce (ends b t p) p a
verdict b s (leads t u) a = on_shift b s t u a

-- either way of a choice
either-loud : (c : Bool) (v w : Verdict) → Loud v → Loud w → Loud (cond c v w)
either-loud true v w h k = h
either-loud false v w h k = k

resolve-loud : (tp pp : ℕ) (sh re : Action) (mixed : List ℕ) → Loud (resolve tp pp sh re mixed)
unfolding resolve
resolve-loud tp pp sh re mixed =
    either-loud (ltb (tp / 4) (pp / 4)) _ _ tt
    (either-loud (ltb (pp / 4) (tp / 4)) _ _ tt
    (either-loud (eqb tp pp) (settled (encode (by_kind (tp % 4) sh re))) (stops mixed) tt tt))

-- a shift meets a reduce
shift-loud : (b : List ℕ) (s t u p : ℕ) → Loud (on_shift b s t u (Action.reduce p))
shift-loud b s t u p =
    either-loud (eqb (token_prec b t) 0 || eqb (precedence_of b p) 0) (unsettled (encode (Action.shift u)) p) _ tt
    (resolve-loud (token_prec b t) (precedence_of b p) (Action.shift u) (Action.reduce p) (12 ∷ t ∷ p ∷ s ∷ []))

-- an event meets what an event before it has written
pub meet-loud : (b : List ℕ) (s : ℕ) (x e : Event) → Before b x e → at x ≡ at e → Loud (verdict b s e (act b x))
meet-loud b s (completes t p) (completes u q) h k = go (ends b t p)
  where
    go : (c : Bool) → Loud (on_reduce (ends b u q) q (cond c Action.accept (Action.reduce p)))
    go true = tt
    go false = either-loud (ends b u q) (stops _) (two-reduces _ _ _) tt tt
meet-loud b s (completes t p) (leads u v) h k = go (ends b t p) refl
  where
    go : (c : Bool) → ends b t p ≡ c → Loud (on_shift b s u v (cond c Action.accept (Action.reduce p)))
    go true e = absurd (h k (eqb-true t (end_token_of b) (and_both (eqb p (start_prod b)) (eqb t (end_token_of b)) e).1))
    go false e = shift-loud b s u v p
meet-loud b s (leads t v) (completes u q) h k = absurd h
meet-loud b s (leads t v) (leads u w) h k = absurd (h k)

-- ---- how much is told
abbrev pub mass : Told → ℕ
mass k = length k.rr + length k.sr + k.count

abbrev pub Louder : Told → Fill → Type 0
Louder k g = mass k < mass g.told

abbrev pub AtLeast : Told → Fill → Type 0
AtLeast k g = mass k ≤ mass g.told

module _ (m : Caps) (s t : ℕ) where
  fitting : (c : Bool) (f g : Fill) (why : List ℕ) → Louder f.told g → Given (cond c (is g) (refused why)) (Louder f.told)
  fitting true f g why l = l
  fitting false f g why l = tt

  -- a verdict that tells something tells more
  pub settle-loud : (v : Verdict) (f : Fill) → Loud v → Given (settle m s t v f) (Louder f.told)
  unfolding settle
  settle-loud (writes w) f h = absurd h
  settle-loud (two-reduces w a o) f h = fitting (ltb (length f.told.rr) m.rr) f _ _ (omega (arith, length-append f.told.rr (ReduceReduce.reduce-reduce t a o s ∷ [])))
  settle-loud (unsettled w p) f h = fitting (ltb (length f.told.sr) m.sr) f _ _ (omega (arith, length-append f.told.sr (ShiftReduce.shift-reduce t p s ∷ [])))
  settle-loud (settled w) f h = omega arith
  settle-loud (stops values) f h = tt

  -- and no verdict tells less
  pub settle-more : (v : Verdict) (f : Fill) → Given (settle m s t v f) (AtLeast f.told)
  unfolding settle
  settle-more v f = go v (λ h. settle-loud v f h)
    where
      loud : (v : Verdict) → Given (settle m s t v f) (Louder f.told) → Given (settle m s t v f) (AtLeast f.told)
      loud v h = given-map (Louder f.told) (AtLeast f.told) (λ g l. omega arith) (settle m s t v f) h

      go : (v : Verdict) → (Loud v → Given (settle m s t v f) (Louder f.told)) → Given (settle m s t v f) (AtLeast f.told)
      go (writes w) h = omega arith
      go (two-reduces w a o) h = loud (two-reduces w a o) (h tt)
      go (unsettled w p) h = loud (unsettled w p) (h tt)
      go (settled w) h = loud (settled w) (h tt)
      go (stops values) h = tt

-- ---- one event: what it makes of a cell, in terms of the verdict
module _ (b : List ℕ) (m : Caps) (s : ℕ) (f : Fill) where
  fill_is : (e : Event) → fill b m s f e ≡ settle m s (at e) (verdict b s e (decode (get_or f.cells (at e) 0))) (offer (at e) f)
  unfolding fill
  fill_is (completes t p) = refl
  fill_is (leads t u) = refl

  -- an empty cell is written, and nothing is told
  error-writes : (e : Event) → verdict b s e Action.error ≡ writes (encode (act b e))
  error-writes (completes t p) = refl
  error-writes (leads t u) = refl

  pub fill-empty : (e : Event) → decode (get_or f.cells (at e) 0) ≡ Action.error → fill b m s f e ≡ is (write (at e) (encode (act b e)) (offer (at e) f))
  unfolding settle
  fill-empty e h = fill_is e ∙ ap (λ (v : Verdict). settle m s (at e) v (offer (at e) f)) (ap (verdict b s e) h ∙ error-writes e)

  -- at a cell that an event before has written more is told
  pub fill-loud : (x e : Event) → Before b x e → at x ≡ at e → decode (get_or f.cells (at e) 0) ≡ act b x
      → Given (fill b m s f e) (Louder f.told)
  fill-loud x e h k c =
      subst (λ (a : Answer Fill). Given a (Louder f.told)) (sym (fill_is e))
      (settle-loud m s (at e) _ (offer (at e) f) (subst (λ a. Loud (verdict b s e a)) (sym c) (meet-loud b s x e h k)))

  pub fill_more : (e : Event) → Given (fill b m s f e) (AtLeast f.told)
  fill_more e =
      subst (λ (a : Answer Fill). Given a (AtLeast f.told)) (sym (fill_is e)) (settle-more m s (at e) _ (offer (at e) f))
