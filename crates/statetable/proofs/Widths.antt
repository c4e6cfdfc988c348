-- A filling that comes to its end has a row for each state, and each row is as wide as there are tokens. Assumes nothing.
use mathlib.Core.Bool.{Bool, true, false, cond}
use mathlib.Core.List.{List, [], ◌∷◌, ◌++◌}
use mathlib.Core.Path.{◌≡◌, refl, sym, ap, subst, ◌∙◌}
use Prim.Native.Nat.{ℕ, suc, ◌+◌, ◌<◌}
use native.Mathlib.Decide.{ℕ_discrete}
use native.Mathlib.Omega.{arith}
use lib.Dec.{ltb}
use lib.ListN.{length, get_or, length-set, length-append, length-replicate, get_or-append}
use lib.Seq.{get_or_at}
use Rattle.block.specs.Block.{tokens}
use Rattle.block.specs.First.{Ahead}
use Rattle.pager.specs.Lists.{Answer, is, refused, walk}
use Rattle.pager.specs.Place.{State}
use Rattle.pager.specs.Given.{Given}
use Rattle.pager.proofs.Walks.{given-on}
use Rattle.statetable.specs.Events.{Event, completes, leads, events_of}
use Rattle.statetable.specs.Verdict.{Verdict, writes, two-reduces, unsettled, settled, stops}
use Rattle.statetable.specs.Cells.{Fill, offer, settle, fill, Told, fresh, fill_state, Rows, row_added, added, fill_next, no_rows, cells_of}
use Rattle.statetable.specs.declared.records.Caps.{Caps}

-- ---- one state: a row stays as wide as it was
abbrev Wide : ℕ → Fill → Type 0
Wide w f = length f.cells ≡ w

either : (P : Fill → Type 0) (c : Bool) (g : Fill) (why : List ℕ) → P g → Given (cond c (is g) (refused why)) P
either P true g why h = h
either P false g why h = tt

settle-wide : (m : Caps) (s t : ℕ) (v : Verdict) (f : Fill) (w : ℕ) → Wide w f → Given (settle m s t v f) (Wide w)
unfolding settle
settle-wide m s t (writes x) f w h = length-set f.cells t x ∙ h
settle-wide m s t (two-reduces x a o) f w h = either (Wide w) (ltb (length f.told.rr) m.rr) _ _ (length-set f.cells t x ∙ h)
settle-wide m s t (unsettled x p) f w h = either (Wide w) (ltb (length f.told.sr) m.sr) _ _ (length-set f.cells t x ∙ h)
settle-wide m s t (settled x) f w h = length-set f.cells t x ∙ h
settle-wide m s t (stops values) f w h = tt

module _ (b : List ℕ) (m : Caps) (s w : ℕ) where
  fill-wide : (f : Fill) (e : Event) → Wide w f → Given (fill b m s f e) (Wide w)
  unfolding fill
  fill-wide f (completes t p) h = settle-wide m s t _ (offer t f) w h
  fill-wide f (leads t u) h = settle-wide m s t _ (offer t f) w h

  walk-wide : (es : List Event) (f : Fill) → Wide w f → Given (walk (fill b m s) f es) (Wide w)
  unfolding walk
  walk-wide [] f h = h
  walk-wide (e ∷ es) f h = given-on (Wide w) (Wide w) (λ g. walk (fill b m s) g es) (fill b m s f e) (fill-wide f e h) (λ g k. walk-wide es g k)

state-wide : (b : List ℕ) (F : List Ahead) (m : Caps) (s : ℕ) (k : Told) (st : State) → Given (fill_state b F m s k st) (Wide (tokens b))
unfolding fill_state
state-wide b F m s k st = walk-wide b m s (tokens b) (events_of b F st) (fresh b k) (length-replicate {A = ℕ} (tokens b) 0)

-- ---- all states: n rows, each w wide
pub record Tabular (n w : ℕ) (rs : List (List ℕ)) : Type 0 where
  pub number : length rs ≡ n
  pub width : (i : ℕ) → i < length rs → length (get_or rs i []) ≡ w

tabular-more : (n w : ℕ) (rs : List (List ℕ)) (r : List ℕ) → Tabular n w rs → length r ≡ w → Tabular (suc n) w (rs ++ (r ∷ []))
tabular-more n w rs r R h =
    record {
      number = omega (arith, length-append rs (r ∷ []), R.number);
      width = λ i l. at i (ℕ_discrete i (length rs)) (omega (arith, length-append rs (r ∷ [])));
    }
  where
    at : (i : ℕ) → Dec (i ≡ length rs) → i < suc (length rs) → length (get_or (rs ++ (r ∷ [])) i []) ≡ w
    at i (yes e) l = ap length (get_or_at rs r [] [] i (sym e)) ∙ h
    at i (no d) l = let k : i < length rs = omega arith in ap length (get_or-append rs (r ∷ []) [] i k) ∙ R.width i k

module _ (b : List ℕ) (F : List Ahead) (m : Caps) where
  abbrev RowEach : ℕ → Rows → Type 0
  RowEach n d = Tabular n (tokens b) d.cells

  walk-tabular : (ss : List State) (n : ℕ) (d : Rows) → RowEach n d → Given (walk (fill_next b F m) d ss) (RowEach (n + length ss))
  unfolding walk fill_next
  walk-tabular [] n d R = subst (λ (k : ℕ). RowEach k d) (let z : n ≡ n + 0 = omega arith in z) R
  walk-tabular (st ∷ ss) n d R =
      go (fill_state b F m (length d.cells) d.told st) (state-wide b F m (length d.cells) d.told st) (λ r h. walk-tabular ss (suc n) r h)
    where
      go : (x : Answer Fill) → Given x (Wide (tokens b))
          → ((r : Rows) → RowEach (suc n) r → Given (walk (fill_next b F m) r ss) (RowEach (suc n + length ss)))
          → Given (elim (added d x) [ is r ↦ walk (fill_next b F m) r ss | refused e ↦ refused e ]) (RowEach (n + suc (length ss)))
      go (is f) h r =
          subst (λ (k : ℕ). Given (walk (fill_next b F m) (row_added d f) ss) (RowEach k)) (let z : suc n + length ss ≡ n + suc (length ss) = omega arith in z)
          (r (row_added d f) (tabular-more n (tokens b) d.cells f.cells R h))
      go (refused e) h r = tt

  pub cells-tabular : (ss : List State) → Given (cells_of b F m ss) (λ d. Tabular (length ss) (tokens b) d.cells)
  unfolding cells_of
  cells-tabular ss =
      subst (λ (k : ℕ). Given (walk (fill_next b F m) no_rows ss) (RowEach k)) (let z : 0 + length ss ≡ length ss = omega arith in z)
      (walk-tabular ss 0 no_rows (record { number = refl; width = λ i l. absurd (omega arith) }))
