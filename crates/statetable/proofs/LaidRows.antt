-- What one event makes of a row that lies in lent memory: widths, actions and the bound of the count are kept. Assumes nothing.
use mathlib.Core.Bool.{Bool, true, false, ◌&&◌, ◌||◌, cond}
use mathlib.Core.List.{List, [], ◌∷◌}
use mathlib.Core.Path.{◌≡◌, refl, sym, ap, ◌∙◌, subst}
use Prim.Native.Nat.{ℕ, ◌+◌, ◌*◌, ◌/◌, ◌%◌, ◌≤◌, ◌<◌, min}
use native.Mathlib.Decide.{ℕ_discrete}
use native.Mathlib.Nat.{mul-le-mul_right, mul-le-mul_left}
use native.Mathlib.Omega.{arith}
use lib.Dec.{ltb, eqb}
use lib.ListN.{length, get_or, set, length-set}
use lib.Seq.{get_or-set_same, get_or-set_other}
use Rattle.std.specs.Prelude.{Result, Ok, Err}
use Rattle.knuth.specs.Tables.{Action}
use Rattle.block.specs.Limits.{TOKENS}
use Rattle.block.specs.Block.{tokens, prods, end_token_of, start_prod, token_prec}
use Rattle.block.proofs.Good.{placed}
use Rattle.pager.specs.Lists.{is, refused}
use Rattle.pager.specs.Held.{STATES}
use Rattle.statetable.specs.Cell.{decode, encode}
use Rattle.statetable.specs.Events.{completes, leads}
use Rattle.statetable.specs.Verdict.{Verdict, writes, two-reduces, unsettled, settled, stops, precedence_of, on_reduce, by_kind, resolve, on_shift}
use Rattle.statetable.specs.Cells.{reduce-reduce, shift-reduce, Told, Fill, write, offer, tell, with_rr, with_sr, counted, settle, fill}
use Rattle.statetable.specs.Refusals.{values_of}
use Rattle.statetable.specs.Laid.{GoesOn, Listed, ForVerdict, SettledBy, ActionIn, AllIn, Laid, LeftBy}
use Rattle.statetable.specs.declared.records.Caps.{Caps}
use Rattle.statetable.specs.declared.records.Tally.{Tally}
use Rattle.statetable.specs.declared.refusal.BuildRefusal.{BuildRefusal}
use Rattle.statetable.proofs.Cells.{decode-encode}

-- ---- what a verdict writes is an action of the grammar
abbrev pub Sound : List ℕ → Verdict → Type 0
Sound b (writes w) = ActionIn b (decode w)
Sound b (two-reduces w a o) = ActionIn b (decode w)
Sound b (unsettled w p) = ActionIn b (decode w)
Sound b (settled w) = ActionIn b (decode w)
Sound b (stops values) = Unit {0}

module _ (b : List ℕ) where
  encoded : (a : Action) → ActionIn b a → ActionIn b (decode (encode a))
  encoded a h = subst (ActionIn b) (sym (decode-encode a)) h

  reduce-sound : (accepts : Bool) (p : ℕ) → p < prods b → (a : Action) → ActionIn b a → Sound b (on_reduce accepts p a)
  reduce-sound true p l Action.error h = encoded Action.accept tt
  reduce-sound false p l Action.error h = encoded (Action.reduce p) l
  reduce-sound accepts p l (Action.shift u) h = encoded (Action.shift u) tt
  reduce-sound accepts p l Action.accept h = tt
  reduce-sound true p l (Action.reduce r) h = tt
  reduce-sound false p l (Action.reduce r) h = encoded (Action.reduce (min r p)) (let z : min r p < prods b = omega arith in z)

  resolve-sound : (tp pp u p : ℕ) (mixed : List ℕ) → p < prods b → Sound b (resolve tp pp (Action.shift u) (Action.reduce p) mixed)
  unfolding resolve
  resolve-sound tp pp u p mixed l = go (ltb (tp / 4) (pp / 4)) (ltb (pp / 4) (tp / 4)) (eqb tp pp)
    where
      kind : (x y : Bool) → ActionIn b (cond x (Action.reduce p) (cond y (Action.shift u) Action.error))
      kind true y = l
      kind false true = tt
      kind false false = tt

      go : (x y z : Bool)
          → Sound b (cond x (settled (encode (Action.reduce p))) (cond y (settled (encode (Action.shift u)))
          (cond z (settled (encode (by_kind (tp % 4) (Action.shift u) (Action.reduce p)))) (stops mixed))))
      go true y z = encoded (Action.reduce p) l
      go false true z = encoded (Action.shift u) tt
      go false false true = encoded (by_kind (tp % 4) (Action.shift u) (Action.reduce p)) (kind (eqb (tp % 4) 1) (eqb (tp % 4) 2))
      go false false false = tt

  shift-sound : (s t u : ℕ) (a : Action) → ActionIn b a → Sound b (on_shift b s t u a)
  shift-sound s t u Action.error h = encoded (Action.shift u) tt
  shift-sound s t u (Action.shift v) h = encoded (Action.shift u) tt
  shift-sound s t u Action.accept h = encoded (Action.shift u) tt
  shift-sound s t u (Action.reduce p) h = go (eqb (token_prec b t) 0 || eqb (precedence_of b p) 0)
    where
      given : List ℕ
      given = 12 ∷ t ∷ p ∷ s ∷ []

      go : (x : Bool)
          → Sound b (cond x (unsettled (encode (Action.shift u)) p) (resolve (token_prec b t) (precedence_of b p) (Action.shift u) (Action.reduce p) given))
      go true = encoded (Action.shift u) tt
      go false = resolve-sound (token_prec b t) (precedence_of b p) u p given h

-- ---- how much a verdict counts
abbrev more : Verdict → ℕ
more (settled w) = 1
more (writes w) = 0
more (two-reduces w a o) = 0
more (unsettled w p) = 0
more (stops values) = 0

more-one : (v : Verdict) → more v ≤ 1
more-one (settled w) = omega arith
more-one (writes w) = omega arith
more-one (two-reduces w a o) = omega arith
more-one (unsettled w p) = omega arith
more-one (stops values) = omega arith

reduce-more : (accepts : Bool) (p : ℕ) (a : Action) → more (on_reduce accepts p a) ≡ 0
reduce-more accepts p Action.error = refl
reduce-more accepts p (Action.shift u) = refl
reduce-more accepts p Action.accept = refl
reduce-more true p (Action.reduce r) = refl
reduce-more false p (Action.reduce r) = refl

-- ---- what a verdict that is refused leaves
pub refused-settled : (m : Caps) (s t : ℕ) (f : Fill) (e : BuildRefusal) (cells rr sr : List ℕ) → SettledBy (settle m s t (stops (values_of e)) f) m (Err e) cells rr sr
unfolding settle
refused-settled m s t f e cells rr sr = refl

-- ---- what holds of a walk that goes on
goes-on : {P Q : Tally → Type 0} (r : Result Tally BuildRefusal) → ((n : Tally) → P n → Q n) → GoesOn r P → GoesOn r Q
goes-on (Ok n) f p = f n p
goes-on (Err e) f p = p

-- ---- a row that lies in memory
module _ {b : List ℕ} {m : Caps} {s c : ℕ} {f : Fill} {n : Tally} {cells offered rr sr : List ℕ} (L : Laid b m s c f n cells offered rr sr) where
  pub laid-token : (t : ℕ) → t < tokens b → t < TOKENS
  laid-token t l = omega (arith, (placed L.good).tokens-most)

  pub laid_more : {c' : ℕ} → c ≤ c' → Laid b m s c' f n cells offered rr sr
  laid_more {c'} l =
      record {
        good = L.good;
        state = L.state;
        width = L.width;
        marks = L.marks;
        actions = L.actions;
        cells_are = L.cells_are;
        offered-are = L.offered-are;
        listed = L.listed;
        count = (let k = L.count in omega arith);
      }

  pub laid_cells : length cells ≡ tokens b
  laid_cells = ap length L.cells_are ∙ L.width

  pub laid-offered : length offered ≡ tokens b
  laid-offered = ap length L.offered-are ∙ L.marks

  pub laid-action : (t : ℕ) → t < tokens b → ActionIn b (decode (get_or cells t 0))
  laid-action t l = subst (λ w. ActionIn b (decode (get_or w t 0))) (sym L.cells_are) (L.actions t (omega (arith, L.width)))

  pub laid-verdict : (t : ℕ) → t < tokens b → c ≤ s * tokens b + t → ForVerdict m (offer t f) n t cells rr sr
  laid-verdict t l k =
      record {
        listed = L.listed;
        cells_are = L.cells_are;
        there = omega (arith, L.width);
        narrow = omega (arith, laid-token t l);
        count =
            omega (
              arith,
              L.count,
              laid-token t l,
              mul-le-mul_left {m = tokens b} {n = TOKENS} s (placed L.good).tokens-most,
              mul-le-mul_right {m = s} {n = STATES} TOKENS (let h = L.state in omega arith),
            );
      }

  -- ---- a verdict on cell t leaves
  module _ (t : ℕ) (l : t < tokens b) (c' : ℕ) (r : Result Tally BuildRefusal) (cells' offered' rr' sr' : List ℕ) (o : offered' ≡ set offered t 1) where
    all_in : (w : ℕ) → ActionIn b (decode w) → AllIn b (set f.cells t w)
    all_in w h i k =
        elim (ℕ_discrete i t) [
          | yes e ↦
              subst (λ x. ActionIn b (decode x))
              (sym (ap (λ (j : ℕ). get_or (set f.cells t w) j 0) e ∙ get_or-set_same f.cells t w 0 (omega (arith, L.width)))) h
          | no d ↦
              subst (λ x. ActionIn b (decode x)) (sym (get_or-set_other f.cells t i w 0 d))
              (L.actions i (omega (arith, length-set f.cells t w)))
        ]

    row_kept : (w : ℕ) (k : Told) → ActionIn b (decode w) → k.count ≤ c' → (n' : Tally) → Listed m k n' rr' sr' × (cells' ≡ set f.cells t w)
        → Laid b m s c' (write t w (tell k (offer t f))) n' cells' offered' rr' sr'
    row_kept w k h q n' S =
        record {
          good = L.good;
          state = L.state;
          width = length-set f.cells t w ∙ L.width;
          marks = length-set f.offered t 1 ∙ L.marks;
          actions = all_in w h;
          cells_are = S.1;
          offered-are = o ∙ ap (λ (z : List ℕ). set z t 1) L.offered-are;
          listed = S.0;
          count = q;
        }

    kept : (w : ℕ) (k : Told) → ActionIn b (decode w) → k.count ≤ c' → GoesOn r (λ n'. Listed m k n' rr' sr' × (cells' ≡ set f.cells t w))
        → GoesOn r (λ n'. Laid b m s c' (write t w (tell k (offer t f))) n' cells' offered' rr' sr')
    kept w k h q S = goes-on r (λ n' K. row_kept w k h q n' K) S

    -- a record that fits, or not
    recorded : (w : ℕ) (k : Told) → ActionIn b (decode w) → k.count ≤ c'
        → (fits : Bool) → SettledBy (cond fits (is (write t w (tell k (offer t f)))) (refused (10 ∷ []))) m r cells' rr' sr'
        → LeftBy (cond fits (is (write t w (tell k (offer t f)))) (refused (10 ∷ []))) b m s c' r cells' offered' rr' sr'
    recorded w k h q true S = kept w k h q S
    recorded w k h q false S = S

    settled-left : (v : Verdict) → Sound b v → c + more v ≤ c' → SettledBy (settle m s t v (offer t f)) m r cells' rr' sr'
        → LeftBy (settle m s t v (offer t f)) b m s c' r cells' offered' rr' sr'
    unfolding settle
    settled-left (writes w) h q S = kept w f.told h (omega (arith, L.count)) S
    settled-left (two-reduces w x y) h q S =
        recorded w (with_rr (reduce-reduce t x y s) f.told) h (omega (arith, L.count)) (ltb (length f.told.rr) m.rr) S
    settled-left (unsettled w p) h q S =
        recorded w (with_sr (shift-reduce t p s) f.told) h (omega (arith, L.count)) (ltb (length f.told.sr) m.sr) S
    settled-left (settled w) h q S = kept w (counted f.told) h (omega (arith, L.count)) S
    settled-left (stops values) h q S = S

    -- the verdict v was on what stood in the cell
    module _ (v : Verdict) (S : SettledBy (settle m s t v (offer t f)) m r cells' rr' sr') where
      pub completed-left : (p : ℕ) → p < prods b → (accepts : Bool) → accepts ≡ (eqb p (start_prod b) && eqb t (end_token_of b))
          → v ≡ on_reduce accepts p (decode (get_or cells t 0)) → c ≤ c' → LeftBy (fill b m s f (completes t p)) b m s c' r cells' offered' rr' sr'
      unfolding fill
      completed-left p k accepts d e q =
          subst (λ u. LeftBy (settle m s t u (offer t f)) b m s c' r cells' offered' rr' sr') e'
          (settled-left v (subst (Sound b) (sym e) (reduce-sound b accepts p k a (laid-action t l)))
          (let z : more v ≡ 0 = ap more e ∙ reduce-more accepts p a in omega arith) S)
        where
          a : Action
          a = decode (get_or cells t 0)

          e' : v ≡ on_reduce (eqb p (start_prod b) && eqb t (end_token_of b)) p (decode (get_or f.cells t 0))
          e' = e ∙ ap (λ (z : List ℕ). on_reduce accepts p (decode (get_or z t 0))) L.cells_are ∙ ap (λ x. on_reduce x p (decode (get_or f.cells t 0))) d

      pub led-left : (u : ℕ) → v ≡ on_shift b s t u (decode (get_or cells t 0)) → c + 1 ≤ c'
          → LeftBy (fill b m s f (leads t u)) b m s c' r cells' offered' rr' sr'
      unfolding fill
      led-left u e q =
          subst (λ x. LeftBy (settle m s t x (offer t f)) b m s c' r cells' offered' rr' sr')
          (e ∙ ap (λ (z : List ℕ). on_shift b s t u (decode (get_or z t 0))) L.cells_are)
          (settled-left v (subst (Sound b) (sym e) (shift-sound b s t u (decode (get_or cells t 0)) (laid-action t l)))
          (let z = more-one v in omega arith) S)
