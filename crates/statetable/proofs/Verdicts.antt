-- What a reduce or a shift makes of the cell that it comes to, way by way. Assumes nothing.
use mathlib.Core.Bool.{Bool, true, false, cond, ◌||◌}
use mathlib.Core.List.{List, [], ◌∷◌}
use mathlib.Core.Logic.{◌⊎◌, inl, inr, ◌≢◌}
use mathlib.Core.Path.{◌≡◌, refl, sym, ap, ap₂, ◌∙◌, subst}
use Prim.Native.Nat.{ℕ, zero, suc, ◌+◌, ◌*◌, ◌/◌, ◌%◌, ◌≤◌, ◌<◌, min, max}
use native.Mathlib.Nat.{min-eq_left, min-eq_right, max-eq_left, max-eq_right}
use native.Mathlib.Omega.{arith}
use lib.Dec.{ltb, eqb}
use borrow.Author.Tests.{lt-ltb, le-ltb, eq-eqb, ne_eqb}
use Rattle.knuth.specs.Tables.{Action}
use Rattle.block.specs.Block.{prods, token_prec}
use Rattle.statetable.specs.Cell.{of_kind, decode, encode}
use Rattle.statetable.specs.Named.{action_of}
use Rattle.statetable.specs.Verdict.{Verdict, writes, two-reduces, unsettled, settled, stops, precedence_of, on_reduce, by_kind, resolve, on_shift}
use Rattle.statetable.specs.Laid.{ActionIn}
use Rattle.statetable.specs.declared.cell.Action as code
use Rattle.statetable.specs.declared.cell.Action.TheVariants.{Error, Shift, Reduce, Accept}

-- ---- the word that an action was read from
shift-kind : (k v u : ℕ) → Action.shift u ≡ of_kind k v → (k ≡ 1) × (u ≡ v)
shift-kind zero v u e = (cc, cc)
shift-kind (suc zero) v u e = (refl, cc)
shift-kind (suc (suc zero)) v u e = (cc, cc)
shift-kind (suc (suc (suc k))) v u e = (cc, cc)

reduce-kind : (k v r : ℕ) → Action.reduce r ≡ of_kind k v → r ≡ v
reduce-kind zero v r e = cc
reduce-kind (suc zero) v r e = cc
reduce-kind (suc (suc zero)) v r e = cc
reduce-kind (suc (suc (suc k))) v r e = cc

-- a shift is written as it was read
shift_word : (w u : ℕ) → Action.shift u ≡ decode w → w ≡ encode (Action.shift u)
unfolding decode encode
shift_word w u e = let h = shift-kind (w % 4) (w / 4) u e in omega (arith, h.0, h.1)

pub reduce-small : (w r : ℕ) → Action.reduce r ≡ decode w → r ≤ w / 4
unfolding decode
reduce-small w r e = omega (arith, reduce-kind (w % 4) (w / 4) r e)

-- ---- production p is reduced
module _ (w p : ℕ) (accepts : Bool) where
  pub first-accept : accepts ≡ true → Action.error ≡ decode w → writes 3 ≡ on_reduce accepts p (decode w)
  unfolding encode
  first-accept t e = ap₂ (λ a x. on_reduce a p x) (sym t) e

  pub first-reduce : accepts ≡ false → Action.error ≡ decode w → writes (4 * p + 2) ≡ on_reduce accepts p (decode w)
  unfolding encode
  first-reduce t e = ap₂ (λ a x. on_reduce a p x) (sym t) e

  pub after-shift : (u : ℕ) → Action.shift u ≡ decode w → writes w ≡ on_reduce accepts p (decode w)
  after-shift u e = ap writes (shift_word w u e) ∙ ap (on_reduce accepts p) e

  pub after-accept : Action.accept ≡ decode w → stops (11 ∷ 0 ∷ p ∷ []) ≡ on_reduce accepts p (decode w)
  after-accept e = ap (on_reduce accepts p) e

  module _ (r : ℕ) (e : Action.reduce r ≡ decode w) where
    pub meets-accept : accepts ≡ true → stops (11 ∷ suc r ∷ p ∷ []) ≡ on_reduce accepts p (decode w)
    meets-accept t = ap₂ (λ a x. on_reduce a p x) (sym t) e

    two : accepts ≡ false → two-reduces (encode (Action.reduce (min r p))) (min r p) (max r p) ≡ on_reduce accepts p (decode w)
    two t = ap₂ (λ a x. on_reduce a p x) (sym t) e

    pub two-other : accepts ≡ false → r < p → two-reduces (4 * r + 2) r p ≡ on_reduce accepts p (decode w)
    unfolding encode
    two-other t l =
        let below : r ≤ p = omega arith in
        ap₂ (λ a o. two-reduces (encode (Action.reduce a)) a o) (sym (min-eq_left below)) (sym (max-eq_right below))
        ∙ two t

    pub two-smaller : accepts ≡ false → p ≤ r → two-reduces (4 * p + 2) p r ≡ on_reduce accepts p (decode w)
    unfolding encode
    two-smaller t l = ap₂ (λ a o. two-reduces (encode (Action.reduce a)) a o) (sym (min-eq_right l)) (sym (max-eq_left l)) ∙ two t

-- ---- a shift meets a reduce, and both precedences are there
module _ (tp pp u p : ℕ) (mixed : List ℕ) where
  -- by the three tests
  abbrev chosen : (less more same : Bool) → Verdict
  chosen less more same =
      cond less (settled (encode (Action.reduce p)))
      (cond more (settled (encode (Action.shift u)))
      (cond same (settled (encode (by_kind (tp % 4) (Action.shift u) (Action.reduce p)))) (stops mixed)))

  abbrev pub Resolves : Verdict → Type 0
  Resolves v = v ≡ resolve tp pp (Action.shift u) (Action.reduce p) mixed

  by : (less more same : Bool) → ltb (tp / 4) (pp / 4) ≡ less → ltb (pp / 4) (tp / 4) ≡ more → eqb tp pp ≡ same → Resolves (chosen less more same)
  unfolding resolve
  by less more same e f g = ap₂ (λ l m. chosen l m same) (sym e) (sym f) ∙ ap (chosen (ltb (tp / 4) (pp / 4)) (ltb (pp / 4) (tp / 4))) (sym g)

  pub lower : tp / 4 < pp / 4 → Resolves (settled (4 * p + 2))
  unfolding encode
  lower l = by true (ltb (pp / 4) (tp / 4)) (eqb tp pp) (lt-ltb (tp / 4) (pp / 4) l) refl refl

  pub higher : pp / 4 < tp / 4 → Resolves (settled (4 * u + 1))
  unfolding encode
  higher l = by false true (eqb tp pp) (le-ltb (tp / 4) (pp / 4) (omega arith)) (lt-ltb (pp / 4) (tp / 4) l) refl

  module _ (h : pp / 4 ≤ tp / 4) (k : tp / 4 ≤ pp / 4) where
    pub kinds-differ : tp ≢ pp → Resolves (stops mixed)
    kinds-differ d = by false false false (le-ltb (tp / 4) (pp / 4) h) (le-ltb (pp / 4) (tp / 4) k) (ne_eqb tp pp d)

    same_kind : tp ≡ pp → Resolves (settled (encode (by_kind (tp % 4) (Action.shift u) (Action.reduce p))))
    same_kind s = by false false true (le-ltb (tp / 4) (pp / 4) h) (le-ltb (pp / 4) (tp / 4) k) (eq-eqb tp pp s)

    abbrev of : (one two : Bool) → Verdict
    of one two = settled (encode (cond one (Action.reduce p) (cond two (Action.shift u) Action.error)))

    pub left : tp ≡ pp → tp % 4 ≡ 1 → Resolves (settled (4 * p + 2))
    unfolding encode
    left s q = ap (λ c. of c (eqb (tp % 4) 2)) (sym (eq-eqb (tp % 4) 1 q)) ∙ same_kind s

    pub right : tp ≡ pp → tp % 4 ≡ 2 → Resolves (settled (4 * u + 1))
    unfolding encode
    right s q = ap₂ of (sym (ne_eqb (tp % 4) 1 (λ z. omega arith))) (sym (eq-eqb (tp % 4) 2 q)) ∙ same_kind s

    pub nonassoc : tp ≡ pp → tp % 4 ≢ 1 → tp % 4 ≢ 2 → Resolves (settled 0)
    unfolding encode
    nonassoc s y z = ap₂ of (sym (ne_eqb (tp % 4) 1 y)) (sym (ne_eqb (tp % 4) 2 z)) ∙ same_kind s

-- ---- state u is shifted to, and production p is reduced there; tp and pp are the precedences
module _ (b : List ℕ) (s t u w p : ℕ) (e : Action.reduce p ≡ decode w) (tp pp : ℕ) (f : tp ≡ token_prec b t) (g : pp ≡ precedence_of b p) where
  abbrev after : Bool → Bool → Verdict
  after c d = cond (c || d) (unsettled (encode (Action.shift u)) p) (resolve tp pp (Action.shift u) (Action.reduce p) (12 ∷ t ∷ p ∷ s ∷ []))

  met : (c d : Bool) → eqb tp 0 ≡ c → eqb pp 0 ≡ d → after c d ≡ on_shift b s t u (decode w)
  met c d y z =
      ap₂ after (sym y) (sym z)
      ∙ ap₂ (λ m n. cond (eqb m 0 || eqb n 0) (unsettled (encode (Action.shift u)) p) (resolve m n (Action.shift u) (Action.reduce p) (12 ∷ t ∷ p ∷ s ∷ []))) f g
      ∙ ap (on_shift b s t u) e

  -- one of the two is missing
  pub missing : (tp ≡ 0) ⊎ (pp ≡ 0) → unsettled (4 * u + 1) p ≡ on_shift b s t u (decode w)
  unfolding encode
  missing (inl z) = met true (eqb pp 0) (eq-eqb tp 0 z) refl
  missing (inr z) = or_right (eqb tp 0) ∙ met (eqb tp 0) true refl (eq-eqb pp 0 z)
    where
      or_right : (c : Bool) → unsettled (4 * u + 1) p ≡ after c true
      or_right true = refl
      or_right false = refl

  pub both : tp ≢ 0 → eqb pp 0 ≡ false → (v : Verdict) → v ≡ resolve tp pp (Action.shift u) (Action.reduce p) (12 ∷ t ∷ p ∷ s ∷ [])
      → v ≡ on_shift b s t u (decode w)
  both y z v q = q ∙ met false false (ne_eqb tp 0 y) z

-- what is reduced there is a production
pub known-reduce : (b : List ℕ) (w p : ℕ) → Action.reduce p ≡ decode w → ActionIn b (decode w) → p < prods b
known-reduce b w p e h = subst (ActionIn b) (sym e) h

-- no reduce is there
pub no-reduce : (b : List ℕ) (s t u w : ℕ) (a : code.Action) → ((p : ℕ) → a ≡ Reduce p → ⊥) → action_of a ≡ decode w
    → writes (4 * u + 1) ≡ on_shift b s t u (decode w)
unfolding encode
no-reduce b s t u w Error k e = ap (on_shift b s t u) e
no-reduce b s t u w (Shift v) k e = ap (on_shift b s t u) e
no-reduce b s t u w Accept k e = ap (on_shift b s t u) e
no-reduce b s t u w (Reduce p) k e = absurd (k p refl)
