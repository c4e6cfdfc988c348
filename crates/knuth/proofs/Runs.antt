-- Runs over any tables: what their steps count, and that a run under limits is one of the machine without. Assumes nothing.
use mathlib.Core.Bool.{Bool, true, false}
use mathlib.Core.List.{List, ◌++◌, ◌∷◌, [], append-nil, append_assoc}
use mathlib.Core.Logic.{inl, inr}
use mathlib.Core.Path.{◌≡◌, subst, ap, refl, sym, ◌∙◌}
use Prim.Native.Nat.{ℕ, ◌+◌, ◌-◌, ◌≤◌, suc, zero}
use native.Mathlib.Omega.{arith}
use lib.Dec.{leb}
use lib.ListN.{length, length-append}
use Rattle.knuth.specs.Grammar.{Grammar}
use Rattle.knuth.specs.Tables.{Tables}
use Rattle.knuth.specs.Machine.{Config, at, next, Reaches, Outcome, goes, accepted, rejected, bad-table}
use Rattle.knuth.specs.Limits.{Limits, outs, rest-of, height, Why, Step, Ended, moves, stops, ended, counted, fits, within, run, machine}
use Rattle.knuth.specs.Runs.{Ran}
use Rattle.knuth.proofs.Steps.{Move, move}

module _ (G : Grammar) (T : Tables) where
  -- ---- what steps count

  -- Either a token is taken and the output stays, or the tokens stay and the output grows by one word.
  tally : {c c' : Config} → Move G T c c' → 1 + length (rest-of c') + length (outs c) ≡ length (rest-of c) + length (outs c')
  tally (Move.shifts h) = omega arith
  tally (Move.reduces {p = p} {out = out} hp e h) = omega (arith, length-append out (p ∷ []))

  fewer : {c c' : Config} → Move G T c c' → length (rest-of c') ≤ length (rest-of c)
  fewer (Move.shifts h) = omega arith
  fewer (Move.reduces hp e h) = omega arith

  longer : {c c' : Config} → Move G T c c' → (x : List ℕ) × (outs c' ≡ outs c ++ x)
  longer (Move.shifts {out = out} h) = ([], sym (append-nil out))
  longer (Move.reduces {p = p} hp e h) = (p ∷ [], refl)

  -- Steps are the tokens taken and the reductions made.
  pub counts : {n : ℕ} {c c' : Config} → Reaches G T n c c' → n + length (rest-of c') + length (outs c) ≡ length (rest-of c) + length (outs c')
  counts Reaches.stay = omega arith
  counts {c = c} (Reaches.then {c' = d} e r) = omega (arith, tally (move G T c d e), counts r)

  pub shrinks : {n : ℕ} {c c' : Config} → Reaches G T n c c' → length (rest-of c') ≤ length (rest-of c)
  shrinks Reaches.stay = omega arith
  shrinks {c = c} (Reaches.then {c' = d} e r) = omega (arith, fewer (move G T c d e), shrinks r)

  -- The output only grows.
  pub grows : {n : ℕ} {c c' : Config} → Reaches G T n c c' → (x : List ℕ) × (outs c' ≡ outs c ++ x)
  grows {c = c} Reaches.stay = ([], sym (append-nil (outs c)))
  grows {c = c} (Reaches.then {c' = d} e r) =
      let (x, ex) = longer (move G T c d e) in
      let (y, ey) = grows r in
      (x ++ y, ey ∙ ap (λ l. l ++ y) ex ∙ append_assoc (outs c) x y)

  module _ (L : Limits) where
    -- What `run` does with a step.
    abbrev pub after : Step → ℕ → ℕ → Config → Ended
    after x k n c = elim x [ moves c' ↦ run G T L k (suc n) c' | stops w ↦ ended w (counted w n) c ]

    -- ---- a run under limits is one without

    pub ran : (k n m : ℕ) (c d : Config) (y : Why) → run G T L k n c ≡ ended y m d → Ran G T L k n m c d y
    ran zero n m c d y e =
        let ec : c ≡ d = cc in
        let ey : y ≡ Why.out-of-steps = cc in
        let em : n ≡ m = cc in
        record {
          steps = 0;
          runs = subst (λ x. Reaches G T 0 c x) ec Reaches.stay;
          count = subst (λ x. m ≡ counted x (n + 0)) (sym ey) (omega arith);
          why = inl (ey, refl);
        }
    ran (suc k) n m c d y e = go (λ b h. ran k (suc n) m b d y h) (next G T c) refl e
      where
        Rec : Type 0
        Rec = (b : Config) → run G T L k (suc n) b ≡ ended y m d → Ran G T L k (suc n) m b d y

        -- it stops here, for the reason v
        here : (x : Outcome) (v : Why) → next G T c ≡ x → within L x ≡ stops v → ended v (counted v n) c ≡ ended y m d → Ran G T L (suc k) n m c d y
        here x v ex ev h =
            let ec : c ≡ d = cc in
            let ey : v ≡ y = cc in
            let em : counted v n ≡ m = cc in
            let z : n ≡ n + 0 = omega arith in
            record {
              steps = 0;
              runs = subst (λ x. Reaches G T 0 c x) ec Reaches.stay;
              count = sym em ∙ ap (λ u. counted u n) ey ∙ ap (counted y) z;
              why = inr (ap (λ u. within L (next G T u)) (sym ec) ∙ ap (within L) ex ∙ ev ∙ ap stops ey);
            }

        moved : Rec → (b : Config) → next G T c ≡ goes b → (x z : Bool) → leb (length (outs b)) L.output ≡ x → leb (height b) L.stack ≡ z
            → after (fits x z b) k n c ≡ ended y m d → Ran G T L (suc k) n m c d y
        moved rec b ex false z e₁ e₂ h = here (goes b) Why.output-room ex (ap (λ q. fits q (leb (height b) L.stack) b) e₁) h
        moved rec b ex true false e₁ e₂ h =
            here (goes b) Why.stack-room ex (ap (λ q. fits q (leb (height b) L.stack) b) e₁ ∙ ap (λ q. fits true q b) e₂) h
        moved rec b ex true true e₁ e₂ h =
            let r = rec b h in
            let z : suc n + r.steps ≡ n + suc r.steps = omega arith in
            record {
              steps = suc r.steps;
              runs = Reaches.then ex r.runs;
              count = r.count ∙ ap (counted y) z;
              why = elim r.why [ inl u ↦ inl (u.0, ap suc u.1) | inr u ↦ inr u ];
            }

        go : Rec → (x : Outcome) → next G T c ≡ x → after (within L x) k n c ≡ ended y m d → Ran G T L (suc k) n m c d y
        go rec (goes b) ex h = moved rec b ex (leb (length (outs b)) L.output) (leb (height b) L.stack) refl refl h
        go rec (accepted ρ) ex h = here (accepted ρ) Why.accept ex refl h
        go rec rejected ex h = here rejected Why.reject ex refl h
        go rec bad-table ex h = here bad-table Why.bad ex refl h

    -- However a run ends, its steps are the tokens taken and the reductions made, and one more for an accept or an error.
    pub ended-steps : (w : List ℕ) (y : Why) (n : ℕ) (c : Config) → machine G T L w ≡ ended y n c
        → n ≡ counted y (length w - length (rest-of c) + length (outs c))
    ended-steps w y n c e =
        let r = ran L.steps 0 n (at zero [] w []) c y e in
        let z : 0 + r.steps ≡ length w - length (rest-of c) + length (outs c) = omega (arith, counts r.runs, shrinks r.runs) in
        r.count ∙ ap (counted y) z
