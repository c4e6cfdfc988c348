-- One round of rule 1 is sound, and a list that a round does not change has all of nullable and FIRST. Assumes nothing.
use mathlib.Core.Bool.{true, true≢false}
use mathlib.Core.List.{List, [], ◌∷◌, foldl, map, nil≢cons, head-eq_of_cons-eq, tail-eq_of_cons-eq}
use mathlib.Core.Logic.{◌⊎◌, inl, inr}
use mathlib.Core.Path.{◌≡◌, refl, sym, subst}
use Prim.Native.Nat.{ℕ, ◌/◌, ◌<◌}
use native.Mathlib.Omega.{arith}
use lib.ListN.{get_or, length}
use Rattle.knuth.specs.Grammar.{Sym, rule, token}
use Rattle.knuth.specs.First.{First, Nullable, Empties, Begins}
use Rattle.knuth.proofs.Least.{nullable-nil, nullable-cons, nullable-rule, first-token, first-cons, first-rule, rule-not-token, rule-injective, token-injective}
use Rattle.block.specs.Block.{prods, rule_of, body_of}
use Rattle.block.specs.Grammar.{symbol, grammar_of}
use Rattle.block.specs.Sets.{In, empty, with}
use Rattle.block.specs.First.{Ahead, is_null, first_in, nothing, either, ahead_sym, ahead_of, add_prod, Within, Small}
use Rattle.block.proofs.ListLaws.{Among, change-cases, change-at, change-size}
use Rattle.block.proofs.Ahead.{empty-none, sym-cases, token-only, token-in, Under, under-refl, under-trans, either_left, either-right, either-null, either_first, behind-null, null-behind, behind-first, first-behind, second-behind, Below, ahead-mono}

module _ (b : List ℕ) where
  -- what is said of a rule is so, one way
  pub record Sound (F : List Ahead) : Type 0 where
    pub nulls : (r : ℕ) → is_null (get_or F r nothing) ≡ true → Nullable (grammar_of b) (rule r ∷ [])
    pub firsts : (r t : ℕ) → In (first_in (get_or F r nothing)) t → First (grammar_of b) (rule r ∷ []) t

  -- ---- then it is so of every list of symbols
  module _ (F : List Ahead) (S : Sound F) where
    sym-null : (x : ℕ) → is_null (ahead_sym F x) ≡ true → Nullable (grammar_of b) (symbol x ∷ [])
    sym-null x =
        sym-cases (λ a X. is_null a ≡ true → Nullable (grammar_of b) (X ∷ [])) F x (λ e. S.nulls (x / 2)) (λ e n. absurd (true≢false (sym n)))

    pub ahead-null : (w : List ℕ) → is_null (ahead_of F w) ≡ true → Nullable (grammar_of b) (map symbol w)
    unfolding ahead_of
    ahead-null [] e = nullable-nil (grammar_of b)
    ahead-null (x ∷ w) e =
        let p = behind-null (ahead_sym F x) (ahead_of F w) e in
        (nullable-cons (grammar_of b) (symbol x) (map symbol w)).1 (sym-null x p.0, ahead-null w p.1)

    sym-first : (x : ℕ) (w : List ℕ) (t : ℕ) → Within x → In (first_in (ahead_sym F x)) t ⊎ ((is_null (ahead_sym F x) ≡ true) × First (grammar_of b) (map symbol w) t)
        → First (grammar_of b) (symbol x ∷ map symbol w) t
    sym-first x w t l =
        sym-cases (λ a X. In (first_in a) t ⊎ ((is_null a ≡ true) × First (grammar_of b) (map symbol w) t) → First (grammar_of b) (X ∷ map symbol w) t) F x
        (λ e h. (first-cons (grammar_of b) (x / 2) t (map symbol w)).1 (elim h [ inl m ↦ inl (S.firsts (x / 2) t m) | inr m ↦ inr (S.nulls (x / 2) m.0, m.1) ]))
        (λ e h. elim h [ inl m ↦ (first-token (grammar_of b) (x / 2) t (map symbol w)).1 (token-only x t l e m) | inr m ↦ absurd (true≢false (sym m.0)) ])

    pub ahead-first : (w : List ℕ) → Small w → (t : ℕ) → In (first_in (ahead_of F w)) t → First (grammar_of b) (map symbol w) t
    unfolding ahead_of
    ahead-first [] s t m = absurd (empty-none t m)
    ahead-first (x ∷ w) (l, s) t m =
        sym-first x w t l (elim (behind-first (ahead_sym F x) (ahead_of F w) t m) [ inl h ↦ inl h | inr h ↦ inr (h.0, ahead-first w s t h.1) ])

  -- ---- one production, one round
  add-below : (F : List Ahead) (p : ℕ) → Below F (add_prod b F p)
  unfolding add_prod
  add-below F p =
      change-cases (λ x. either x (ahead_of F (body_of b p))) nothing (λ r x. Under (get_or F r nothing) x) (rule_of b p) F (λ r. under-refl (get_or F r nothing))
      (λ x h. under-trans (get_or F (rule_of b p) nothing) x (either x (ahead_of F (body_of b p))) h (either_left x (ahead_of F (body_of b p))))

  add-has : (F : List Ahead) (p : ℕ) → rule_of b p < length F → Under (ahead_of F (body_of b p)) (get_or (add_prod b F p) (rule_of b p) nothing)
  unfolding add_prod
  add-has F p l =
      subst (λ x. Under (ahead_of F (body_of b p)) x) (sym (change-at (λ x. either x (ahead_of F (body_of b p))) nothing (rule_of b p) F l))
      (either-right (get_or F (rule_of b p) nothing) (ahead_of F (body_of b p)))

  pub add-size : (F : List Ahead) (p : ℕ) → length (add_prod b F p) ≡ length F
  unfolding add_prod
  add-size F p = change-size (λ x. either x (ahead_of F (body_of b p))) (rule_of b p) F

  more-below : (F₀ F : List Ahead) (p : ℕ) → Below F₀ F → Below F₀ (add_prod b F p)
  more-below F₀ F p h r = under-trans (get_or F₀ r nothing) (get_or F r nothing) (get_or (add_prod b F p) r nothing) (h r) (add-below F p r)

  round-below : (qs : List ℕ) (F₀ F : List Ahead) → Below F₀ F → Below F₀ (foldl (add_prod b) F qs)
  round-below [] F₀ F h = h
  round-below (q ∷ qs) F₀ F h = round-below qs F₀ (add_prod b F q) (more-below F₀ F q h)

  -- a round gives each rule what its productions' bodies had ahead at its begin
  pub round-has : (q : ℕ) (qs : List ℕ) → Among q qs → (F₀ F : List Ahead) → Below F₀ F → rule_of b q < length F
      → Under (ahead_of F₀ (body_of b q)) (get_or (foldl (add_prod b) F qs) (rule_of b q) nothing)
  round-has q [] m F₀ F h l = absurd m
  round-has q (p ∷ qs) (inl e) F₀ F h l =
      under-trans (ahead_of F₀ (body_of b q)) (get_or (add_prod b F p) (rule_of b q) nothing) (get_or (foldl (add_prod b) (add_prod b F p) qs) (rule_of b q) nothing)
      (under-trans (ahead_of F₀ (body_of b q)) (ahead_of F (body_of b q)) (get_or (add_prod b F p) (rule_of b q) nothing) (ahead-mono F₀ F h (body_of b q))
      (subst (λ n. Under (ahead_of F (body_of b q)) (get_or (add_prod b F n) (rule_of b q) nothing)) e (add-has F q l)))
      (round-below qs (add_prod b F p) (add_prod b F p) (λ r. under-refl (get_or (add_prod b F p) r nothing)) (rule_of b q))
  round-has q (p ∷ qs) (inr m) F₀ F h l =
      round-has q qs m F₀ (add_prod b F p) (more-below F₀ F p h) (let e = add-size F p in omega arith)

  -- ---- soundness of a round
  module _ (bodies : (p : ℕ) → p < prods b → Small (body_of b p)) where
    -- what is right of rule r
    abbrev Right : ℕ → Ahead → Type 0
    Right r x = (is_null x ≡ true → Nullable (grammar_of b) (rule r ∷ [])) × ((t : ℕ) → In (first_in x) t → First (grammar_of b) (rule r ∷ []) t)

    add-sound : (F : List Ahead) (p : ℕ) → p < prods b → Sound F → Sound (add_prod b F p)
    unfolding add_prod
    add-sound F p l S = record { nulls = λ r. (all r).0; firsts = λ r. (all r).1 }
      where
        step : (x : Ahead) → Right (rule_of b p) x → Right (rule_of b p) (either x (ahead_of F (body_of b p)))
        step x h = (
          λ e. elim (either-null x (ahead_of F (body_of b p)) e) [
            | inl q ↦ h.0 q
            | inr q ↦ (nullable-rule (grammar_of b) (rule_of b p)).1 (p, l, refl, ahead-null F S (body_of b p) q)
          ],
          λ t u. elim (either_first x (ahead_of F (body_of b p)) t u) [
            | inl q ↦ h.1 t q
            | inr q ↦ (first-rule (grammar_of b) (rule_of b p) t).1 (p, l, refl, ahead-first F S (body_of b p) (bodies p l) t q)
          ],
        )

        all : (r : ℕ) → Right r (get_or (add_prod b F p) r nothing)
        all = change-cases (λ x. either x (ahead_of F (body_of b p))) nothing Right (rule_of b p) F (λ r. (S.nulls r, S.firsts r)) step

    pub round-sound : (qs : List ℕ) → ((q : ℕ) → Among q qs → q < prods b) → (F : List Ahead) → Sound F → Sound (foldl (add_prod b) F qs)
    round-sound [] l F S = S
    round-sound (q ∷ qs) l F S = round-sound qs (λ p m. l p (inr m)) (add_prod b F q) (add-sound F q (l q (inl refl)) S)

    -- ---- the other half, where a round changes nothing
    module _ (F : List Ahead) (has : (q : ℕ) → q < prods b → Under (ahead_of F (body_of b q)) (get_or F (rule_of b q) nothing)) where
      at-rule : (x q : ℕ) → symbol x ≡ rule (rule_of b q) → Under (get_or F (rule_of b q) nothing) (ahead_sym F x)
      at-rule x q =
          sym-cases (λ a X. X ≡ rule (rule_of b q) → Under (get_or F (rule_of b q) nothing) a) F x
          (λ e h. subst (λ n. Under (get_or F n nothing) (get_or F (x / 2) nothing)) (rule-injective (x / 2) (rule_of b q) h) (under-refl (get_or F (x / 2) nothing)))
          (λ e h. absurd (rule-not-token (rule_of b q) (x / 2) (sym h)))

      at-token : (x t : ℕ) → Within x → symbol x ≡ token t → In (first_in (ahead_sym F x)) t
      at-token x t l =
          sym-cases (λ a X. X ≡ token t → In (first_in a) t) F x
          (λ e h. absurd (rule-not-token (x / 2) t h))
          (λ e h. subst (λ n. In (with empty (x / 2)) n) (token-injective (x / 2) t h) (token-in x l e))

      pub null-back : {Xs : List Sym} → Empties (grammar_of b) Xs → (w : List ℕ) → map symbol w ≡ Xs → is_null (ahead_of F w) ≡ true
      unfolding ahead_of
      null-back Empties.nil [] e = refl
      null-back Empties.nil (x ∷ w) e = absurd (nil≢cons (sym e))
      null-back (Empties.cons q l n m) [] e = absurd (nil≢cons e)
      null-back (Empties.cons q l n m) (x ∷ w) e =
          null-behind (ahead_sym F x) (ahead_of F w) ((at-rule x q (head-eq_of_cons-eq e)).nulls ((has q l).nulls (null-back n (body_of b q) refl))) (null-back m w (tail-eq_of_cons-eq e))

      pub first_back : {Xs : List Sym} {t : ℕ} → Begins (grammar_of b) Xs t → (w : List ℕ) → Small w → map symbol w ≡ Xs → In (first_in (ahead_of F w)) t
      unfolding ahead_of
      first_back Begins.here [] s e = absurd (nil≢cons e)
      first_back {t = t} Begins.here (x ∷ w) s e = first-behind (ahead_sym F x) (ahead_of F w) t (at-token x t s.0 (head-eq_of_cons-eq e))
      first_back (Begins.inside q l f) [] s e = absurd (nil≢cons e)
      first_back {t = t} (Begins.inside q l f) (x ∷ w) s e =
          first-behind (ahead_sym F x) (ahead_of F w) t ((at-rule x q (head-eq_of_cons-eq e)).firsts t ((has q l).firsts t (first_back f (body_of b q) (bodies q l) refl)))
      first_back (Begins.after q l n f) [] s e = absurd (nil≢cons e)
      first_back {t = t} (Begins.after q l n f) (x ∷ w) s e =
          second-behind (ahead_sym F x) (ahead_of F w) t ((at-rule x q (head-eq_of_cons-eq e)).nulls ((has q l).nulls (null-back n (body_of b q) refl)))
          (first_back f w s.1 (tail-eq_of_cons-eq e))
