-- What an item offers, by what stands behind its dot; and that it is what the productions that it opens are to take. Assumes nothing.
use mathlib.Core.Bool.{Bool, true, false, cond, true≢false}
use mathlib.Core.List.{List, [], ◌∷◌, nil≢cons, head-eq_of_cons-eq}
use mathlib.Core.Logic.{◌⊎◌, inl, inr}
use mathlib.Core.Path.{◌≡◌, refl, sym, ap, ◌∙◌, subst}
use Prim.Native.Nat.{ℕ, suc, ◌+◌, ◌-◌, ◌/◌, ◌%◌, ◌≤◌, ◌<◌}
use native.Mathlib.Decide.{ℕ_discrete, dec_lt}
use native.Mathlib.Omega.{arith}
use lib.Dec.{eqb}
use lib.ListN.{length, get_or, take, drop, length-drop, drop_of_length-le}
use lib.Seq.{drop-cons, take_all}
use borrow.Author.Tests.{eq-eqb, ne_eqb}
use Rattle.std.specs.Prelude.{Option, Some, None}
use Rattle.std.proofs.lemmas.Option.{none-some, cond_some}
use Rattle.block.specs.Limits.{DOTS}
use Rattle.block.specs.Block.{prods, rule_of, body_of}
use Rattle.block.specs.Refusal.{Good}
use Rattle.block.specs.Sets.{join}
use Rattle.block.specs.First.{Ahead, ahead, ahead_of, firsts_of, AheadIs, Small}
use Rattle.block.specs.declared.lookahead.Lookahead.{Lookahead}
use Rattle.block.proofs.AheadRest.{ahead-eta}
use Rattle.itemset.specs.declared.closure.Closure.{Closure}
use Rattle.itemset.specs.Rows.{Item}
use Rattle.itemset.specs.Close.{rest_of, handed}
use Rattle.itemset.specs.Opens.{Opens, offer_at, offer_of}
use Rattle.itemset.specs.Work.{Sized, Took, Fed, HandedOn}
use Rattle.itemset.proofs.Rest.{rest-small}
use Rattle.itemset.proofs.GoodReady.{good-ready}
use Rattle.itemset.proofs.Work.Cells.{same_refl}

module _ (b : List ℕ) (i : ℕ) where
  -- an item opens a production or it does not
  pub opens-or : (q : ℕ) → ((w : List ℕ) × Opens b i q w) ⊎ ((w : List ℕ) → Opens b i q w → ⊥)
  opens-or q = go (rest_of b i) refl
    where
      by : (x : ℕ) (w : List ℕ) → rest_of b i ≡ x ∷ w → (c : Bool) → eqb (x % 2) 0 ≡ c → Dec (q < prods b) → Dec (rule_of b q ≡ x / 2)
          → ((w : List ℕ) × Opens b i q w) ⊎ ((w : List ℕ) → Opens b i q w → ⊥)
      by x w e true v (yes l) (yes r) = inl (w, record { sym_at = x; is-rest = e; even = v; below = l; is-rule = r })
      by x w e true v (yes l) (no r) = inr (λ u o. r (o.is-rule ∙ ap (λ (n : ℕ). n / 2) (head-eq_of_cons-eq (sym o.is-rest ∙ e))))
      by x w e true v (no l) r = inr (λ u o. l o.below)
      by x w e false v l r =
          inr (λ u o. true≢false (sym o.even ∙ ap (λ (n : ℕ). eqb (n % 2) 0) (head-eq_of_cons-eq (sym o.is-rest ∙ e)) ∙ v))

      go : (u : List ℕ) → rest_of b i ≡ u → ((w : List ℕ) × Opens b i q w) ⊎ ((w : List ℕ) → Opens b i q w → ⊥)
      go [] e = inr (λ w o. nil≢cons (sym e ∙ o.is-rest))
      go (x ∷ w) e = by x w e (eqb (x % 2) 0) refl (dec_lt q (prods b)) (ℕ_discrete (rule_of b q) (x / 2))

  module _ (F : List Ahead) (s : List ℕ) where
    offer-rest : (u : List ℕ) → rest_of b i ≡ u → offer_of b F i s ≡ offer_at F s u
    unfolding offer_of
    offer-rest u e = ap (offer_at F s) e

    -- ---- for the productions opened
    there : (q : ℕ) (w : List ℕ) → Opens b i q w → offer_of b F i s ≡ Some (rule_of b q, handed s (ahead_of F w))
    there q w o =
        offer-rest (o.sym_at ∷ w) o.is-rest
        ∙ ap (λ (c : Bool). cond c (Some (o.sym_at / 2, handed s (ahead_of F w))) None) o.even
        ∙ ap (λ (n : ℕ). Some (n, handed s (ahead_of F w))) (sym o.is-rule)

    -- no rule is offered
    pub none-handed : offer_of b F i s ≡ None → (y : Closure) → Sized y → HandedOn b F i s y y
    none-handed is y S =
        record {
          size = S;
          took = λ q w o. absurd (none-some (rule_of b q, handed s (ahead_of F w)) (sym is ∙ there q w o));
          left = λ q n. same_refl y q;
          cause = λ q t. inl t;
        }

    module _ (rule : ℕ) (set : List ℕ) (is : offer_of b F i s ≡ Some (rule, set)) where
      back : (q : ℕ) → q < prods b → rule_of b q ≡ rule → (w : List ℕ) × Opens b i q w
      unfolding offer_of
      back q l e = go (rest_of b i) refl is
        where
          go : (u : List ℕ) → rest_of b i ≡ u → offer_at F s u ≡ Some (rule, set) → (w : List ℕ) × Opens b i q w
          go [] f o = absurd (none-some (rule, set) o)
          go (x ∷ w) f o =
              let h = cond_some (eqb (x % 2) 0) (x / 2, handed s (ahead_of F w)) (rule, set) o in
              (w, record { sym_at = x; is-rest = f; even = h.0; below = l; is-rule = e ∙ sym (ap (λ (a : ℕ × List ℕ). a.0) h.1) })

      -- the productions of the rule offered took the set offered
      pub fed-handed : (y z : Closure) → Fed b rule set (prods b) y z → HandedOn b F i s y z
      fed-handed y z I =
          record {
            size = I.size;
            took = λ q w o.
                let e = (cond_some true (rule_of b q, handed s (ahead_of F w)) (rule, set) (sym (there q w o) ∙ is)).1 in
                subst (λ u. Took u y z q) (sym (ap (λ (a : ℕ × List ℕ). a.1) e)) (I.took q o.below (ap (λ (a : ℕ × List ℕ). a.0) e));
            left = λ q n. I.left q (λ l e. let r = back q l e in n r.0 r.1);
            cause = I.cause;
          }

-- ---- by what stands behind the dot: body is the right side
module _ (b : List ℕ) (i : ℕ) (body : List ℕ) (is : body ≡ body_of b (i / DOTS)) where
  rest-of : rest_of b i ≡ drop (i % DOTS) body
  unfolding rest_of
  rest-of = ap (λ (u : List ℕ). drop (i % DOTS) u) (sym is)

  rest_at : i % DOTS < length body
      → rest_of b i ≡ get_or body (i % DOTS) 0 ∷ take (length body - (i % DOTS + 1)) (drop (i % DOTS + 1) body)
  rest_at l =
      rest-of ∙ drop-cons body (i % DOTS) 0 l
      ∙ ap {B = List ℕ} (λ u. get_or body (i % DOTS) 0 ∷ u)
      (ap (λ (n : ℕ). drop n body) (let z : suc (i % DOTS) ≡ i % DOTS + 1 = omega arith in z)
      ∙ sym (take_all (length body - (i % DOTS + 1)) (drop (i % DOTS + 1) body) (simp length-drop (omega arith))))

  -- what follows the symbol at the dot is within the limits
  pub after_small : Good b → Item b i → i % DOTS < length body → Small (take (length body - (i % DOTS + 1)) (drop (i % DOTS + 1) body))
  after_small g I l = (rest-small b (firsts_of b) (good-ready g) i _ _ I.prod (rest_at l)).1

  module _ (F : List Ahead) (s : List ℕ) where
    offers : (u : List ℕ) → rest_of b i ≡ u → (a : Option (ℕ × List ℕ)) → offer_at F s u ≡ a → a ≡ offer_of b F i s
    offers u e a f = sym (offer-rest b i F s u e ∙ f)

    pub offer-end : length body ≤ i % DOTS → None ≡ offer_of b F i s
    offer-end l = offers [] (rest-of ∙ drop_of_length-le body {i = i % DOTS} l) None refl

    module _ (l : i % DOTS < length body) where
      pub offer-token : get_or body (i % DOTS) 0 % 2 ≡ 1 → None ≡ offer_of b F i s
      offer-token e =
          offers _ (rest_at l) None
          (ap (λ (c : Bool). cond c (Some (get_or body (i % DOTS) 0 / 2, handed s (ahead_of F (take (length body - (i % DOTS + 1)) (drop (i % DOTS + 1) body))))) None)
          (ne_eqb (get_or body (i % DOTS) 0 % 2) 0 (λ z. omega arith)))

      -- a is ahead in the rest behind the rule, and u what is handed on
      module _ (e : get_or body (i % DOTS) 0 % 2 ≡ 0) (a : Lookahead)
          (A : AheadIs a (ahead_of F (take (length body - (i % DOTS + 1)) (drop (i % DOTS + 1) body)))) (u : List ℕ) where
        given : u ≡ handed s (ahead a.null a.set.words) → Some (get_or body (i % DOTS) 0 / 2, u) ≡ offer_of b F i s
        given w =
            offers _ (rest_at l) (Some (get_or body (i % DOTS) 0 / 2, u))
            (ap (λ (c : Bool). cond c (Some (get_or body (i % DOTS) 0 / 2, handed s (ahead_of F (take (length body - (i % DOTS + 1)) (drop (i % DOTS + 1) body))))) None)
            (eq-eqb (get_or body (i % DOTS) 0 % 2) 0 e)
            ∙ ap (λ (c : Ahead). Some (get_or body (i % DOTS) 0 / 2, handed s c)) (ahead-eta _ a.null a.set.words A.null A.words)
            ∙ ap (λ (v : List ℕ). Some (get_or body (i % DOTS) 0 / 2, v)) (sym w))

        -- the rest is nullable: the own context too
        pub offer-own : a.null ≡ true → u ≡ join a.set.words s → Some (get_or body (i % DOTS) 0 / 2, u) ≡ offer_of b F i s
        unfolding handed
        offer-own n w = given (w ∙ ap (λ (c : Bool). handed s (ahead c a.set.words)) (sym n))

        pub offer-first : a.null ≡ false → u ≡ a.set.words → Some (get_or body (i % DOTS) 0 / 2, u) ≡ offer_of b F i s
        unfolding handed
        offer-first n w = given (w ∙ ap (λ (c : Bool). handed s (ahead c a.set.words)) (sym n))
