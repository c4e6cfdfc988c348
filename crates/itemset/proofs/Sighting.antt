-- The symbols behind the dots of rows: each once, and no other. Assumes nothing.
use mathlib.Core.Bool.{Bool, true, false, cond, true≢false}
use mathlib.Core.List.{List, [], ◌∷◌, ◌++◌, foldl, foldl-append, nil≢cons, head-eq_of_cons-eq}
use mathlib.Core.Logic.{◌⊎◌, inl, inr}
use mathlib.Core.Path.{◌≡◌, refl, sym, ap, ◌∙◌, subst}
use Prim.Native.Nat.{ℕ, suc, ◌<◌}
use lib.Dec.{eqb}
use lib.ListN.{length, get_or, take}
use lib.Seq.{take-suc}
use Rattle.block.specs.Lists.{any}
use Rattle.block.proofs.ListLaws.{Among}
use Rattle.itemset.specs.Rows.{Row, row, Present}
use Rattle.itemset.specs.Close.{rest_of}
use Rattle.itemset.specs.Goto.{sight, sights_of}
use Rattle.itemset.proofs.Words.{no_row}
use Rattle.itemset.proofs.Members.{any-among, among-left, among-right, among-either}
use Rattle.itemset.proofs.Distinct.{Distinct, distinct_snoc}

-- x stands behind the dot of a row
pub record Sighted (b : List ℕ) (x : ℕ) (rs : List Row) : Type 0 where
  pub item : ℕ
  pub there : Present item rs
  pub rest : List ℕ
  pub is-rest : rest_of b item ≡ x ∷ rest

-- ---- one row more
pub sights-append : (b : List ℕ) (rs ss : List Row) → sights_of b (rs ++ ss) ≡ foldl (sight b) (sights_of b rs) ss
unfolding sights_of
sights-append b rs ss = foldl-append (sight b) [] rs ss

pub sights-snoc : (b : List ℕ) (rs : List Row) (r : Row) → sights_of b (rs ++ (r ∷ [])) ≡ sight b (sights_of b rs) r
sights-snoc b rs r = sights-append b rs (r ∷ [])

pub sights-take : (b : List ℕ) (rs : List Row) (i : ℕ) → i < length rs
    → sights_of b (take (suc i) rs) ≡ sight b (sights_of b (take i rs)) (get_or rs i no_row)
sights-take b rs i l = ap (sights_of b) (take-suc rs i no_row l) ∙ sights-snoc b (take i rs) (get_or rs i no_row)

-- the three cases of a row, for code
pub sight-end : (b seen : List ℕ) (i : ℕ) (s : List ℕ) → rest_of b i ≡ [] → sight b seen (row i s) ≡ seen
unfolding sight
sight-end b seen i s e = ap {B = List ℕ} (λ l. elim l [ [] ↦ seen | x ∷ w ↦ cond (any (eqb x) seen) seen (seen ++ (x ∷ [])) ]) e

sight-is : (b seen : List ℕ) (i : ℕ) (s : List ℕ) (x : ℕ) (w : List ℕ) → rest_of b i ≡ x ∷ w
    → sight b seen (row i s) ≡ cond (any (eqb x) seen) seen (seen ++ (x ∷ []))
unfolding sight
sight-is b seen i s x w e = ap {B = List ℕ} (λ l. elim l [ [] ↦ seen | x ∷ w ↦ cond (any (eqb x) seen) seen (seen ++ (x ∷ [])) ]) e

pub sight-old : (b seen : List ℕ) (i : ℕ) (s : List ℕ) (x : ℕ) (w : List ℕ) → rest_of b i ≡ x ∷ w → any (eqb x) seen ≡ true
    → sight b seen (row i s) ≡ seen
sight-old b seen i s x w e h = sight-is b seen i s x w e ∙ ap (λ c. cond c seen (seen ++ (x ∷ []))) h

pub sight-new : (b seen : List ℕ) (i : ℕ) (s : List ℕ) (x : ℕ) (w : List ℕ) → rest_of b i ≡ x ∷ w → any (eqb x) seen ≡ false
    → sight b seen (row i s) ≡ seen ++ (x ∷ [])
sight-new b seen i s x w e h = sight-is b seen i s x w e ∙ ap (λ c. cond c seen (seen ++ (x ∷ []))) h

-- the cases for a property
sight-cases : (P : List ℕ → Type 0) (b seen : List ℕ) (i : ℕ) (s : List ℕ) → (rest_of b i ≡ [] → P seen)
    → ((x : ℕ) (w : List ℕ) → rest_of b i ≡ x ∷ w → Among x seen → P seen)
    → ((x : ℕ) (w : List ℕ) → rest_of b i ≡ x ∷ w → (Among x seen → ⊥) → P (seen ++ (x ∷ []))) → P (sight b seen (row i s))
sight-cases P b seen i s none old new = go (rest_of b i) refl
  where
    found : (x : ℕ) (w : List ℕ) → rest_of b i ≡ x ∷ w → (c : Bool) → any (eqb x) seen ≡ c → P (sight b seen (row i s))
    found x w e true h = subst P (sym (sight-old b seen i s x w e h)) (old x w e ((any-among x seen).0 h))
    found x w e false h = subst P (sym (sight-new b seen i s x w e h)) (new x w e (λ m. true≢false (sym ((any-among x seen).1 m) ∙ h)))

    go : (l : List ℕ) → rest_of b i ≡ l → P (sight b seen (row i s))
    go [] e = subst P (sym (sight-end b seen i s e)) (none e)
    go (x ∷ w) e = found x w e (any (eqb x) seen) refl

module _ (b : List ℕ) where
  -- ---- each once
  fold-distinct : (rs : List Row) (seen : List ℕ) → Distinct seen → Distinct (foldl (sight b) seen rs)
  fold-distinct [] seen d = d
  fold-distinct (row i s ∷ rs) seen d =
      fold-distinct rs (sight b seen (row i s)) (sight-cases Distinct b seen i s (λ e. d) (λ x w e m. d) (λ x w e n. distinct_snoc seen x d n))

  pub sights-distinct : (rs : List Row) → Distinct (sights_of b rs)
  unfolding sights_of
  sights-distinct rs = fold-distinct rs [] tt

  -- ---- all of them
  fold-keeps : (x : ℕ) (rs : List Row) (seen : List ℕ) → Among x seen → Among x (foldl (sight b) seen rs)
  fold-keeps x [] seen m = m
  fold-keeps x (row i s ∷ rs) seen m =
      fold-keeps x rs (sight b seen (row i s)) (sight-cases (Among x) b seen i s (λ e. m) (λ y w e k. m) (λ y w e n. among-left x seen (y ∷ []) m))

  sight-finds : (x : ℕ) (w : List ℕ) (seen : List ℕ) (i : ℕ) (s : List ℕ) → rest_of b i ≡ x ∷ w → Among x (sight b seen (row i s))
  sight-finds x w seen i s e =
      sight-cases (Among x) b seen i s (λ f. absurd (nil≢cons (sym f ∙ e)))
      (λ y v f m. subst (λ n. Among n seen) (head-eq_of_cons-eq (sym f ∙ e)) m)
      (λ y v f n. among-right x seen (y ∷ []) (inl (sym (head-eq_of_cons-eq (sym f ∙ e)))))

  fold-finds : (x : ℕ) (w : List ℕ) (k : ℕ) → rest_of b k ≡ x ∷ w → (rs : List Row) (seen : List ℕ) → Present k rs
      → Among x (foldl (sight b) seen rs)
  fold-finds x w k e [] seen m = absurd m
  fold-finds x w k e (row i s ∷ rs) seen (inl h) =
      fold-keeps x rs (sight b seen (row i s)) (sight-finds x w seen i s (ap (rest_of b) (sym h) ∙ e))
  fold-finds x w k e (row i s ∷ rs) seen (inr m) = fold-finds x w k e rs (sight b seen (row i s)) m

  pub sights-all : (x : ℕ) (rs : List Row) → Sighted b x rs → Among x (sights_of b rs)
  unfolding sights_of
  sights-all x rs S = fold-finds x S.rest S.item S.is-rest rs [] S.there

  -- ---- and no other
  deeper : (x i : ℕ) (s : List ℕ) (rs : List Row) → Sighted b x rs → Sighted b x (row i s ∷ rs)
  deeper x i s rs S = record { item = S.item; there = inr S.there; rest = S.rest; is-rest = S.is-rest }

  sight-only : (x : ℕ) (seen : List ℕ) (i : ℕ) (s : List ℕ) (rs : List Row) → Among x (sight b seen (row i s))
      → Among x seen ⊎ Sighted b x (row i s ∷ rs)
  sight-only x seen i s rs =
      sight-cases (λ u. Among x u → Among x seen ⊎ Sighted b x (row i s ∷ rs)) b seen i s (λ e m. inl m) (λ y w e k m. inl m)
      (λ y w e n m.
      elim (among-either x seen (y ∷ []) m) [
        | inl h ↦ inl h
        | inr h ↦ elim h [ inl f ↦ inr (record { item = i; there = inl refl; rest = w; is-rest = e ∙ ap {B = List ℕ} (λ z. z ∷ w) (sym f) }) | inr z ↦ absurd z ]
      ])

  fold-only : (x : ℕ) (rs : List Row) (seen : List ℕ) → Among x (foldl (sight b) seen rs) → Among x seen ⊎ Sighted b x rs
  fold-only x [] seen m = inl m
  fold-only x (row i s ∷ rs) seen m =
      elim (fold-only x rs (sight b seen (row i s)) m) [ inl h ↦ sight-only x seen i s rs h | inr h ↦ inr (deeper x i s rs h) ]

  pub sights-only : (x : ℕ) (rs : List Row) → Among x (sights_of b rs) → Sighted b x rs
  unfolding sights_of
  sights-only x rs m = elim (fold-only x rs [] m) [ inl h ↦ absurd h | inr h ↦ h ]
