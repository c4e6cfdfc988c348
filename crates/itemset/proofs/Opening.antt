-- The productions of a rule, and what `opening` and `give` do with them. Assumes nothing.
use mathlib.Core.Bool.{Bool, true, false, cond}
use mathlib.Core.List.{List, [], ◌∷◌, foldl}
use mathlib.Core.Logic.{inl, inr}
use mathlib.Core.Path.{◌≡◌, refl, sym, subst}
use Prim.Native.Nat.{ℕ, ◌*◌, ◌/◌, ◌%◌, ◌<◌}
use lib.Dec.{eqb}
use borrow.Author.Tests.{eqb-true, eq-eqb}
use Rattle.block.specs.Limits.{DOTS}
use Rattle.block.specs.Lists.{upto}
use Rattle.block.specs.Block.{prods, rule_of, prods_of}
use Rattle.block.specs.First.{Ahead, ahead_of}
use Rattle.block.proofs.ListLaws.{Among, upto-among, upto-only}
use Rattle.itemset.specs.Rows.{Row, row}
use Rattle.itemset.specs.Close.{put, rest_of, handed, opening, give}
use Rattle.itemset.specs.Opens.{Opens}
use Rattle.itemset.proofs.Members.{keep-among, keep-only}

-- ---- the productions of a rule
pub prods_of-among : (b : List ℕ) (q : ℕ) → q < prods b → Among q (prods_of b (rule_of b q))
unfolding prods_of
prods_of-among b q h =
    keep-among (λ p. eqb (rule_of b p) (rule_of b q)) q (eq-eqb (rule_of b q) (rule_of b q) refl) (upto (prods b)) (upto-among (prods b) q h)

pub prods_of-only : (b : List ℕ) (r q : ℕ) → Among q (prods_of b r) → (q < prods b) × (rule_of b q ≡ r)
unfolding prods_of
prods_of-only b r q m =
    let k = keep-only (λ p. eqb (rule_of b p) r) q (upto (prods b)) m in
    (upto-only (prods b) q k.0, eqb-true (rule_of b q) r k.1)

-- ---- all of them come in
opening-ind : (P : List Row → Type 0) (s : List ℕ) (qs : List ℕ) → ((q : ℕ) (a : List Row) → Among q qs → P a → P (put (DOTS * q) s a))
    → (rs : List Row) → P rs → P (foldl (λ a q. put (DOTS * q) s a) rs qs)
opening-ind P s [] step rs h = h
opening-ind P s (q ∷ qs) step rs h = opening-ind P s qs (λ q' a m k. step q' a (inr m) k) (put (DOTS * q) s rs) (step q rs (inl refl) h)

-- a property that every `put` of a production of r keeps
opening-keeps : (P : List Row → Type 0) (b : List ℕ) (r : ℕ) (s : List ℕ)
    → ((q : ℕ) (a : List Row) → q < prods b → rule_of b q ≡ r → P a → P (put (DOTS * q) s a)) → (rs : List Row) → P rs → P (opening b r s rs)
unfolding opening
opening-keeps P b r s step rs h = opening-ind P s (prods_of b r) (λ q a m k. let e = prods_of-only b r q m in step q a e.0 e.1 k) rs h

-- what the `put` of one production gives and the others keep
opening-gives-ind : (P : List Row → Type 0) (s : List ℕ) (q : ℕ) → ((a : List Row) → P (put (DOTS * q) s a))
    → ((i : ℕ) (a : List Row) → P a → P (put i s a)) → (qs : List ℕ) → Among q qs → (rs : List Row) → P (foldl (λ a q. put (DOTS * q) s a) rs qs)
opening-gives-ind P s q gives keeps [] m rs = absurd m
opening-gives-ind P s q gives keeps (x ∷ qs) (inl e) rs =
    opening-ind P s qs (λ q' a n k. keeps (DOTS * q') a k) (put (DOTS * x) s rs) (subst (λ n. P (put (DOTS * n) s rs)) e (gives rs))
opening-gives-ind P s q gives keeps (x ∷ qs) (inr m) rs = opening-gives-ind P s q gives keeps qs m (put (DOTS * x) s rs)

opening-gives : (P : List Row → Type 0) (b : List ℕ) (s : List ℕ) (q : ℕ) → q < prods b → ((a : List Row) → P (put (DOTS * q) s a))
    → ((i : ℕ) (a : List Row) → P a → P (put i s a)) → (rs : List Row) → P (opening b (rule_of b q) s rs)
unfolding opening
opening-gives P b s q h gives keeps rs = opening-gives-ind P s q gives keeps (prods_of b (rule_of b q)) (prods_of-among b q h) rs

-- ---- what one row gives
module _ (P : List Row → Type 0) (b : List ℕ) (F : List Ahead) (rs : List Row) (i : ℕ) (s : List ℕ) where
  -- a property that the `put` of each production so opened keeps
  pub give-keeps : ((q : ℕ) (w : List ℕ) (a : List Row) → Opens b i q w → P a → P (put (DOTS * q) (handed s (ahead_of F w)) a))
      → P rs → P (give b F rs (row i s))
  unfolding give
  give-keeps step h = go (rest_of b i) refl
    where
      even : (x : ℕ) (w : List ℕ) → rest_of b i ≡ x ∷ w → (c : Bool) → eqb (x % 2) 0 ≡ c
          → P (cond c (opening b (x / 2) (handed s (ahead_of F w)) rs) rs)
      even x w e false v = h
      even x w e true v =
          opening-keeps P b (x / 2) (handed s (ahead_of F w))
          (λ q a l r k. step q w a (record { sym_at = x; is-rest = e; even = v; below = l; is-rule = r }) k) rs h

      go : (l : List ℕ) → rest_of b i ≡ l → P (elim l [ [] ↦ rs | x ∷ w ↦ cond (eqb (x % 2) 0) (opening b (x / 2) (handed s (ahead_of F w)) rs) rs ])
      go [] e = h
      go (x ∷ w) e = even x w e (eqb (x % 2) 0) refl

  -- what the `put` of one of them gives and the others keep
  pub give-gives : (q : ℕ) (w : List ℕ) → Opens b i q w → ((a : List Row) → P (put (DOTS * q) (handed s (ahead_of F w)) a))
      → ((j : ℕ) (a : List Row) → P a → P (put j (handed s (ahead_of F w)) a)) → P (give b F rs (row i s))
  unfolding give
  give-gives q w o gives keeps =
      subst (λ l. P (elim l [ [] ↦ rs | x ∷ w ↦ cond (eqb (x % 2) 0) (opening b (x / 2) (handed s (ahead_of F w)) rs) rs ])) (sym o.is-rest)
      (subst (λ c. P (cond c (opening b (o.sym_at / 2) (handed s (ahead_of F w)) rs) rs)) (sym o.even)
      (subst (λ r. P (opening b r (handed s (ahead_of F w)) rs)) o.is-rule (opening-gives P b (handed s (ahead_of F w)) q o.below gives keeps rs)))
