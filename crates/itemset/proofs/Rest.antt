-- What stands behind a dot, in the rows and in the grammar. Assumes nothing.
use mathlib.Core.Bool.{Bool, true, false, cond}
use mathlib.Core.List.{List, [], ◌∷◌, map, nil≢cons, head-eq_of_cons-eq, tail-eq_of_cons-eq}
use mathlib.Core.Path.{◌≡◌, refl, sym, ap, ap₂, ◌∙◌, subst}
use Prim.Native.Nat.{ℕ, zero, suc, ◌+◌, ◌*◌, ◌/◌, ◌%◌, ◌<◌}
use native.Mathlib.Omega.{arith}
use lib.Dec.{eqb}
use lib.ListN.{drop}
use borrow.Author.Tests.{eqb-true, eqb-false}
use Rattle.knuth.specs.Grammar.{Sym, rule, token, In}
use Rattle.knuth.specs.Closure.{After}
use Rattle.knuth.proofs.Lists.{drop-lt, drop-mem}
use Rattle.block.specs.Limits.{DOTS}
use Rattle.block.specs.Block.{prods, length_of, body_of}
use Rattle.block.specs.Grammar.{symbol, grammar_of}
use Rattle.block.specs.First.{Ahead, Within, Small}
use Rattle.itemset.specs.Rows.{Item}
use Rattle.itemset.specs.Close.{rest_of}
use Rattle.itemset.specs.Ready.{Ready}
use Rattle.itemset.proofs.RowLaws.{item-prod, item-dot}

-- ---- symbols as numbers
pub symbol-even : (x : ℕ) → eqb (x % 2) 0 ≡ true → symbol x ≡ rule (x / 2)
symbol-even x e = ap {B = Sym} (λ c. cond c (rule (x / 2)) (token (x / 2))) e

pub symbol-rule : (x r : ℕ) → symbol x ≡ rule r → (eqb (x % 2) 0 ≡ true) × (r ≡ x / 2)
symbol-rule x r e = go (eqb (x % 2) 0) e
  where
    go : (c : Bool) → cond c (rule (x / 2)) (token (x / 2)) ≡ rule r → (c ≡ true) × (r ≡ x / 2)
    go true e = (refl, cc)
    go false e = let z : ◌≡◌ {A = ℕ} 0 1 = cc in absurd (omega arith)

pub symbol-injective : (x y : ℕ) → symbol x ≡ symbol y → x ≡ y
symbol-injective x y e = go (eqb (x % 2) 0) refl (eqb (y % 2) 0) refl e
  where
    go : (a : Bool) → eqb (x % 2) 0 ≡ a → (c : Bool) → eqb (y % 2) 0 ≡ c
        → cond a (rule (x / 2)) (token (x / 2)) ≡ cond c (rule (y / 2)) (token (y / 2)) → x ≡ y
    go true h true k e = let z : x / 2 ≡ y / 2 = cc in let m = eqb-true (x % 2) 0 h in let n = eqb-true (y % 2) 0 k in omega arith
    go false h false k e =
        let z : x / 2 ≡ y / 2 = cc in
        let m : x % 2 ≡ 1 = odd (x % 2) (omega arith) (eqb-false (x % 2) 0 h) in
        let n : y % 2 ≡ 1 = odd (y % 2) (omega arith) (eqb-false (y % 2) 0 k) in
        omega arith
      where
        odd : (n : ℕ) → n < 2 → (n ≡ 0 → ⊥) → n ≡ 1
        odd n l d = omega arith
    go true h false k e = let z : ◌≡◌ {A = ℕ} 0 1 = cc in absurd (omega arith)
    go false h true k e = let z : ◌≡◌ {A = ℕ} 0 1 = cc in absurd (omega arith)

-- ---- what is behind the dot
drop-map : (d : ℕ) (l : List ℕ) → drop d (map symbol l) ≡ map symbol (drop d l)
drop-map zero l = refl
drop-map (suc d) [] = refl
drop-map (suc d) (x ∷ l) = drop-map d l

pub rest-after : (b : List ℕ) (k x : ℕ) (w : List ℕ) → rest_of b k ≡ x ∷ w → After (grammar_of b) (k / DOTS) (k % DOTS) (symbol x) (map symbol w)
unfolding rest_of
rest-after b k x w e = drop-map (k % DOTS) (body_of b (k / DOTS)) ∙ ap (map symbol) e

-- a symbol behind a dot, read in the rows
pub record Behind (b : List ℕ) (i : ℕ) (X : Sym) (w : List Sym) : Type 0 where
  pub sym_at : ℕ
  pub rest : List ℕ
  pub is-rest : rest_of b i ≡ sym_at ∷ rest
  pub is-sym : symbol sym_at ≡ X
  pub is-w : map symbol rest ≡ w

pub after-rest : (b : List ℕ) (p d : ℕ) (X : Sym) (w : List Sym) → d < DOTS → After (grammar_of b) p d X w → Behind b (DOTS * p + d) X w
unfolding rest_of
after-rest b p d X w l a =
    go (drop d (body_of b p)) (ap₂ (λ m n. drop m (body_of b n)) (item-dot p d l) (item-prod p d l)) (sym (drop-map d (body_of b p)) ∙ a)
  where
    go : (u : List ℕ) → rest_of b (DOTS * p + d) ≡ u → map symbol u ≡ X ∷ w → Behind b (DOTS * p + d) X w
    go [] e m = absurd (nil≢cons m)
    go (x ∷ u) e m = record { sym_at = x; rest = u; is-rest = e; is-sym = head-eq_of_cons-eq m; is-w = tail-eq_of_cons-eq m }

-- ---- what is known of it
drop-small : (d : ℕ) (l : List ℕ) → Small l → Small (drop d l)
drop-small zero l h = h
drop-small (suc d) [] h = h
drop-small (suc d) (x ∷ l) h = drop-small d l h.1

module _ (b : List ℕ) (F : List Ahead) (ready : Ready b F) (i x : ℕ) (w : List ℕ) (l : i / DOTS < prods b) (e : rest_of b i ≡ x ∷ w) where
  -- the numbers are within the limits
  pub rest-small : Within x × Small w
  unfolding rest_of
  rest-small = subst Small e (drop-small (i % DOTS) (body_of b (i / DOTS)) (ready.bodies (i / DOTS) l))

  -- the symbol is one of the grammar
  pub rest-inside : In (grammar_of b) (symbol x)
  rest-inside = ready.inside (i / DOTS) l (symbol x) (drop-mem (i % DOTS) (map symbol (body_of b (i / DOTS))) (rest-after b i x w e))

  -- the dot is not at the end
  pub rest_more : i % DOTS < length_of b (i / DOTS)
  unfolding rest_of
  rest_more = omega (arith, drop-lt (i % DOTS) (body_of b (i / DOTS)) e, ready.lengthy (i / DOTS) l)

  -- so the item with the dot moved is of the same production
  pub rest-next : (suc i / DOTS ≡ i / DOTS) × (suc i % DOTS ≡ suc (i % DOTS))
  rest-next = let a = rest_more in let c = ready.short (i / DOTS) l in (omega arith, omega arith)

  pub next-item : Item b (suc i)
  next-item = let a = rest_more in record { prod = rw rest-next.0 l; dot = rw (rest-next.0, rest-next.1) a }
