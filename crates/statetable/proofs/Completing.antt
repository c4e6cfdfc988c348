-- The events of complete items: one for each token that the closure has of a production with its dot at the end, and none twice. Assumes nothing.
use mathlib.Core.Bool.{Bool, true, false, cond}
use mathlib.Core.List.Memᴰ
use mathlib.Core.List.{List, [], ◌∷◌, map, Memᴰ}
use mathlib.Core.Logic.{inl, inr, ◌≢◌, ⊎_elim}
use mathlib.Core.Path.{◌≡◌, refl, sym, ap, ap₂, subst, ◌∙◌}
use Prim.Native.Nat.{ℕ, zero, suc, ◌+◌, ◌*◌, ◌/◌, ◌%◌, ◌<◌, ◌≤◌}
use native.Mathlib.Omega.{arith}
use lib.ListN.{length, drop, length-drop, length-map, drop_of_length-le}
use Rattle.knuth.specs.Closure.{Holds}
use Rattle.block.specs.Limits.{DOTS}
use Rattle.block.specs.Lists.{keep, from, upto}
use Rattle.block.specs.Block.{tokens, body_of}
use Rattle.block.specs.Grammar.{symbol, grammar_of}
use Rattle.block.specs.Sets.{mem, members, In}
use Rattle.block.specs.First.{Ahead}
use Rattle.block.proofs.ListLaws.{Among, upto-among, upto-only}
use Rattle.itemset.specs.Rows.{Row, row, Present, From, Item, Rows}
use Rattle.itemset.specs.Kernel.{kernel_of}
use Rattle.itemset.specs.Close.{rest_of, close_of}
use Rattle.itemset.specs.Ready.{Ready}
use Rattle.itemset.proofs.Has.{Has, has-present, has-token, token-has}
use Rattle.itemset.proofs.RowLaws.{from-present, item-prod, item-dot}
use Rattle.itemset.proofs.Members.{keep-among, keep-only}
use Rattle.itemset.proofs.Distinct.{Distinct}
use Rattle.itemset.proofs.Fuel.{close-rows}
use Rattle.itemset.proofs.Rule2.{token-holds, holds-token}
use Rattle.pager.specs.Lists.{each}
use Rattle.statetable.specs.Events.{Event, completes, completed, of_row}
use Rattle.statetable.proofs.Pairs.{Pairs, pairs-append}
use Rattle.statetable.proofs.Meeting.{Before}

-- ---- the members of a set are none twice
from_low : (n k q : ℕ) → Among q (from k n) → k ≤ q
unfolding from
from_low zero k q m = absurd m
from_low (suc n) k q (inl e) = omega arith
from_low (suc n) k q (inr m) = let h = from_low n (suc k) q m in omega arith

keep-distinct : (f : ℕ → Bool) (n k : ℕ) → Distinct (keep f (from k n))
unfolding keep from
keep-distinct f zero k = tt
keep-distinct f (suc n) k = go (f k) (keep-distinct f n (suc k))
  where
    go : (c : Bool) → Distinct (keep f (from (suc k) n)) → Distinct (cond c (k ∷ keep f (from (suc k) n)) (keep f (from (suc k) n)))
    go true d = (λ m. let h = from_low n (suc k) k (keep-only f k (from (suc k) n) m).0 in omega arith, d)
    go false d = d

members-distinct : (n : ℕ) (ws : List ℕ) → Distinct (members n ws)
unfolding members upto
members-distinct n ws = keep-distinct (mem ws) n 0

-- ---- a complete item: an event at each of its tokens
completed-all : (w : List ℕ) (p t : ℕ) (ts : List ℕ) → w ≡ [] → Among t ts → Memᴰ (completes t p) (completed w p ts)
completed-all w p t ts e m = subst (λ w. Memᴰ (completes t p) (completed w p ts)) (sym e) (go ts m)
  where
    go : (ts : List ℕ) → Among t ts → Memᴰ (completes t p) (map (λ t. completes t p) ts)
    go [] m = absurd m
    go (u ∷ ts) (inl e) = Memᴰ.head (ap {B = Event} (λ t. completes t p) e)
    go (u ∷ ts) (inr m) = Memᴰ.tail (go ts m)

completed-only : (w : List ℕ) (p : ℕ) (ts : List ℕ) (e : Event) → Memᴰ e (completed w p ts) → (t : ℕ) × (e ≡ completes t p) × (w ≡ []) × Among t ts
completed-only (x ∷ w) p ts e m = absurd (Memᴰ.not-nil m)
completed-only [] p ts e m = go ts m
  where
    go : (ts : List ℕ) → Memᴰ e (map (λ t. completes t p) ts) → (t : ℕ) × (e ≡ completes t p) × (◌≡◌ {A = List ℕ} [] []) × Among t ts
    go [] m = absurd (Memᴰ.not-nil m)
    go (t ∷ ts) m =
        ⊎_elim (λ k. (t, k, refl, inl refl)) (λ n. let (u, k, r, a) = go ts n in (u, k, r, inr a)) (Memᴰ.cases_cons m)

completed-pairs : (b w : List ℕ) (p : ℕ) (ts : List ℕ) → Distinct ts → Pairs (Before b) (completed w p ts)
completed-pairs b (x ∷ w) p ts d = tt
completed-pairs b [] p [] d = tt
completed-pairs b [] p (t ∷ ts) d = (
  λ y m.
      let (u, e, _, a) = completed-only [] p ts y m in
      subst (λ y. Before b (completes t p) y) (sym e) (λ k _. d.0 (subst (λ n. Among n ts) (sym k) a)),
  completed-pairs b [] p ts d.1,
)

-- ---- an event of rows: a complete item of theirs, and a token of its context
pub record Complete (b : List ℕ) (C : List Row) (e : Event) : Type 0 where
  pub item : ℕ
  pub context : List ℕ
  pub token : ℕ
  pub is : e ≡ completes token (item / DOTS)
  pub there : Has item context C
  pub ended : rest_of b item ≡ []
  pub inside : In context token
  pub below : token < tokens b

module _ (b : List ℕ) where
  row-only : (i : ℕ) (c : List ℕ) (rs : List Row) (e : Event) → Memᴰ e (of_row b (row i c)) → Complete b (row i c ∷ rs) e
  unfolding of_row members
  row-only i c rs e m =
      let (t, k, r, a) = completed-only (rest_of b i) (i / DOTS) (members (tokens b) c) e m in
      let h = keep-only (mem c) t (upto (tokens b)) a in
      record {
        item = i;
        context = c;
        token = t;
        is = k;
        there = inl (refl, refl);
        ended = r;
        inside = h.1;
        below = upto-only (tokens b) t h.0;
      }

  pub rows-only : (C : List Row) (e : Event) → Memᴰ e (each (of_row b) C) → Complete b C e
  unfolding each
  rows-only [] e m = absurd (Memᴰ.not-nil m)
  rows-only (row i c ∷ C) e m = ⊎_elim (row-only i c C e) (λ n. later (rows-only C e n)) (Memᴰ.append_cases (of_row b (row i c)) m)
    where
      later : Complete b C e → Complete b (row i c ∷ C) e
      later k =
          record {
            item = k.item;
            context = k.context;
            token = k.token;
            is = k.is;
            there = inr k.there;
            ended = k.ended;
            inside = k.inside;
            below = k.below;
          }

  rows_all : (C : List Row) (i t : ℕ) (c : List ℕ) → Has i c C → rest_of b i ≡ [] → In c t → t < tokens b → Memᴰ (completes t (i / DOTS)) (each (of_row b) C)
  unfolding each of_row members
  rows_all [] i t c h e n l = absurd h
  rows_all (row j s ∷ C) i t c (inl h) e n l =
      Memᴰ.append_left (each (of_row b) C)
      (subst (λ k. Memᴰ (completes t (k / DOTS)) (of_row b (row j s))) (sym h.0)
      (completed-all (rest_of b j) (j / DOTS) t (members (tokens b) s) (ap (rest_of b) (sym h.0) ∙ e)
      (keep-among (mem s) t (subst (λ v. In v t) h.1 n) (upto (tokens b)) (upto-among (tokens b) t l))))
  rows_all (row j s ∷ C) i t c (inr h) e n l = Memᴰ.append_right (of_row b (row j s)) (rows_all C i t c h e n l)

-- the closure of K has token t for production p with its dot at the end
abbrev pub Ended : List ℕ → List Row → ℕ → ℕ → Type 0
Ended b K p t = Holds (grammar_of b) (kernel_of K) p (length ((grammar_of b).body p)) t

-- ---- the dot of a complete item stands at the end
module _ (b : List ℕ) (F : List Ahead) (ready : Ready b F) where
  full-dot : (k : ℕ) → Item b k → rest_of b k ≡ [] → k % DOTS ≡ length (body_of b (k / DOTS))
  unfolding rest_of
  full-dot k I e =
      let a = I.dot in
      omega (arith, ready.lengthy (k / DOTS) I.prod, length-drop (k % DOTS) (body_of b (k / DOTS)), ap length e)

  -- so complete items of ascending rows are of different productions, and no event comes twice
  apart : (i j : ℕ) → Item b i → Item b j → rest_of b i ≡ [] → rest_of b j ≡ [] → i < j → i / DOTS ≢ j / DOTS
  apart i j I J e f l k =
      let a = full-dot i I e in
      let c = full-dot j J f in
      omega (arith, ap (λ (p : ℕ). length (body_of b p)) k)

  pub rows-pairs : (n : ℕ) (C : List Row) → From n C → ((k : ℕ) → Present k C → Item b k) → Pairs (Before b) (each (of_row b) C)
  unfolding each of_row
  rows-pairs n [] f I = tt
  rows-pairs n (row i c ∷ C) f I =
      pairs-append (Before b) (of_row b (row i c)) (each (of_row b) C) (completed-pairs b (rest_of b i) (i / DOTS) (members (tokens b) c) (members-distinct (tokens b) c))
      (rows-pairs (suc i) C f.1 (λ k m. I k (inr m))) cross
    where
      cross : (x y : Event) → Memᴰ x (of_row b (row i c)) → Memᴰ y (each (of_row b) C) → Before b x y
      cross x y m n =
          let (t, e, r, _) = completed-only (rest_of b i) (i / DOTS) (members (tokens b) c) x m in
          let Y = rows-only b C y n in
          let h = has-present Y.item Y.context C Y.there in
          subst (λ z. Before b z y) (sym e)
          (subst (λ z. Before b (completes t (i / DOTS)) z) (sym Y.is)
          (λ _. apart i Y.item (I i (inl refl)) (I Y.item (inr h)) r Y.ended (from-present (suc i) Y.item C f.1 h)))

  -- ---- of a closure: what it holds of productions with their dots at the end
  module _ (K : List Row) (R : Rows b K) where
    pub close-pairs : Pairs (Before b) (each (of_row b) (close_of b F K))
    close-pairs = let C = close-rows b F ready K R in rows-pairs 0 (close_of b F K) C.ascend C.items

    pub event-holds : (t p : ℕ) → Memᴰ (completes t p) (each (of_row b) (close_of b F K))
        → (t < tokens b) × Ended b K p t
    event-holds t p m =
        let E = rows-only b (close_of b F K) (completes t p) m in
        let k = E.item in
        let same : t ≡ E.token = same-token E.token (k / DOTS) E.is in
        let prod : p ≡ k / DOTS = same-prod E.token (k / DOTS) E.is in
        let h = E.below in
        let I = (close-rows b F ready K R).items k (has-present k E.context (close_of b F K) E.there) in
        let holds = token-holds b F ready K R k E.token (has-token k E.token E.context (close_of b F K) E.there E.inside) in (
          omega arith,
          subst (λ u. Ended b K p u) (sym same)
              (subst (λ q. Ended b K q E.token) (sym prod)
              (subst (λ d. Holds (grammar_of b) (kernel_of K) (k / DOTS) d E.token) (full-dot k I E.ended ∙ sym (length-map (body_of b (k / DOTS)) symbol)) holds)),
        )
      where
        same-token : (u q : ℕ) → completes t p ≡ completes u q → t ≡ u
        same-token u q e = cc

        same-prod : (u q : ℕ) → completes t p ≡ completes u q → p ≡ q
        same-prod u q e = cc

    pub holds-event : (t p : ℕ) → t < tokens b → Ended b K p t
        → Memᴰ (completes t p) (each (of_row b) (close_of b F K))
    unfolding rest_of
    holds-event t p l h =
        let (below, m) = holds-token b F ready K R p (length ((grammar_of b).body p)) t h in
        let (c, there, inside) = token-has (DOTS * p + length ((grammar_of b).body p)) t (close_of b F K) m in
        subst (λ q. Memᴰ (completes t q) (each (of_row b) (close_of b F K))) (item-prod p (length ((grammar_of b).body p)) below)
        (rows_all b (close_of b F K) (DOTS * p + length ((grammar_of b).body p)) t c there
        (ap₂ (λ d q. drop d (body_of b q)) (item-dot p (length ((grammar_of b).body p)) below) (item-prod p (length ((grammar_of b).body p)) below)
        ∙ drop_of_length-le (body_of b p) {i = length ((grammar_of b).body p)} (omega (arith, length-map (body_of b p) symbol))) inside l)
