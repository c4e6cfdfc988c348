-- The goto kernels of a state are placed one after the other, on the buffers. Assumes nothing.
use mathlib.Core.List.{List, [], ◌∷◌, map, Memᴰ}
use Rattle.std.specs.Prelude.{Ok, Err}
use mathlib.Core.Path.{◌≡◌, refl, sym, ap, ◌∙◌, subst}
use Prim.Native.Nat.{ℕ, zero, suc, ◌<◌, ◌≤◌}
use native.Mathlib.Omega.{arith}
use lib.ListN.{length, get_or, take, length-map}
use lib.Seq.{take_all}
use Rattle.block.specs.First.{firsts_of}
use Rattle.itemset.specs.Rows.{Row}
use Rattle.itemset.specs.Close.{close_of}
use Rattle.itemset.specs.Goto.{sights_of, goto_of, gotos_of}
use Rattle.itemset.proofs.GoodReady.{good-ready}
use Rattle.pager.specs.Lists.{Answer, is, refused, walk}
use Rattle.pager.specs.Place.{State}
use Rattle.pager.specs.Graph.{place_edge}
use Rattle.pager.specs.Given.{Given}
use Rattle.pager.specs.Held.{limits_of}
use Rattle.pager.specs.Building.{Counted, BuiltBy, Site, ForGotos, ForGoto}
use Rattle.pager.specs.declared.room.Room.{Room}
use Rattle.pager.specs.declared.room.Count.{Count}
use Rattle.pager.specs.declared.refusal.GraphRefusal.{GraphRefusal}
use Rattle.pager.proofs.Walks.{given-map}
use Rattle.pager.proofs.Growing.{Onward, arriving, growing-place-edge}

-- ---- a fold that stops, over the first of a list
module _ {A B : Type 0} (f : A → B → Answer A) where
  abbrev on : Answer A → (A → Answer A) → Answer A
  on o g = elim o [ is c ↦ g c | refused e ↦ refused e ]

  on-is : (o : Answer A) → on o is ≡ o
  on-is (is c) = refl
  on-is (refused e) = refl

  pub walk-next : (xs : List B) (i : ℕ) (d : B) → i < length xs → (a : A) → walk f a (take (suc i) xs) ≡ on (walk f a (take i xs)) (λ c. f c (get_or xs i d))
  unfolding walk
  walk-next [] i d l a = absurd (omega arith)
  walk-next (x ∷ xs) zero d l a = on-is (f a x)
  walk-next (x ∷ xs) (suc i) d l a = go (f a x) (λ c. walk-next xs i d (omega arith) c)
    where
      go : (o : Answer A) → ((c : A) → walk f c (take (suc i) xs) ≡ on (walk f c (take i xs)) (λ y. f y (get_or xs i d)))
          → on o (λ c. walk f c (take (suc i) xs)) ≡ on (on o (λ c. walk f c (take i xs))) (λ c. f c (get_or xs i d))
      go (is c) h = h c
      go (refused e) h = refl

  pub walk-stuck : (xs : List B) (i : ℕ) (e : List ℕ) (a : A) → walk f a (take i xs) ≡ refused e → walk f a xs ≡ refused e
  unfolding walk
  walk-stuck xs zero e a q = absurd (let z : ◌≡◌ {A = ℕ} 0 1 = cc in omega arith)
  walk-stuck [] (suc i) e a q = q
  walk-stuck (x ∷ xs) (suc i) e a q = go (f a x) (λ c. walk-stuck xs i e c) q
    where
      go : (o : Answer A) → ((c : A) → walk f c (take i xs) ≡ refused e → walk f c xs ≡ refused e) → on o (λ c. walk f c (take i xs)) ≡ refused e
          → on o (λ c. walk f c xs) ≡ refused e
      go (is c) r h = r c h
      go (refused y) r h = h

mem-at : (xs : List ℕ) (i : ℕ) → i < length xs → Memᴰ (get_or xs i 0) xs
mem-at [] i l = absurd (omega arith)
mem-at (x ∷ xs) zero l = Memᴰ.head refl
mem-at (x ∷ xs) (suc i) l = Memᴰ.tail (mem-at xs i (omega arith))

map_at : {B : Type 0} (g : ℕ → B) (d : B) (xs : List ℕ) (i : ℕ) → i < length xs → get_or (map g xs) i d ≡ g (get_or xs i 0)
map_at g d [] i l = absurd (omega arith)
map_at g d (x ∷ xs) zero l = refl
map_at g d (x ∷ xs) (suc i) l = map_at g d xs i (omega arith)

-- ---- a symbol that `sights_of` answers
module _ {ys xs : List ℕ} (e : ys ≡ xs) where
  pub sight-low : (i : ℕ) → i < length ys → i < length xs
  sight-low i l = subst (λ (t : List ℕ). i < length t) e l

  pub sight-all : (i : ℕ) → length ys ≤ i → length xs ≤ i
  sight-all i l = subst (λ (t : List ℕ). length t ≤ i) e l

  pub sight-at : (i : ℕ) → get_or ys i 0 ≡ get_or xs i 0
  sight-at i = ap (λ (t : List ℕ). get_or t i 0) e

-- ---- the first i goto kernels have been placed
module _ (b : List ℕ) (room : Room) (n : ℕ) (s : Site) where
  abbrev C : List Row
  C = close_of b (firsts_of b) s.kernel

  unfoldable pub answer_of : ℕ → Answer (List State)
  answer_of i = walk (place_edge b (limits_of room) n) s.states (take i (gotos_of b C))

  pub record Walked (i : ℕ) (count : Count) (items spans edges marks : List ℕ) : Type 0 where
    pub states : List State
    pub is-answer : answer_of i ≡ is states
    pub counted : Counted b room states count items spans edges marks s.behind
    pub there : n < length states

  abbrev pub site_of : {i : ℕ} {count : Count} {items spans edges marks : List ℕ} → Walked i count items spans edges marks → Site
  site_of W = record { states = W.states; behind = s.behind; kernel = s.kernel }

  gotos-length : length (gotos_of b C) ≡ length (sights_of b C)
  unfolding gotos_of
  gotos-length = length-map (sights_of b C) (λ x. (x, goto_of b C x))

  gotos-at : (i : ℕ) → i < length (sights_of b C) → (x : ℕ) → x ≡ get_or (sights_of b C) i 0 → get_or (gotos_of b C) i (0, []) ≡ (x, goto_of b C x)
  unfolding gotos_of
  gotos-at i l x e = map_at (λ y. (y, goto_of b C y)) (0, []) (sights_of b C) i l ∙ ap (λ (y : ℕ). (y, goto_of b C y)) (sym e)

  -- ---- all of them
  pub walked_all : {i : ℕ} {count : Count} {items spans edges marks : List ℕ} → Walked i count items spans edges marks → length (sights_of b C) ≤ i
      → BuiltBy (walk (place_edge b (limits_of room) n) s.states (gotos_of b C)) b room (Ok count) items spans edges marks s.behind
  unfolding answer_of
  walked_all {i} {count} {items} {spans} {edges} {marks} W l =
      subst (λ o. BuiltBy o b room (Ok count) items spans edges marks s.behind)
      (sym W.is-answer ∙ ap (λ t. walk (place_edge b (limits_of room) n) s.states t) (take_all i (gotos_of b C) (omega (arith, gotos-length)))) W.counted

  -- ---- one more
  module _ {start : Count} {closed kernel₀ items₀ spans₀ edges₀ marks₀ : List ℕ} (G : ForGotos b room start n closed kernel₀ items₀ spans₀ edges₀ marks₀ s) where
    pub walked_none : Walked 0 start items₀ spans₀ edges₀ marks₀
    unfolding answer_of walk
    walked_none = record { states = s.states; is-answer = refl; counted = record { counts = G.counts; held = G.held }; there = G.there }

    module _ {i : ℕ} {count : Count} {items spans edges marks : List ℕ} (T : Walked i count items spans edges marks)
        (l : i < length (sights_of b C)) (x : ℕ) (e : x ≡ get_or (sights_of b C) i 0) where
      sighted : Memᴰ x (sights_of b C)
      sighted = subst (λ (y : ℕ). Memᴰ y (sights_of b C)) (sym e) (mem-at (sights_of b C) i l)

      pub for-one : (kernel : List ℕ) → length kernel ≡ length kernel₀ → ForGoto b room count n x closed kernel items spans edges marks (site_of T)
      for-one kernel k =
          record {
            gotos =
                record {
                  good = G.good;
                  fair = G.fair;
                  held = T.counted.held;
                  counts = T.counted.counts;
                  there = T.there;
                  rows = G.rows;
                  words = G.words;
                  space = (let h = G.space in omega arith);
                };
            sighted = sighted;
          }

      next-answer : answer_of (suc i) ≡ place_edge b (limits_of room) n T.states (x, goto_of b C x)
      unfolding answer_of
      next-answer =
          walk-next (place_edge b (limits_of room) n) (gotos_of b C) i (0, []) (omega (arith, gotos-length)) s.states
          ∙ ap (λ o. on (place_edge b (limits_of room) n) o (λ c. place_edge b (limits_of room) n c (get_or (gotos_of b C) i (0, [])))) T.is-answer
          ∙ ap (λ g. place_edge b (limits_of room) n T.states g) (gotos-at i l x e)

      stays : Given (place_edge b (limits_of room) n T.states (x, goto_of b C x)) (λ rr. n < length rr)
      stays =
          given-map (Onward b (limits_of room) T.states) (λ rr. n < length rr) (λ rr h. let m = h.1.more in omega (arith, T.there))
          (place_edge b (limits_of room) n T.states (x, goto_of b C x))
          (growing-place-edge b (limits_of room) n x (goto_of b C x) T.states T.counted.held.growing T.there
          (arriving b (firsts_of b) (good-ready G.good) s.kernel G.rows x sighted))

      pub walked_next : (j : ℕ) → j ≡ suc i → {count' : Count} {items' spans' edges' marks' : List ℕ}
          → BuiltBy (place_edge b (limits_of room) n T.states (x, goto_of b C x)) b room (Ok count') items' spans' edges' marks' s.behind
          → Walked j count' items' spans' edges' marks'
      walked_next j k {count'} {items'} {spans'} {edges'} {marks'} B =
          go (place_edge b (limits_of room) n T.states (x, goto_of b C x)) (ap answer_of k ∙ next-answer) B stays
        where
          go : (o : Answer (List State)) → answer_of j ≡ o → BuiltBy o b room (Ok count') items' spans' edges' marks' s.behind → Given o (λ rr. n < length rr)
              → Walked j count' items' spans' edges' marks'
          go (is rr) q B l = record { states = rr; is-answer = q; counted = B; there = l }
          go (refused why) q B l = absurd B

      -- or a refusal, which is the answer of all
      pub walked-refused : (e : GraphRefusal) (items' spans' edges' marks' : List ℕ)
          → BuiltBy (place_edge b (limits_of room) n T.states (x, goto_of b C x)) b room (Err e) items' spans' edges' marks' s.behind
          → BuiltBy (walk (place_edge b (limits_of room) n) s.states (gotos_of b C)) b room (Err e) items' spans' edges' marks' s.behind
      unfolding answer_of
      walked-refused e items' spans' edges' marks' B = go (place_edge b (limits_of room) n T.states (x, goto_of b C x)) next-answer B
        where
          go : (o : Answer (List State)) → answer_of (suc i) ≡ o → BuiltBy o b room (Err e) items' spans' edges' marks' s.behind
              → BuiltBy (walk (place_edge b (limits_of room) n) s.states (gotos_of b C)) b room (Err e) items' spans' edges' marks' s.behind
          go (is rr) q B = absurd B
          go (refused why) q B =
              subst (λ o. BuiltBy o b room (Err e) items' spans' edges' marks' s.behind)
              (sym (walk-stuck (place_edge b (limits_of room) n) (gotos_of b C) (suc i) why s.states q)) B
