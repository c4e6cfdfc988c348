-- Rows in memory that take the contexts of others, one after the other. Assumes nothing.
use mathlib.Core.Bool.{Bool, true, false, not, true≢false, ◌||◌, or-false, or-true}
use mathlib.Core.List.{List, [], ◌∷◌, ◌++◌, append_assoc}
use mathlib.Core.Path.{◌≡◌, refl, sym, ap, ap₂, ◌∙◌, subst}
use Prim.Native.Nat.{ℕ, zero, suc, ◌+◌, ◌*◌, ◌/◌, ◌<◌, ◌≤◌}
use native.Mathlib.Omega.{arith}
use native.Mathlib.Numerals.{add-one}
use lib.Dec.{eqb}
use lib.ListN.{length, get_or, take, drop, length-append}
use lib.Pointwise.{pointwise, bytes_decides}
use lib.Seq.{paste, take_at, drop_at, drop-drop, take_all, length-take-le, get_or_at}
use Rattle.block.specs.Limits.{WORDS, ITEM}
use Rattle.block.specs.Sets.{Fits, join}
use Rattle.block.proofs.Joins.{join-fits}
use Rattle.itemset.specs.Rows.{Row, row, words_of, same_rows, Sets}
use Rattle.itemset.proofs.Words.{item_of, context_of, no_row, words_append, words-cons, words-length, sets-at}
use Rattle.itemset.proofs.Fuel.{rows_is, rows_refl}
use Rattle.pager.specs.Weak.{union}
use Rattle.pager.specs.RowWords.{RowWords, RowsAt, context_at}
use Rattle.pager.proofs.Union.{union-sets, union-length}
use Rattle.pager.proofs.RowTests.{rows-length, row-context}

-- ---- a list of three parts, the middle written anew
pub paste-mid : (a b u r : List ℕ) (p n : ℕ) → length a ≡ p → length b ≡ n → length u ≡ n → paste (a ++ (b ++ r)) p u n ≡ a ++ (u ++ r)
paste-mid a b u r p n ea eb eu =
    rw (take_at a (b ++ r) p ea, take_all n u (omega arith), ← drop-drop n p (a ++ (b ++ r)), drop_at a (b ++ r) p ea, drop_at b r n eb)
    (append_assoc a u r)

sets-take : (n : ℕ) (K : List Row) → Sets K → Sets (take n K)
sets-take zero K h = tt
sets-take (suc n) [] h = tt
sets-take (suc n) (row i s ∷ K) h = (h.0, sets-take n K h.1)

-- ---- the first contexts joined: union K (take i L)
union-none : (K : List Row) → union K [] ≡ K
unfolding union
union-none [] = refl
union-none (r ∷ K) = refl

abbrev joined : Row → Row → Row
joined r q = row (item_of r) (join (context_of r) (context_of q))

union-old : (K L : List Row) (i : ℕ) → i < length K → i < length L
    → union K (take i L) ≡ union (take i K) (take i L) ++ get_or K i no_row ∷ drop (suc i) K
unfolding union
union-old [] L i l k = absurd (omega arith)
union-old (r ∷ K) [] i l k = absurd (omega arith)
union-old (row p s ∷ K) (row q t ∷ L) zero l k = refl
union-old (row p s ∷ K) (row q t ∷ L) (suc i) l k = ap {B = List Row} (λ rs. row p (join s t) ∷ rs) (union-old K L i (omega arith) (omega arith))

union-new : (K L : List Row) (i : ℕ) → i < length K → i < length L
    → union K (take (suc i) L) ≡ union (take i K) (take i L) ++ joined (get_or K i no_row) (get_or L i no_row) ∷ drop (suc i) K
unfolding union
union-new [] L i l k = absurd (omega arith)
union-new (r ∷ K) [] i l k = absurd (omega arith)
union-new (row p s ∷ K) (row q t ∷ L) zero l k = ap {B = List Row} (λ rs. row p (join s t) ∷ rs) (union-none K)
union-new (row p s ∷ K) (row q t ∷ L) (suc i) l k = ap {B = List Row} (λ rs. row p (join s t) ∷ rs) (union-new K L i (omega arith) (omega arith))

is_row : (r : Row) (s : List ℕ) → context_of r ≡ s → r ≡ row (item_of r) s
is_row (row i t) s e = ap {B = Row} (row i) e

-- the words around the context of a row
around : (before : List ℕ) (F : List Row) (r : Row) (R : List Row) (behind : List ℕ)
    → before ++ (words_of (F ++ r ∷ R) ++ behind) ≡ (before ++ (words_of F ++ (item_of r ∷ []))) ++ (context_of r ++ (words_of R ++ behind))
around before F r R behind = rw (words_append F (r ∷ R), words-cons r R) (simp append_assoc)

-- ---- a turn of merge: i contexts are joined, and the next one is
module _ (at : ℕ) (before : List ℕ) (K : List Row) (behind : List ℕ) (L : List Row) (us : List ℕ) (hK : Sets K) (U : RowWords us L)
    (size : length K ≡ length L) (i : ℕ) (l : i < length L) where
  first : List Row
  first = union (take i K) (take i L)

  old : Row
  old = get_or K i no_row

  new : Row
  new = joined (get_or K i no_row) (get_or L i no_row)

  low : i < length K
  low = omega arith

  head : List ℕ
  head = before ++ (words_of first ++ (item_of old ∷ []))

  first-length : length (words_of first) ≡ ITEM * i
  unfolding first
  first-length =
      words-length (union (take i K) (take i L)) (union-sets (take i K) (take i L) (sets-take i K hK) (sets-take i L U.sets))
      ∙ ap (λ (n : ℕ). ITEM * n) (union-length (take i K) (take i L) ∙ length-take-le i K (omega (arith, low)))

  head-length : length before ≡ ITEM * at → length head ≡ ITEM * (at + i) + 1
  unfolding head
  head-length e = omega (arith, length-append before (words_of first ++ (item_of old ∷ [])), length-append (words_of first) (item_of old ∷ []), first-length)

  new-fits : Fits WORDS (context_of new)
  unfolding new
  new-fits = join-fits WORDS (context_of (get_or K i no_row)) (context_of (get_or L i no_row)) (sets-at K i hK low) (sets-at L i U.sets l)

  same_item : item_of old ≡ item_of new
  unfolding old new
  same_item = refl

  after : union K (take (i + 1) L) ≡ first ++ new ∷ drop (suc i) K
  unfolding first new
  after = ap (λ (n : ℕ). union K (take n L)) (add-one i) ∙ union-new K L i low l

  at_new : get_or (union K (take (i + 1) L)) i no_row ≡ new
  unfolding first
  at_new =
      ap (λ (rs : List Row). get_or rs i no_row) after
      ∙ get_or_at first new (drop (suc i) K) no_row i (union-length (take i K) (take i L) ∙ length-take-le i K (omega (arith, low)))

  module _ (ws : List ℕ) (W : RowsAt at before (union K (take i L)) behind ws) where
    split : ws ≡ head ++ (context_of old ++ (words_of (drop (suc i) K) ++ behind))
    unfolding head first old
    split =
        W.words ∙ ap (λ (rs : List Row). before ++ (words_of rs ++ behind)) (union-old K L i low l)
        ∙ around before (union (take i K) (take i L)) (get_or K i no_row) (drop (suc i) K) behind

    pub old-context : take WORDS (drop (ITEM * (at + i) + 1) ws) ≡ context_of (get_or K i no_row)
    unfolding old
    old-context =
        ap (λ (w : List ℕ). take WORDS (drop (ITEM * (at + i) + 1) w)) split
        ∙ ap (λ (w : List ℕ). take WORDS w) (drop_at head (context_of old ++ (words_of (drop (suc i) K) ++ behind)) (ITEM * (at + i) + 1) (head-length W.place))
        ∙ take_at (context_of old) (words_of (drop (suc i) K) ++ behind) WORDS (sets-at K i hK low).0

    module _ (x y u : List ℕ) (ex : x ≡ take WORDS (drop (ITEM * (at + i) + 1) ws)) (ey : y ≡ take WORDS (drop (ITEM * i + 1) us)) (eu : u ≡ join x y) where
      there : y ≡ context_of (get_or L i no_row)
      unfolding context_at
      there = ey ∙ row-context U i l

      here : x ≡ context_of (get_or K i no_row)
      here = ex ∙ old-context

      new-context : u ≡ context_of new
      unfolding new
      new-context = eu ∙ ap₂ join here there

      pub merge_step : RowsAt at before (union K (take (i + 1) L)) behind (paste ws (ITEM * (at + i) + 1) u WORDS)
      unfolding head old
      merge_step =
          record {
            place = W.place;
            sets = union-sets K (take (i + 1) L) hK (sets-take (i + 1) L U.sets);
            words =
                ap₂ (λ (w v : List ℕ). paste w (ITEM * (at + i) + 1) v WORDS) split new-context
                ∙ paste-mid head (context_of old) (context_of new) (words_of (drop (suc i) K) ++ behind) (ITEM * (at + i) + 1) WORDS (head-length W.place)
                (sets-at K i hK low).0 new-fits.0
                ∙ shown;
          }
        where
          shown : head ++ (context_of new ++ (words_of (drop (suc i) K) ++ behind)) ≡ before ++ (words_of (union K (take (i + 1) L)) ++ behind)
          shown =
              ap (λ (n : ℕ). (before ++ (words_of first ++ (n ∷ []))) ++ (context_of new ++ (words_of (drop (suc i) K) ++ behind))) same_item
              ∙ sym (ap (λ (rs : List Row). before ++ (words_of rs ++ behind)) after ∙ around before first new (drop (suc i) K) behind)

      -- whether it grew
      merge-kept : u ≡ x → not (same_rows (union K (take i L)) K) ≡ not (same_rows (union K (take (i + 1) L)) K)
      unfolding first old new
      merge-kept e =
          ap (λ (rs : List Row). not (same_rows rs K))
          (union-old K L i low l ∙ ap (λ (r : Row). first ++ r ∷ drop (suc i) K) (is_row old (context_of new) (sym here ∙ sym e ∙ new-context)) ∙ sym after)

      merge-grew : (u ≡ x → ⊥) → true ≡ not (same_rows (union K (take (i + 1) L)) K)
      merge-grew h = go (same_rows (union K (take (i + 1) L)) K) refl
        where
          go : (t : Bool) → same_rows (union K (take (i + 1) L)) K ≡ t → true ≡ not t
          go true e = absurd (h (new-context ∙ ap context_of (sym at_new ∙ ap (λ (rs : List Row). get_or rs i no_row) (rows_is (union K (take (i + 1) L)) K e)) ∙ sym here))
          go false e = refl

      pub merge-told : (g n : Bool) → g ≡ not (same_rows (union K (take i L)) K) → n ≡ not (pointwise eqb u x)
          → (g || n) ≡ not (same_rows (union K (take (i + 1) L)) K)
      merge-told g n e q = ap (λ (t : Bool). g || t) q ∙ go (pointwise eqb u x) refl
        where
          go : (s : Bool) → pointwise eqb u x ≡ s → (g || not s) ≡ not (same_rows (union K (take (i + 1) L)) K)
          go true h = or-false g ∙ e ∙ merge-kept ((bytes_decides u x).0 h)
          go false h = or-true g ∙ merge-grew (λ z. true≢false (sym ((bytes_decides u x).1 z) ∙ h))

-- ---- before the first turn, and after the last
pub merge_none : {at : ℕ} {before : List ℕ} {K : List Row} {behind : List ℕ} (L : List Row) {ws : List ℕ} → RowsAt at before K behind ws
    → RowsAt at before (union K (take 0 L)) behind ws × (false ≡ not (same_rows (union K (take 0 L)) K))
merge_none {at} {before} {K} {behind} L {ws} W =
    (subst (λ rs. RowsAt at before rs behind ws) (sym (union-none K)) W, sym (ap (λ (rs : List Row). not (same_rows rs K)) (union-none K) ∙ ap not (rows_refl K)))

pub merge-all : {at : ℕ} {before : List ℕ} (K : List Row) {behind : List ℕ} (L : List Row) {ws us : List ℕ} {r : Bool} (n : ℕ) → RowWords us L → length us / ITEM ≤ n
    → RowsAt at before (union K (take n L)) behind ws × (r ≡ not (same_rows (union K (take n L)) K))
    → RowsAt at before (union K L) behind ws × (r ≡ not (same_rows (union K L) K))
merge-all {at} {before} K {behind} L {ws} {us} {r} n U l h =
    subst (λ ls. RowsAt at before (union K ls) behind ws × (r ≡ not (same_rows (union K ls) K))) (take_all n L (omega (arith, rows-length U))) h
