-- The events that are still to come: from a token edge on, from a token of a complete item on, from a closed row on. Assumes nothing.
use mathlib.Core.Bool.{Bool, true, false, cond}
use mathlib.Core.List.{List, [], ◌∷◌, ◌++◌, map}
use mathlib.Core.Path.{◌≡◌, refl, sym, ap, ◌∙◌}
use Prim.Native.Nat.{ℕ, zero, suc, ◌+◌, ◌-◌, ◌*◌, ◌/◌, ◌%◌, ◌≤◌, ◌<◌}
use native.Mathlib.Decide.{dec_lt}
use native.Mathlib.Numerals.{add-one}
use native.Mathlib.Omega.{arith}
use lib.ListN.{length, get_or, take, drop, drop_of_length-le, length-drop}
use lib.Seq.{drop-cons}
use Rattle.block.specs.Limits.{WORDS, ITEM, DOTS}
use Rattle.block.specs.Lists.{keep, from, upto}
use Rattle.block.specs.Block.{tokens, length_of, body_of}
use Rattle.block.specs.Refusal.{Good}
use Rattle.block.specs.Sets.{mem, In, members}
use Rattle.block.proofs.Next.{NoneIn}
use Rattle.itemset.specs.Rows.{Row, row}
use Rattle.itemset.specs.Close.{rest_of}
use Rattle.itemset.specs.Lent.{RowsIn}
use Rattle.itemset.proofs.GoodReady.{good-ready}
use Rattle.itemset.proofs.LentRows.{in_rows, in_row, in-known}
use Rattle.itemset.proofs.Words.{no_row}
use Rattle.pager.specs.Lists.{each}
use Rattle.statetable.specs.ForFilling.{ForRow}
use Rattle.statetable.specs.Events.{Event, completes, leads, completed, of_row, of_edges}

-- ---- token edges, from that of token t on
module _ (es : List ℕ) (t : ℕ) where
  unfoldable pub edges_from : List Event
  edges_from = of_edges t (drop t es)

pub edges-all : (es : List ℕ) → of_edges 0 es ≡ edges_from es 0
unfolding edges_from
edges-all es = refl

pub edges-end : (es : List ℕ) (t : ℕ) → length es ≤ t → edges_from es t ≡ []
unfolding edges_from of_edges
edges-end es t l = ap (of_edges t) (drop_of_length-le es {i = t} l)

module _ (es : List ℕ) (t t' : ℕ) (l : t < length es) (k : t' ≡ suc t) where
  pub edges_none : get_or es t 0 ≡ 0 → edges_from es t ≡ edges_from es t'
  unfolding edges_from of_edges
  edges_none e =
      ap (of_edges t) (drop-cons es t 0 l ∙ ap {B = List ℕ} (λ x. x ∷ drop (suc t) es) e)
      ∙ ap (λ (j : ℕ). of_edges j (drop j es)) (sym k)

  pub edges-next : (u : ℕ) → get_or es t 0 ≡ suc u → edges_from es t ≡ leads t u ∷ edges_from es t'
  unfolding edges_from of_edges
  edges-next u e =
      ap (of_edges t) (drop-cons es t 0 l ∙ ap {B = List ℕ} (λ x. x ∷ drop (suc t) es) e)
      ∙ ap {B = List Event} (λ (j : ℕ). leads t u ∷ of_edges j (drop j es)) (sym k)

-- ---- members below n, from t on
module _ (n : ℕ) (ws : List ℕ) where
  unfoldable pub members_from : ℕ → List ℕ
  members_from t = keep (mem ws) (from t (n - t))

  pub members-all : members n ws ≡ members_from 0
  unfolding members members_from upto
  members-all = ap (λ (k : ℕ). keep (mem ws) (from 0 k)) (let z : n ≡ n - 0 = omega arith in z)

  pub members-end : (t : ℕ) → n ≤ t → members_from t ≡ []
  unfolding members_from keep from
  members-end t l = ap (λ (k : ℕ). keep (mem ws) (from t k)) (let z : n - t ≡ 0 = omega arith in z)

  one : (t : ℕ) → t < n → (c : Bool) → mem ws t ≡ c → members_from t ≡ cond c (t ∷ members_from (suc t)) (members_from (suc t))
  unfolding members_from keep from
  one t l c e =
      ap (λ (k : ℕ). keep (mem ws) (from t k)) (let z : n - t ≡ suc (n - suc t) = omega arith in z)
      ∙ ap (λ (x : Bool). cond x (t ∷ members_from (suc t)) (members_from (suc t))) e

  pub members-here : (t : ℕ) → t < n → In ws t → members_from t ≡ t ∷ members_from (suc t)
  members-here t l e = one t l true e

  skip-one : (t : ℕ) → mem ws t ≡ false → members_from t ≡ members_from (suc t)
  skip-one t e =
      elim (dec_lt t n) [
        | yes l ↦ one t l false e
        | no g ↦ members-end t (omega arith) ∙ sym (members-end (suc t) (omega arith))
      ]

  skip : (k t : ℕ) → NoneIn ws t (t + k) → members_from t ≡ members_from (t + k)
  skip zero t h = ap members_from (let z : t ≡ t + 0 = omega arith in z)
  skip (suc k) t h =
      skip-one t (h t (omega arith) (omega arith))
      ∙ skip k (suc t) (λ u a d. h u (omega arith) (omega arith))
      ∙ ap members_from (let z : suc t + k ≡ t + suc k = omega arith in z)

  -- none is left out up to the next member
  pub members-next : (t u : ℕ) → t ≤ u → NoneIn ws t u → members_from t ≡ members_from u
  members-next t u l h =
      let e : t + (u - t) ≡ u = omega arith in
      skip (u - t) t (λ v a d. h v a (omega arith)) ∙ ap members_from e

-- a complete item of production p, from token t on
module _ (n : ℕ) (ws : List ℕ) (p : ℕ) where
  abbrev pub completes_at : List ℕ → List Event
  completes_at ts = map (λ t. completes t p) ts

  unfoldable pub tokens_from : ℕ → List Event
  tokens_from t = completes_at (members_from n ws t)

  pub tokens-all : completes_at (members n ws) ≡ tokens_from 0
  unfolding tokens_from
  tokens-all = ap completes_at (members-all n ws)

  -- u is the next member
  module _ (t u : ℕ) (l : t ≤ u) (h : NoneIn ws t u) where
    pub tokens-next : (t' : ℕ) → u < n → In ws u → t' ≡ u + 1 → tokens_from t ≡ completes u p ∷ tokens_from t'
    unfolding tokens_from
    tokens-next t' k i e =
        ap completes_at (members-next n ws t u l h ∙ members-here n ws u k i)
        ∙ ap {B = List Event} (λ (j : ℕ). completes u p ∷ completes_at (members_from n ws j)) (sym (e ∙ add-one u))

    pub tokens-past : n ≤ u → tokens_from t ≡ []
    unfolding tokens_from
    tokens-past k = ap completes_at (members-next n ws t u l h ∙ members-end n ws u k)

  -- there is none
  pub tokens-end : (t : ℕ) → ((u : ℕ) → t ≤ u → mem ws u ≡ false) → tokens_from t ≡ []
  unfolding tokens_from
  tokens-end t h = ap completes_at (members-next n ws t (t + n) (omega arith) (λ u a d. h u a) ∙ members-end n ws (t + n) (omega arith))

-- ---- rows, from row i on
pub rows_in : {b ws : List ℕ} {C : List Row} → Good b → ForRow b ws C → RowsIn b ws C
rows_in g F = record { good = g; rows = F.rows; words = F.words }

module _ (b : List ℕ) (C : List Row) where
  unfoldable pub rows_from : ℕ → List Event
  rows_from i = each (of_row b) (drop i C)

  pub rows_all : each (of_row b) C ≡ rows_from 0
  unfolding rows_from
  rows_all = refl

  pub rows_end : (i : ℕ) → length C ≤ i → rows_from i ≡ []
  unfolding rows_from each
  rows_end i l = ap (each (of_row b)) (drop_of_length-le C {i = i} l)

  rows-one : (i : ℕ) → i < length C → rows_from i ≡ of_row b (get_or C i no_row) ++ rows_from (suc i)
  unfolding rows_from each
  rows-one i l = ap (each (of_row b)) (drop-cons C i no_row l)

  module _ {ws : List ℕ} (R : RowsIn b ws C) (i i' : ℕ) (l : i < length ws / ITEM) (k : i' ≡ suc i) where
    low : i < length C
    low = omega (arith, in_rows R)

    abbrev item : ℕ
    item = get_or ws (ITEM * i) 0

    abbrev context : List ℕ
    context = take WORDS (drop (ITEM * i + 1) ws)

    rest-length : length (rest_of b item) ≡ length_of b (item / DOTS) - item % DOTS
    unfolding rest_of
    rest-length =
        length-drop (item % DOTS) (body_of b (item / DOTS))
        ∙ ap (λ (j : ℕ). j - item % DOTS) ((good-ready R.good).lengthy (item / DOTS) (in-known R i low).prod)

    row_here : rows_from i ≡ completed (rest_of b item) (item / DOTS) (members (tokens b) context) ++ rows_from i'
    unfolding of_row
    row_here = rows-one i low ∙ ap {B = List Event} (λ r. of_row b r ++ rows_from (suc i)) (in_row R i low) ∙ ap (λ (j : ℕ). of_row b (row item context) ++ rows_from j) (sym k)

    -- its item is complete
    pub rows-complete : item % DOTS ≡ length_of b (item / DOTS) → (ts : List ℕ) → ts ≡ context
        → rows_from i ≡ map (λ t. completes t (item / DOTS)) (members (tokens b) ts) ++ rows_from i'
    rows-complete e ts q = row_here ∙ go (rest_of b item) rest-length ∙ ap (λ (us : List ℕ). ends us ++ rows_from i') (sym q)
      where
        ends : List ℕ → List Event
        ends us = map (λ t. completes t (item / DOTS)) (members (tokens b) us)

        go : (w : List ℕ) → length w ≡ length_of b (item / DOTS) - item % DOTS
            → completed w (item / DOTS) (members (tokens b) context) ++ rows_from i' ≡ map (λ t. completes t (item / DOTS)) (members (tokens b) context) ++ rows_from i'
        go [] h = refl
        go (y ∷ w) h = absurd (omega arith)

    -- a symbol stands behind its dot
    pub rows-skip : (item % DOTS ≡ length_of b (item / DOTS) → ⊥) → rows_from i ≡ rows_from i'
    rows-skip d = row_here ∙ go (rest_of b item) rest-length
      where
        go : (w : List ℕ) → length w ≡ length_of b (item / DOTS) - item % DOTS → completed w (item / DOTS) (members (tokens b) context) ++ rows_from i' ≡ rows_from i'
        go [] h = absurd (d (let z = (in-known R i low).dot in omega arith))
        go (y ∷ w) h = refl
