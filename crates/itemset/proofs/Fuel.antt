-- The rounds of rule 2 keep rows rows, and end before their fuel. Assumes nothing.
use mathlib.Core.Bool.{true, false, true≢false, ◌&&◌}
use mathlib.Core.List.{List, [], ◌∷◌, foldl}
use mathlib.Core.Logic.{◌⊎◌, inl, inr}
use mathlib.Core.Path.{◌≡◌, refl, sym, ap, ap₂, ◌∙◌, subst}
use Prim.Native.Nat.{ℕ, suc, ◌+◌, ◌*◌, ◌-◌, ◌^◌, ◌≤◌, ◌<◌}
use native.Mathlib.Omega.{arith}
use lib.Dec.{eqb}
use borrow.Author.Tests.{eq-eqb, eqb-true}
use Rattle.block.specs.Limits.{WORDS, DOTS}
use Rattle.block.specs.Block.{prods}
use Rattle.block.specs.Sets.{Fits, same_set}
use Rattle.block.specs.First.{Ahead, ahead_of}
use Rattle.block.proofs.ListLaws.{and_both, same-is, same_refl}
use Rattle.block.proofs.Settle.{settle-fixed}
use Rattle.block.proofs.Joins.{weigh, fits-weigh, same-words, words-refl}
use Rattle.itemset.specs.Rows.{Row, row, same_row, same_rows, Present, From, Sets, Rows}
use Rattle.itemset.specs.Close.{put, handed, give, close_of}
use Rattle.itemset.specs.Ready.{Ready}
use Rattle.itemset.proofs.Put.{put_only, put-from, put-sets, value, put-grows}
use Rattle.itemset.proofs.Handed.{handed-fits}
use Rattle.itemset.proofs.Opening.{give-keeps}
use Rattle.itemset.proofs.Rounds.{round, round_keeps, close-ind}

-- ---- rows compared
row_is : (x y : Row) → same_row x y ≡ true → x ≡ y
unfolding same_row
row_is (row i s) (row j t) e =
    let k = and_both (eqb i j) (same_set s t) e in
    ap₂ {C = Row} row (eqb-true i j k.0) (same-words s t k.1)

row-refl : (x : Row) → same_row x x ≡ true
unfolding same_row
row-refl (row i s) = ap₂ ◌&&◌ (eq-eqb i i refl) (words-refl s)

pub rows_is : (rs ss : List Row) → same_rows rs ss ≡ true → rs ≡ ss
rows_is = same-is same_row row_is

pub rows_refl : (rs : List Row) → same_rows rs rs ≡ true
rows_refl = same_refl same_row row-refl

-- ---- a round changes nothing, or the sum of the words grows
module _ (b : List ℕ) (F : List Ahead) where
  round-grows : (rs : List Row) → (round b F rs ≡ rs) ⊎ (value rs < value (round b F rs))
  round-grows rs =
      round_keeps b F (λ a. (a ≡ rs) ⊎ (value rs < value a))
      (λ i s a h.
      elim (put-grows i s a) [
        | inl e ↦ subst (λ r. (r ≡ rs) ⊎ (value rs < value r)) (sym e) h
        | inr l ↦ elim h [ inl e ↦ inr (let z : value a ≡ value rs = ap value e in omega arith) | inr k ↦ inr (omega arith) ]
      ])
      rs rs (inl refl)

-- how far: what a row can weigh, for each item that there can be
value-bound : (N : ℕ) (rs : List Row) (n : ℕ) → n ≤ N → From n rs → Sets rs → ((k : ℕ) → Present k rs → k < N)
    → value rs + n * (WORDS * 2 ^ 64 + 1) ≤ N * (WORDS * 2 ^ 64 + 1)
value-bound N [] n l f h below = omega arith
value-bound N (row i s ∷ rs) n l f h below =
    let c = below i (inl refl) in
    let a = f.0 in
    let k : value rs + suc i * (WORDS * 2 ^ 64 + 1) ≤ N * (WORDS * 2 ^ 64 + 1) = value-bound N rs (suc i) c f.1 h.1 (λ k m. below k (inr m)) in
    let w : weigh s ≤ WORDS * 2 ^ 64 = fits-weigh WORDS s h.0 in
    omega arith

-- ---- a round keeps rows rows
module _ (b : List ℕ) (F : List Ahead) (ready : Ready b F) where
  put-rows : (q : ℕ) (s : List ℕ) (rs : List Row) → q < prods b → Fits WORDS s → Rows b rs → Rows b (put (DOTS * q) s rs)
  put-rows q s rs l f R =
      record {
        ascend = put-from (DOTS * q) s rs 0 (omega arith) R.ascend;
        sets = put-sets (DOTS * q) s rs f R.sets;
        items = λ k m. elim (put_only k (DOTS * q) s rs m) [ inl e ↦ record { prod = omega arith; dot = omega arith } | inr m ↦ R.items k m ];
      }

  round-rows : (xs : List Row) → Sets xs → (rs : List Row) → Rows b rs → Rows b (foldl (give b F) rs xs)
  round-rows [] X rs R = R
  round-rows (row i s ∷ xs) X rs R =
      round-rows xs X.1 (give b F rs (row i s))
      (give-keeps (Rows b) b F rs i s
      (λ q w a o k. put-rows q (handed s (ahead_of F w)) a o.below (handed-fits WORDS s (ahead_of F w) X.0 (ready.fits w)) k) R)

  pub close-rows : (K : List Row) → Rows b K → Rows b (close_of b F K)
  close-rows K R = close-ind b F (Rows b) (λ rs k. round-rows rs k.sets rs k) K R

  rows-most : (rs : List Row) → Rows b rs → value rs ≤ DOTS * prods b * (WORDS * 2 ^ 64 + 1)
  rows-most rs R =
      let z : value rs + 0 * (WORDS * 2 ^ 64 + 1) ≤ DOTS * prods b * (WORDS * 2 ^ 64 + 1) =
      value-bound (DOTS * prods b) rs 0 (omega arith) R.ascend R.sets (λ k m. let l = (R.items k m).prod in omega arith) in
      omega arith

  -- the last round of a closure changed nothing
  pub close-fixed : (K : List Row) → Rows b K → foldl (give b F) (close_of b F K) (close_of b F K) ≡ close_of b F K
  unfolding close_of
  close-fixed K R =
      rows_is _ _
      (settle-fixed same_rows (round b F) (Rows b) (λ rs k. round-rows rs k.sets rs k) (λ rs. DOTS * prods b * (WORDS * 2 ^ 64 + 1) - value rs)
      (λ rs k e. less rs k (grew rs e (round-grows b F rs))) (DOTS * prods b * (WORDS * 2 ^ 64 + 1)) K R (omega arith))
    where
      grew : (rs : List Row) → same_rows (round b F rs) rs ≡ false → (round b F rs ≡ rs) ⊎ (value rs < value (round b F rs))
          → value rs < value (round b F rs)
      grew rs e (inl q) = absurd (true≢false (sym (rows_refl rs) ∙ ap (λ r. same_rows r rs) (sym q) ∙ e))
      grew rs e (inr l) = l

      less : (rs : List Row) → Rows b rs → value rs < value (round b F rs)
          → DOTS * prods b * (WORDS * 2 ^ 64 + 1) - value (round b F rs) < DOTS * prods b * (WORDS * 2 ^ 64 + 1) - value rs
      less rs k l =
          let z : value (round b F rs) ≤ DOTS * prods b * (WORDS * 2 ^ 64 + 1) = rows-most (round b F rs) (round-rows rs k.sets rs k) in
          omega arith
