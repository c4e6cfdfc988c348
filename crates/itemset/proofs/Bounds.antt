-- How many rows there can be: no more than all right sides have places for a dot. Assumes nothing.
use mathlib.Core.List.{List, [], ◌∷◌}
use mathlib.Core.Logic.{inl, inr}
use mathlib.Core.Path.{refl}
use Prim.Native.Nat.{ℕ, zero, suc, ◌+◌, ◌/◌, ◌%◌, ◌≤◌, ◌<◌}
use native.Mathlib.Decide.{ℕ_discrete}
use native.Mathlib.Omega.{arith}
use lib.ListN.{length}
use Rattle.block.specs.Limits.{DOTS}
use Rattle.block.specs.Block.{prods, symbols, length_of}
use Rattle.block.specs.Refusal.{lengths}
use Rattle.block.specs.First.{Ahead}
use Rattle.itemset.specs.Rows.{Row, row, Present, From, Rows}
use Rattle.itemset.specs.Ready.{Ready}
use Rattle.itemset.proofs.RowLaws.{from-present}

-- rows whose items have ascending ranks from m on and below N are at most N − m
count_by : (rank : ℕ → ℕ) (N : ℕ) (rs : List Row) (n m : ℕ) → From n rs
    → ((j k : ℕ) → Present j rs → Present k rs → j < k → rank j < rank k)
    → ((k : ℕ) → Present k rs → rank k < N) → ((k : ℕ) → Present k rs → m ≤ rank k) → m ≤ N → m + length rs ≤ N
count_by rank N [] n m f up top low l = omega arith
count_by rank N (row i s ∷ rs) n m f up top low l =
    let a = top i (inl refl) in
    let c = low i (inl refl) in
    let r : suc (rank i) + length rs ≤ N =
    count_by rank N rs (suc i) (suc (rank i)) f.1 (λ j k g h. up j k (inr g) (inr h)) (λ k h. top k (inr h))
    (λ k h. up i k (inl refl) (inr h) (from-present (suc i) k rs f.1 h)) a in
    omega arith

-- the lengths of the productions before n, production m among them
lengths-up : (b : List ℕ) (m n : ℕ) → m < n → lengths b m + length_of b m ≤ lengths b n
unfolding lengths
lengths-up b m zero l = absurd (omega arith)
lengths-up b m (suc n) l =
    elim (ℕ_discrete m n) [
      | yes e ↦ rw e (omega arith)
      | no d ↦ let h : lengths b m + length_of b m ≤ lengths b n = lengths-up b m n (omega arith) in omega arith
    ]

module _ (b : List ℕ) (F : List Ahead) (ready : Ready b F) (rs : List Row) (R : Rows b rs) where
  places : (k : ℕ) → Present k rs → lengths b (k / DOTS) + k % DOTS ≤ symbols b
  places k h =
      let I = R.items k h in
      omega (arith, lengths-up b (k / DOTS) (prods b) I.prod, ready.total)

  -- places before k, if j is an earlier item
  places-up : (j k : ℕ) → Present j rs → j / DOTS < k / DOTS → lengths b (j / DOTS) + j % DOTS ≤ lengths b (k / DOTS)
  places-up j k h l = let I = R.items j h in omega (arith, lengths-up b (j / DOTS) (k / DOTS) l)

  pub rows_few : length rs ≤ symbols b + prods b
  rows_few =
      let h : 0 + length rs ≤ symbols b + prods b =
      count_by (λ k. lengths b (k / DOTS) + k % DOTS + k / DOTS) (symbols b + prods b) rs 0 0 R.ascend up
      (λ k h. let a = places k h in let c = (R.items k h).prod in omega arith) (λ k h. omega arith) (omega arith) in
      omega arith
    where
      up : (j k : ℕ) → Present j rs → Present k rs → j < k
          → lengths b (j / DOTS) + j % DOTS + j / DOTS < lengths b (k / DOTS) + k % DOTS + k / DOTS
      up j k g h l =
          elim (ℕ_discrete (j / DOTS) (k / DOTS)) [
            | yes e ↦ rw e (omega arith)
            | no d ↦ let m : j / DOTS < k / DOTS = omega arith in let c = places-up j k g m in omega arith
          ]

  -- with no dot in front there is one place fewer a production
  pub moved-few : ((k : ℕ) → Present k rs → 1 ≤ k % DOTS) → length rs ≤ symbols b
  moved-few above =
      let h : 1 + length rs ≤ 1 + symbols b =
      count_by (λ k. lengths b (k / DOTS) + k % DOTS) (1 + symbols b) rs 0 1 R.ascend up (λ k h. let a = places k h in omega arith)
      (λ k h. let a = above k h in omega arith) (omega arith) in
      omega arith
    where
      up : (j k : ℕ) → Present j rs → Present k rs → j < k → lengths b (j / DOTS) + j % DOTS < lengths b (k / DOTS) + k % DOTS
      up j k g h l =
          elim (ℕ_discrete (j / DOTS) (k / DOTS)) [
            | yes e ↦ rw e (omega arith)
            | no d ↦ let m : j / DOTS < k / DOTS = omega arith in let c = places-up j k g m in let a = above k h in omega arith
          ]
