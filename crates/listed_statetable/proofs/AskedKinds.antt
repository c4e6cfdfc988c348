-- What is asked for, by the kind of query. Assumes nothing.
use mathlib.Core.List.{List}
use mathlib.Core.Path.{◌≡◌, refl, sym, ap}
use Prim.Native.Nat.{ℕ, ◌≤◌}
use native.Mathlib.Omega.{arith}
use Rattle.statetable.specs.Queries.{query_of}
use Rattle.listed_statetable.specs.Queries.{asked_of}

module _ (kind : ℕ) (b : List ℕ) (states : ℕ) (table : List ℕ) (s i : ℕ) where
  pub asked-at : (k : ℕ) → kind ≡ k → asked_of k b states table s i ≡ asked_of kind b states table s i
  asked-at k e = ap (λ j. asked_of j b states table s i) (sym e)

  -- none of the first five: a reduce-only mark
  pub asked-last : kind ≤ 5 → (kind ≡ 5 → i ≡ 0) → (kind ≡ 0 → ⊥) → (kind ≡ 1 → ⊥) → (kind ≡ 2 → ⊥) → (kind ≡ 3 → ⊥) → (kind ≡ 4 → ⊥)
      → query_of b states table 1 s 0 ≡ asked_of kind b states table s i
  asked-last k n z o t h f =
      let e : kind ≡ 5 = omega arith in
      rw (e, n e) refl
