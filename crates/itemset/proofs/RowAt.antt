-- Row n of rows: it is one of them, each is some row n, and its item is one of the grammar. Assumes nothing.
use mathlib.Core.List.{List, [], ◌∷◌}
use mathlib.Core.Logic.{inl, inr}
use mathlib.Core.Path.{◌≡◌, refl, sym, ap₂, subst}
use Prim.Native.Nat.{ℕ, zero, suc, ◌*◌, ◌<◌}
use native.Mathlib.Omega.{arith}
use lib.ListN.{length, get_or}
use Rattle.block.specs.Limits.{ITEM}
use Rattle.itemset.specs.Rows.{Row, row, words_of, Item, Rows}
use Rattle.itemset.proofs.Words.{item_of, context_of, no_row, item-at}
use Rattle.itemset.proofs.Has.{Has, has-present}

pub has-at : (rs : List Row) (n : ℕ) → n < length rs → Has (item_of (get_or rs n no_row)) (context_of (get_or rs n no_row)) rs
has-at [] n l = absurd (omega arith)
has-at (row i s ∷ rs) zero l = inl (refl, refl)
has-at (row i s ∷ rs) (suc n) l = inr (has-at rs n (omega arith))

-- item k with the context s is row n
pub record Stands (k : ℕ) (s : List ℕ) (rs : List Row) : Type 0 where
  pub place : ℕ
  pub below : place < length rs
  pub is : get_or rs place no_row ≡ row k s

pub has-stands : (k : ℕ) (s : List ℕ) (rs : List Row) → Has k s rs → Stands k s rs
has-stands k s [] m = absurd m
has-stands k s (row i t ∷ rs) (inl e) = record { place = 0; below = omega arith; is = ap₂ {C = Row} row (sym e.0) (sym e.1) }
has-stands k s (row i t ∷ rs) (inr m) =
    let r = has-stands k s rs m in
    record { place = suc r.place; below = (let l = r.below in omega arith); is = r.is }

-- what holds of each row n holds of each item with its context
pub each_row : (P : ℕ → List ℕ → Type 0) (rs : List Row) → ((n : ℕ) → n < length rs → P (item_of (get_or rs n no_row)) (context_of (get_or rs n no_row)))
    → (k : ℕ) (s : List ℕ) → Has k s rs → P k s
each_row P rs h k s m =
    let r = has-stands k s rs m in
    subst (λ u. P (item_of u) (context_of u)) r.is (h r.place r.below)

pub row-item : (b : List ℕ) (rs : List Row) → Rows b rs → (n : ℕ) → n < length rs → Item b (item_of (get_or rs n no_row))
row-item b rs R n l = R.items (item_of (get_or rs n no_row)) (has-present (item_of (get_or rs n no_row)) (context_of (get_or rs n no_row)) rs (has-at rs n l))

pub word-item : (b : List ℕ) (rs : List Row) → Rows b rs → (n : ℕ) → n < length rs → Item b (get_or (words_of rs) (ITEM * n) 0)
word-item b rs R n l = subst (Item b) (sym (item-at rs n R.sets l)) (row-item b rs R n l)
