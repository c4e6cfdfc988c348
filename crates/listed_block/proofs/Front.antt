-- The front of a filled room: a smaller filled room, of the length that was asked for. Assumes nothing.
use mathlib.Core.List.{List, ◌∷◌}
use mathlib.Core.Path.{◌≡◌, refl, sym, ap}
use Prim.Native.Nat.{ℕ, zero, suc, ◌≤◌}
use native.Mathlib.Omega.{arith}
use lib.ListN.{length, replicate, take, length-replicate}
use lib.Seq.{length-take-le}

module _ {A : Type 0} where
  pub take-replicate : (n m : ℕ) (a : A) → n ≤ m → take n (replicate m a) ≡ replicate n a
  take-replicate zero m a h = refl
  take-replicate (suc n) zero a h = absurd (omega arith)
  take-replicate (suc n) (suc m) a h = ap {B = List A} (λ l. a ∷ l) (take-replicate n m a (omega arith))

pub front_length : (n m w : ℕ) → n ≤ m → n ≡ length (take n (replicate m w))
front_length n m w l = sym (length-take-le n (replicate m w) (omega (arith, l, length-replicate {0} {A = ℕ} m w)))
