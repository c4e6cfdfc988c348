-- A round repeated until nothing changes: what it keeps, that enough repetitions end at a list that the round does not change, and one round at a time.
-- Assumes nothing.
use mathlib.Core.Bool.{Bool, true, false}
use mathlib.Core.Path.{◌≡◌, refl, ap}
use Prim.Native.Nat.{ℕ, zero, suc, ◌≤◌, ◌<◌}
use native.Mathlib.Omega.{arith}
use Rattle.block.specs.Lists.{settle}

module _ {A : Type 0} (eq : A → A → Bool) (f : A → A) where
  -- a round that changes nothing is the last
  pub settle-done : (n : ℕ) (x : A) → eq (f x) x ≡ true → settle eq f n x ≡ x
  unfolding settle
  settle-done zero x e = refl
  settle-done (suc n) x e = ap {B = A} (λ c. elim c [ true ↦ x | false ↦ settle eq f n (f x) ]) e

  -- any other is followed by the rest of them
  pub settle-more : (n : ℕ) (x : A) → eq (f x) x ≡ false → settle eq f (suc n) x ≡ settle eq f n (f x)
  unfolding settle
  settle-more n x e = ap {B = A} (λ c. elim c [ true ↦ x | false ↦ settle eq f n (f x) ]) e

module _ {A : Type 0} (eq : A → A → Bool) (f : A → A) (P : A → Type 0) (keep : (x : A) → P x → P (f x)) where
  pub settle-keeps : (n : ℕ) (x : A) → P x → P (settle eq f n x)
  unfolding settle
  settle-keeps zero x h = h
  settle-keeps (suc n) x h = go (settle-keeps n (f x) (keep x h)) (eq (f x) x)
    where
      go : P (settle eq f n (f x)) → (e : Bool) → P (elim e [ true ↦ x | false ↦ settle eq f n (f x) ])
      go r true = h
      go r false = r

  -- m falls with each change and m x is at most n: the fuel is never used up
  pub settle-fixed : (m : A → ℕ) → ((x : A) → P x → eq (f x) x ≡ false → m (f x) < m x)
      → (n : ℕ) (x : A) → P x → m x ≤ n → eq (f (settle eq f n x)) (settle eq f n x) ≡ true
  unfolding settle
  settle-fixed m less zero x h b = go (eq (f x) x) refl
    where
      go : (e : Bool) → eq (f x) x ≡ e → eq (f x) x ≡ true
      go true q = q
      go false q = let l : m (f x) < m x = less x h q in absurd (omega arith)
  settle-fixed m less (suc n) x h b = go (λ l. settle-fixed m less n (f x) (keep x h) l) (eq (f x) x) refl
    where
      go : (m (f x) ≤ n → eq (f (settle eq f n (f x))) (settle eq f n (f x)) ≡ true) → (e : Bool) → eq (f x) x ≡ e
          → eq (f (elim e [ true ↦ x | false ↦ settle eq f n (f x) ])) (elim e [ true ↦ x | false ↦ settle eq f n (f x) ]) ≡ true
      go r true q = q
      go r false q = r (let l : m (f x) < m x = less x h q in omega arith)
