-- A run set to zero, as `fill` leaves it. Assumes nothing.
use mathlib.Core.List.{List, ◌++◌, append-nil}
use mathlib.Core.Path.{◌≡◌, refl, sym, ap, ap₂, ◌∙◌}
use Prim.Native.Nat.{ℕ, ◌-◌, ◌≤◌}
use native.Mathlib.Omega.{arith}
use lib.ListN.{length, take, drop, replicate, length-drop, drop_of_length-le}
use lib.Seq.{length-take-le}
use borrow.Rule.Slice.PartMut.{put_mid}
use Rattle.pager.specs.Memory.{pad}

-- from a place on
pub filled : (ws : List ℕ) (from : ℕ) (zs : List ℕ) → from ≤ length ws → zs ≡ replicate (length (take (length ws - from) (drop from ws))) 0
    → put_mid from (length ws - from) ws zs ≡ pad (length ws) (take from ws)
unfolding pad
filled ws from zs l e =
    let n : ℕ = length ws - from in
    let many : length (take n (drop from ws)) ≡ n = length-take-le n (drop from ws) (omega (arith, length-drop from ws)) in
    let front : length ws - length (take from ws) ≡ n = omega (arith, length-take-le from ws l) in
    ap₂ (λ (z r : List ℕ). take from ws ++ (z ++ r)) (e ∙ ap (λ (k : ℕ). replicate k 0) many)
    (drop_of_length-le (drop from ws) {i = n} (omega (arith, length-drop from ws)))
    ∙ ap (λ (z : List ℕ). take from ws ++ z) (append-nil (replicate n 0) ∙ sym (ap (λ (k : ℕ). replicate k 0) front))

-- all of it
pub clear-zeros : (n : ℕ) (ws : List ℕ) → pad n (take 0 ws) ≡ replicate n 0
unfolding pad
clear-zeros n ws = let z : n - 0 ≡ n = omega arith in rw z refl
