-- A part of the stack filled with zeros is cleared. Assumes nothing.
use mathlib.Core.List.{List, ◌++◌}
use mathlib.Core.Path.{◌≡◌, ap, ◌∙◌}
use Prim.Native.Nat.{ℕ, ◌-◌, ◌≤◌}
use native.Mathlib.Omega.{arith}
use borrow.Rule.Slice.PartMut.{put_mid, Post-is}
use lib.ListN.{length, take, drop, replicate, length-drop}
use lib.Seq.{length-take-le}
use Rattle.machine.specs.Memory.{cleared}

pub filled : (from to : ℕ) (xs zs : List ℕ) → from ≤ to → to ≤ length xs → zs ≡ replicate (length (take (to - from) (drop from xs))) 0
    → put_mid from (to - from) xs zs ≡ cleared from to xs
filled from to xs zs h l e =
    let size : length (take (to - from) (drop from xs)) ≡ to - from = length-take-le (to - from) (drop from xs) (omega (arith, length-drop from xs)) in
    ap (λ (t : List ℕ). take from xs ++ (zs ++ t)) (Post-is from to xs h)
    ∙ ap (λ (t : List ℕ). take from xs ++ (t ++ drop to xs)) (e ∙ ap (λ (n : ℕ). replicate n 0) size)
