-- Reading and writing a cell. Assumes nothing.
use mathlib.Core.Path.{◌≡◌, refl, sym, ap, ◌∙◌}
use Prim.Native.Nat.{ℕ, ◌+◌, ◌*◌, ◌/◌, ◌%◌}
use native.Mathlib.Omega.{arith}
use Rattle.knuth.specs.Tables.{Action}
use Rattle.statetable.specs.Cell.{of_kind, decode, encode}

pub decode-at : (w k : ℕ) → w % 4 ≡ k → of_kind k (w / 4) ≡ decode w
unfolding decode
decode-at w k e = ap (λ j. of_kind j (w / 4)) (sym e)

-- what is written is read
pub decode-encode : (a : Action) → decode (encode a) ≡ a
unfolding decode encode
decode-encode Action.error = refl
decode-encode Action.accept = refl
decode-encode (Action.shift s) =
    let e : (4 * s + 1) % 4 ≡ 1 = omega arith in
    let d : (4 * s + 1) / 4 ≡ s = omega arith in
    sym (decode-at (4 * s + 1) 1 e) ∙ ap Action.shift d
decode-encode (Action.reduce p) =
    let e : (4 * p + 2) % 4 ≡ 2 = omega arith in
    let d : (4 * p + 2) / 4 ≡ p = omega arith in
    sym (decode-at (4 * p + 2) 2 e) ∙ ap Action.reduce d
