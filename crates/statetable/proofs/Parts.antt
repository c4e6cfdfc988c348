-- Parts of tables: how many words they take, and a row that is read. Assumes nothing.
use mathlib.Core.List.{List, ◌++◌, append_assoc}
use mathlib.Core.Path.{◌≡◌, sym, ap, ap₂, ◌∙◌}
use Prim.Native.Nat.{ℕ, suc, ◌+◌, ◌-◌, ◌*◌, ◌≤◌, ◌<◌}
use native.Mathlib.Nat.{suc-mul, mul-le-mul_right}
use native.Mathlib.Omega.{arith}
use lib.ListN.{length, get_or, take, drop, replicate, length-replicate, length-append, replicate-append-replicate}
use lib.Seq.{take_at, drop_at}
use Rattle.block.specs.Limits.{PRODS}
use Rattle.block.specs.Refusal.{Good}
use Rattle.block.specs.Block.{tokens, rules, prods}
use Rattle.block.proofs.Good.{placed}
use Rattle.pager.specs.Lists.{each}
use Rattle.pager.specs.Held.{STATES}
use Rattle.pager.proofs.CallLaws.{edge-part}
use Rattle.pager.proofs.Each.{each_at, each-length, each-before}

-- the parts that n states need are not too large
module _ {b : List ℕ} (g : Good b) (n : ℕ) (h : n ≤ STATES) where
  pub part-most : (n * tokens b ≤ STATES * PRODS) × (n * rules b ≤ STATES * PRODS) × (n * prods b ≤ STATES * PRODS)
  part-most =
      let p = placed g in
      let t = edge-part n (tokens b) h (omega (arith, p.tokens-most)) in
      let r = edge-part n (rules b) h (omega (arith, p.rules-most)) in
      let q = edge-part n (prods b) h (omega (arith, p.prods-most)) in
      (omega arith, omega arith, omega arith)

-- ---- a row that is read
module _ {A : Type 0} (f : A → List ℕ) (w : ℕ) (d : A) (rs : List A) (h : (n : ℕ) → n < length rs → length (f (get_or rs n d)) ≡ w) (s : ℕ) (l : s < length rs) where
  -- the part from at to e of a table
  pub row-part : (xs behind : List ℕ) → xs ≡ each f rs ++ behind → (at e : ℕ) → at ≡ s * w → e ≡ at + w → take (e - at) (drop at xs) ≡ f (get_or rs s d)
  row-part xs behind q at e p r =
      let k : e - at ≡ w = omega arith in
      let front : List ℕ = each f (take s rs) in
      let rest : List ℕ = each f (drop (suc s) rs) in
      ap₂ (λ (n m : ℕ). take n (drop m xs)) k p
      ∙ ap (λ (t : List ℕ). take w (drop (s * w) t)) (q ∙ ap (λ (t : List ℕ). t ++ behind) (each_at f d rs s l) ∙ append_assoc front (f (get_or rs s d) ++ rest) behind)
      ∙ ap (λ (t : List ℕ). take w t) (drop_at front ((f (get_or rs s d) ++ rest) ++ behind) (s * w) (each-before f d w rs h s l) ∙ append_assoc (f (get_or rs s d)) rest behind)
      ∙ take_at (f (get_or rs s d)) (rest ++ behind) w (h s l)

  pub row_inside : (xs behind : List ℕ) → xs ≡ each f rs ++ behind → s * w + w ≤ length xs
  row_inside xs behind q =
      omega (
        arith,
        ap length q,
        length-append (each f rs) behind,
        each-length f d w rs h,
        mul-le-mul_right {m = suc s} {n = length rs} w l,
        suc-mul s w,
      )

-- a part of zeros
pub zeros-part : (k w m : ℕ) → k + w ≤ m → ◌≡◌ {A = List ℕ} (take w (drop k (replicate m 0))) (replicate w 0)
zeros-part k w m h =
    let r : ℕ = m - (k + w) in
    let e : m ≡ k + (w + r) = omega arith in
    let zeros : ℕ → List ℕ = λ n. replicate n 0 in
    ap (λ (n : ℕ). take w (drop k (zeros n))) e
    ∙ ap (λ (t : List ℕ). take w (drop k t)) (sym (replicate-append-replicate k (w + r) 0))
    ∙ ap (λ (t : List ℕ). take w t) (drop_at (zeros k) (zeros (w + r)) k (length-replicate {A = ℕ} k 0) ∙ sym (replicate-append-replicate w r 0))
    ∙ take_at (zeros w) (zeros r) w (length-replicate {A = ℕ} w 0)
