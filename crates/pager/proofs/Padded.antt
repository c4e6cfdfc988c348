-- A list padded with zeros, and other words behind: written at its end, written and read within. Assumes nothing.
use mathlib.Core.List.{List, [], ◌∷◌, ◌++◌, append_assoc}
use mathlib.Core.Path.{◌≡◌, sym, ap, ◌∙◌}
use Prim.Native.Nat.{ℕ, zero, suc, ◌+◌, ◌-◌, ◌<◌, ◌≤◌}
use native.Mathlib.Omega.{arith}
use lib.ListN.{length, get_or, drop, set, replicate, length-append, length-replicate, length-set, replicate-append-replicate, get_or-append}
use lib.Seq.{paste, set_at, set-append_left, take-append_seam, drop-append-add, drop-append-le, take-length}
use Rattle.pager.specs.Memory.{pad}

drop-zeros : (k m : ℕ) → ◌≡◌ {A = List ℕ} (drop k (replicate (k + m) 0)) (replicate m 0)
drop-zeros zero m = ap (λ (n : ℕ). replicate n 0) (zero-plus m)
  where
    zero-plus : (m : ℕ) → zero + m ≡ m
    zero-plus m = omega arith
drop-zeros (suc k) m = ap (λ (n : ℕ). drop (suc k) (replicate n 0)) (suc-plus k m) ∙ drop-zeros k m
  where
    suc-plus : (k m : ℕ) → suc k + m ≡ suc (k + m)
    suc-plus k m = omega arith

pub length-pad : (n : ℕ) (xs : List ℕ) → length xs ≤ n → length (pad n xs) ≡ n
unfolding pad
length-pad n xs h = omega (arith, length-append xs (replicate (n - length xs) 0), length-replicate {A = ℕ} (n - length xs) 0)

-- zeros at the end are padding
pub pad-zeros : (n : ℕ) (xs : List ℕ) (k : ℕ) → length xs + k ≤ n → pad n (xs ++ replicate k 0) ≡ pad n xs
unfolding pad
pad-zeros n xs k h =
    let m : ℕ = n - (length xs + k) in
    let e : n - length xs ≡ k + m = omega arith in
    let f : n - length (xs ++ replicate k 0) ≡ m = omega (arith, length-append xs (replicate k 0), length-replicate {A = ℕ} k 0) in
    rw (e, f) (append_assoc xs (replicate k 0) (replicate m 0) ∙ ap (λ (t : List ℕ). xs ++ t) (replicate-append-replicate k m 0))

module _ (n : ℕ) (xs z : List ℕ) where
  pub pad-put : (ys : List ℕ) → length xs + length ys ≤ n → paste (pad n xs ++ z) (length xs) ys (length ys) ≡ pad n (xs ++ ys) ++ z
  unfolding pad
  pad-put ys h =
      let m : ℕ = n - (length xs + length ys) in
      let e : n - length xs ≡ length ys + m = omega arith in
      let f : n - length (xs ++ ys) ≡ m = ap (λ (k : ℕ). n - k) (length-append xs ys) in
      rw (
        e,
        f,
        append_assoc xs (replicate (length ys + m) 0) z,
        take-append_seam xs (replicate (length ys + m) 0 ++ z),
        drop-append-add xs (replicate (length ys + m) 0 ++ z) (length ys),
        take-length ys,
        drop-append-le (length ys) (replicate (length ys + m) 0) z (omega (arith, length-replicate {A = ℕ} (length ys + m) 0)),
        drop-zeros (length ys) m,
      )
      (sym (append_assoc (xs ++ ys) (replicate m 0) z))

  pub pad-one : (k v : ℕ) → length xs ≡ k → k < n → set (pad n xs ++ z) k v ≡ pad n (xs ++ (v ∷ [])) ++ z
  unfolding pad
  pad-one k v q h =
      let m : ℕ = n - (length xs + 1) in
      let e : n - length xs ≡ suc m = omega arith in
      let f : n - length (xs ++ (v ∷ [])) ≡ m = ap (λ (k : ℕ). n - k) (length-append xs (v ∷ [])) in
      rw (e, f, append_assoc xs (0 ∷ replicate m 0) z, set_at xs 0 (replicate m 0 ++ z) v k q)
      (sym (append_assoc (xs ++ (v ∷ [])) (replicate m 0) z ∙ append_assoc xs (v ∷ []) (replicate m 0 ++ z)))

  pub pad-at : (k : ℕ) → k < length xs → get_or (pad n xs ++ z) k 0 ≡ get_or xs k 0
  unfolding pad
  pad-at k l = ap (λ (t : List ℕ). get_or t k 0) (append_assoc xs (replicate (n - length xs) 0) z) ∙ get_or-append xs (replicate (n - length xs) 0 ++ z) 0 k l

  pub pad-set : (k v : ℕ) → k < length xs → set (pad n xs ++ z) k v ≡ pad n (set xs k v) ++ z
  unfolding pad
  pad-set k v l =
      rw (append_assoc xs (replicate (n - length xs) 0) z, set-append_left xs (replicate (n - length xs) 0 ++ z) k v l, length-set xs k v)
      (sym (append_assoc (set xs k v) (replicate (n - length xs) 0) z))

  pub pad-long : length xs ≤ n → n ≤ length (pad n xs ++ z)
  pad-long h = omega (arith, length-append (pad n xs) z, length-pad n xs h)

-- two words, one behind the other
pub pad-two : (n : ℕ) (xs z : List ℕ) (k v w : ℕ) → length xs ≡ k → k + 1 < n → set (set (pad n xs ++ z) k v) (k + 1) w ≡ pad n (xs ++ (v ∷ w ∷ [])) ++ z
pad-two n xs z k v w q h =
    ap (λ (t : List ℕ). set t (k + 1) w) (pad-one n xs z k v q (omega arith))
    ∙ pad-one n (xs ++ (v ∷ [])) z (k + 1) w (omega (arith, length-append xs (v ∷ []))) h
    ∙ ap (λ (t : List ℕ). pad n t ++ z) (append_assoc xs (v ∷ []) (w ∷ []))
