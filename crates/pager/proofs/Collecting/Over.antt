-- A list overwritten from its front on: what is written so far, and behind it the list as it was. Assumes nothing.
use mathlib.Core.List.{List, [], ◌∷◌, ◌++◌, append_assoc}
use mathlib.Core.Path.{◌≡◌, refl, sym, ap, ◌∙◌}
use Prim.Native.Nat.{ℕ, suc, ◌+◌, ◌-◌, ◌≤◌, ◌<◌}
use native.Mathlib.Omega.{arith}
use lib.ListN.{length, get_or, take, drop, set, length-append, length-drop}
use lib.Seq.{paste, take_at, drop_at, set_at, drop-cons, drop-drop, get_or-drop, append_snoc, length-take-le}
use Rattle.pager.specs.Memory.{pad}

abbrev pub over : List ℕ → List ℕ → List ℕ
over ps o = ps ++ drop (length ps) o

module _ (ps o ws : List ℕ) (e : ws ≡ over ps o) (fit : length ps ≤ length o) where
  pub over-length : length ws ≡ length o
  over-length = omega (arith, ap length e, length-append ps (drop (length ps) o), length-drop (length ps) o)

  -- read behind what is written
  pub over-drop : (a : ℕ) → length ps ≤ a → drop a ws ≡ drop a o
  over-drop a l =
      let k : ℕ = a - length ps in
      let z : length ps + k ≡ a = omega arith in
      rw (e, ← z, ← drop-drop k (length ps) (ps ++ drop (length ps) o), drop_at ps (drop (length ps) o) (length ps) refl)
      (drop-drop k (length ps) o)

  pub over-at : (k : ℕ) → length ps ≤ k → get_or ws k 0 ≡ get_or o k 0
  over-at k l =
      let z : k + 0 ≡ k = omega arith in
      ap (λ i. get_or ws i 0) (sym z) ∙ sym (get_or-drop k ws 0 0) ∙ ap (λ r. get_or r 0 0) (over-drop k l) ∙ get_or-drop k o 0 0 ∙ ap (λ i. get_or o i 0) z

  -- a run more
  pub over-paste : (b : ℕ) → length ps ≡ b → (s : List ℕ) (n : ℕ) → n ≤ length s → paste ws b s n ≡ over (ps ++ take n s) o
  over-paste b q s n l =
      let y : length (ps ++ take n s) ≡ b + n = omega (arith, length-append ps (take n s), length-take-le n s l) in
      rw (over-drop (b + n) (omega arith), y, e, take_at ps (drop (length ps) o) b q) refl

  -- a word more
  over-one : (b v : ℕ) → length ps ≡ b → b < length o → set ws b v ≡ over (ps ++ (v ∷ [])) o
  over-one b v q l =
      let y : length (ps ++ (v ∷ [])) ≡ suc b = omega (arith, length-append ps (v ∷ [])) in
      rw (e, y, q, drop-cons o b 0 l, set_at ps (get_or o b 0) (drop (suc b) o) v b q) (sym (append_snoc ps v (drop (suc b) o)))

  -- what is left behind is made zero
  pub over-pad : (b : ℕ) → length ps ≡ b → pad (length ws) (take b ws) ≡ pad (length o) ps
  over-pad b q = rw (over-length, e, take_at ps (drop (length ps) o) b q) refl

pub over-two : (ps o ws : List ℕ) → ws ≡ over ps o → (b u v : ℕ) → length ps ≡ b → b + 1 < length o
    → set (set ws b u) (b + 1) v ≡ over (ps ++ (u ∷ v ∷ [])) o
over-two ps o ws e b u v q l =
    over-one (ps ++ (u ∷ [])) o (set ws b u) (over-one ps o ws e (omega arith) b u q (omega arith)) (omega (arith, length-append ps (u ∷ []))) (b + 1) v
    (omega (arith, length-append ps (u ∷ []))) l
    ∙ ap (λ qs. over qs o) (append_assoc ps (u ∷ []) (v ∷ []))
