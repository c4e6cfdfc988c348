-- A run moved down within one list, word by word: what is read is not yet overwritten. Assumes nothing.
use mathlib.Core.List.{List, map}
use mathlib.Core.Path.{◌≡◌, sym, ap, ◌∙◌}
use Prim.Native.Nat.{ℕ, ◌+◌, ◌-◌, ◌≤◌, ◌<◌}
use native.Mathlib.Omega.{arith}
use native.Mathlib.Numerals.{add-one}
use lib.ListN.{length, get_or, drop, set, length-drop, length-map}
use lib.Seq.{paste, paste-suc, drop-paste, get_or-drop}
use Rattle.pager.proofs.Ranks.{map_at}

-- ws is the list d with the first i words of s at place b, and is read at place a + i
module _ (d s ws : List ℕ) (a b i : ℕ) (e : ws ≡ paste d b s i) (down : b ≤ a) (in-d : a + i < length d) (in-s : i < length s) where
  move_read : get_or ws (a + i) 0 ≡ get_or d (a + i) 0
  move_read =
      let k : ℕ = a - b in
      let z : b + i + k ≡ a + i = omega arith in
      ap (λ l. get_or l (a + i) 0) e
      ∙ ap (λ n. get_or (paste d b s i) n 0) (sym z)
      ∙ sym (get_or-drop (b + i) (paste d b s i) k 0)
      ∙ ap (λ l. get_or l k 0) (drop-paste d b s i (omega arith) (omega arith))
      ∙ get_or-drop (b + i) d k 0
      ∙ ap (λ n. get_or d n 0) z

  move-more : (v : ℕ) → v ≡ get_or s i 0 → set ws (b + i) v ≡ paste d b s (i + 1)
  move-more v q = rw (add-one, e, q) (paste-suc d b s i 0 (omega arith) in-s)

-- each word changed by f
module _ (d ws : List ℕ) (a b i : ℕ) (down : b ≤ a) (in-d : a + i < length d) (f : ℕ → ℕ) (z : f 0 ≡ 0) (e : ws ≡ paste d b (map f (drop a d)) i) where
  inside : i < length (map f (drop a d))
  inside = omega (arith, length-drop a d, length-map (drop a d) f)

  pub read-changed : get_or ws (a + i) 0 ≡ get_or d (a + i) 0
  read-changed = move_read d (map f (drop a d)) ws a b i e down in-d inside

  pub move-changed : (v : ℕ) → v ≡ f (get_or ws (a + i) 0) → set ws (b + i) v ≡ paste d b (map f (drop a d)) (i + 1)
  move-changed v q =
      move-more d (map f (drop a d)) ws a b i e down in-d inside v
      (q ∙ ap f (read-changed ∙ sym (get_or-drop a d i 0)) ∙ sym (map_at f z (drop a d) i))
