-- Room that a call used: its front, and what stands behind. Assumes nothing.
use mathlib.Core.List.{List, ◌++◌}
use mathlib.Core.Path.{◌≡◌, refl, sym, ap, ◌∙◌}
use Prim.Native.Nat.{ℕ, ◌+◌, ◌-◌, ◌*◌, ◌≤◌}
use native.Mathlib.Omega.{arith}
use lib.ListN.{length, take, drop, length-append, length-drop}
use lib.Seq.{take_at, drop-append-add, drop-drop}
use Rattle.block.specs.Limits.{ITEM}
use Rattle.itemset.specs.Rows.{Row, words_of, Sets}
use Rattle.itemset.specs.Lent.{over, Wrote}
use Rattle.itemset.proofs.Words.{words-length}
use Rattle.pager.specs.Building.{Scratch}

pub scratch-refl : (n : ℕ) (d : List ℕ) → Scratch n d d
scratch-refl n d = record { size = refl; behind = refl }

pub scratch-trans : {n : ℕ} {c d e : List ℕ} → Scratch n c d → Scratch n d e → Scratch n c e
scratch-trans S T = record { size = T.size ∙ S.size; behind = T.behind ∙ S.behind }

module _ {rs : List Row} {k : ℕ} {before after : List ℕ} (W : Wrote rs k before after) (sets : Sets rs) where
  words_are : length (words_of rs) ≡ ITEM * k
  words_are = words-length rs sets ∙ ap (λ (j : ℕ). ITEM * j) (sym W.count)

  -- the rows are read back
  pub wrote-front : take (ITEM * k) after ≡ words_of rs
  unfolding over
  wrote-front = ap (λ (t : List ℕ). take (ITEM * k) t) W.words ∙ take_at (words_of rs) (drop (length (words_of rs)) before) (ITEM * k) words_are

  pub wrote-scratch : (n : ℕ) → length rs ≤ n → ITEM * n ≤ length before → Scratch (ITEM * n) before after
  unfolding over
  wrote-scratch n l h =
      let q : List ℕ = words_of rs in
      let e = words_are in
      let c = W.count in
      let d : ITEM * n ≡ length q + (ITEM * n - length q) = omega arith in
      record {
        size = ap length W.words ∙ omega (arith, length-append q (drop (length q) before), length-drop (length q) before);
        behind =
            ap (λ (t : List ℕ). drop (ITEM * n) t) W.words
            ∙ ap (λ (j : ℕ). drop j (q ++ drop (length q) before)) d
            ∙ drop-append-add q (drop (length q) before) (ITEM * n - length q)
            ∙ drop-drop (ITEM * n - length q) (length q) before
            ∙ ap (λ (j : ℕ). drop j before) (sym d);
      }
