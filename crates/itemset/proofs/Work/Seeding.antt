-- The rows of a kernel come in, one after the other, as they stand in its words. Assumes nothing.
use mathlib.Core.List.{List}
use mathlib.Core.Path.{◌≡◌, sym, ap, ◌∙◌, subst}
use Prim.Native.Nat.{ℕ, ◌+◌, ◌*◌, ◌/◌, ◌%◌, ◌<◌}
use native.Mathlib.Omega.{arith}
use lib.ListN.{length, get_or, take, drop}
use Rattle.block.specs.Limits.{WORDS, ITEM, DOTS, PRODS}
use Rattle.block.specs.Block.{prods}
use Rattle.block.specs.Sets.{Fits}
use Rattle.block.specs.First.{firsts_of}
use Rattle.block.proofs.Good.{placed}
use Rattle.itemset.specs.declared.closure.Closure.{Closure}
use Rattle.itemset.specs.Rows.{Row, row, Item}
use Rattle.itemset.specs.Kernel.{kernel_of}
use Rattle.itemset.specs.Work.{TookAt, HandedOn, Working, ForSeed}
use Rattle.itemset.proofs.Words.{item_of, context_of, no_row}
use Rattle.itemset.proofs.Has.{Has, has-fits}
use Rattle.itemset.proofs.RowAt.{has-at}
use Rattle.itemset.proofs.LentRows.{in_rows, in_row, in-known}
use Rattle.itemset.proofs.GoodReady.{good-ready}
use Rattle.itemset.proofs.Inside.{Sound}
use Rattle.itemset.proofs.WorkList.{kernel-sound}
use Rattle.itemset.proofs.Work.Steps.{handed-work, handed-done, row-work, entered-work, entered-zero}

module _ (b ws : List ℕ) (K : List Row) (start : Closure) (S : ForSeed b ws K start) where
  -- all rows are in
  pub seed-all : (z : Closure) (k : ℕ) → k ≡ length ws / ITEM → Working b (firsts_of b) K k (prods b) z
      → Working b (firsts_of b) K (length K) (prods b) z
  seed-all z k e T = subst (λ n. Working b (firsts_of b) K n (prods b) z) (e ∙ in_rows S.kernel) T

  module _ (k : ℕ) (l : k < length ws / ITEM) where
    below : k < length K
    below = omega (arith, in_rows S.kernel)

    -- the item of row k
    abbrev pub item : ℕ
    item = get_or ws (ITEM * k) 0

    pub seed-item : Item b item
    seed-item = in-known S.kernel k below

    pub seed-low : item / DOTS < PRODS
    seed-low = let a = seed-item.prod in let m = (placed S.kernel.good).prods-most in omega arith

    -- and its context
    module _ (s : List ℕ) (es : s ≡ take WORDS (drop (ITEM * k + 1) ws)) where
      is_row : get_or K k no_row ≡ row item s
      is_row = in_row S.kernel k below ∙ ap {B = Row} (row item) (sym es)

      has : Has item s K
      has = subst (λ r. Has (item_of r) (context_of r) K) is_row (has-at K k below)

      sound : Sound b (kernel_of K) item s
      sound = kernel-sound b K S.kernel.rows item s has

      fits : Fits WORDS s
      fits = has-fits item s K S.kernel.rows.sets has

      module _ (y : Closure) (T : Working b (firsts_of b) K k (prods b) y) where
        -- it has dot 0
        pub seed-zero : item % DOTS ≡ 0 → (z : Closure) → TookAt (item / DOTS) s y z → Working b (firsts_of b) K (k + 1) (prods b) z
        seed-zero e z A =
            row-work b (firsts_of b) K k (prods b) z item s is_row
            (entered-work b (firsts_of b) K k (prods b) y T item s sound fits e z A)
            (entered-zero b (firsts_of b) K k (prods b) y T item s sound fits e z A)

        -- it has another dot
        pub seed-more : (item % DOTS ≡ 0 → ⊥) → (z : Closure) → HandedOn b (firsts_of b) item s y z
            → Working b (firsts_of b) K (k + 1) (prods b) z
        seed-more d z H =
            row-work b (firsts_of b) K k (prods b) z item s is_row
            (handed-work b (firsts_of b) K k (prods b) (good-ready S.kernel.good) y z T item s sound fits H)
            (record {
              below = sound.below;
              zero-mark = λ e. absurd (d e);
              zero-set = λ e. absurd (d e);
              more = λ e. handed-done b (firsts_of b) K k (prods b) (good-ready S.kernel.good) y z T item s sound fits H;
            })
