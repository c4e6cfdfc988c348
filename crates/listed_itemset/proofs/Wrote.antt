-- Rows that were written to the front of a room: how far they reach, and that the part in front is theirs. Assumes nothing.
use mathlib.Core.List.{List}
use mathlib.Core.Path.{◌≡◌, sym, ap, ◌∙◌}
use Prim.Native.Nat.{ℕ, ◌*◌, ◌≤◌}
use native.Mathlib.Omega.{arith}
use lib.ListN.{length, take, drop, length-append}
use lib.Seq.{take_at}
use Rattle.block.specs.Limits.{ITEM}
use Rattle.block.specs.First.{firsts_of}
use Rattle.itemset.specs.Rows.{Row, words_of, Sets, Rows}
use Rattle.itemset.specs.Close.{close_of}
use Rattle.itemset.specs.Lent.{RowsIn, ForClosure, Wrote, over}
use Rattle.itemset.proofs.Words.{words-length}
use Rattle.itemset.proofs.GoodReady.{good-ready}
use Rattle.itemset.proofs.Fuel.{close-rows}

module _ {rs : List Row} {n : ℕ} {out after : List ℕ} (h : Sets rs) (W : Wrote rs n out after) where
  wrote-length : length (words_of rs) ≡ ITEM * n
  wrote-length = words-length rs h ∙ ap (λ (k : ℕ). ITEM * k) (sym W.count)

  pub wrote-part : take (ITEM * n) after ≡ words_of rs
  unfolding over
  wrote-part =
      ap (λ (v : List ℕ). take (ITEM * n) v) W.words ∙ take_at (words_of rs) (drop (length (words_of rs)) out) (ITEM * n) wrote-length

  pub wrote-counts : ITEM * n ≡ length (take (ITEM * n) after)
  wrote-counts = sym (ap length wrote-part ∙ wrote-length)

  pub wrote-fits : ITEM * n ≤ length after
  unfolding over
  wrote-fits =
      let e : length after ≡ length (over (words_of rs) out) = ap length W.words in
      omega (arith, wrote-length, length-append (words_of rs) (drop (length (words_of rs)) out))

-- the closed rows of a kernel
module _ {b ws out : List ℕ} {K : List Row} (G : ForClosure b ws out K) where
  closed : Rows b (close_of b (firsts_of b) K)
  closed = close-rows b (firsts_of b) (good-ready G.kernel.good) K G.kernel.rows

  pub closed-sets : Sets (close_of b (firsts_of b) K)
  closed-sets = closed.sets

  pub closed_in : {n : ℕ} {after : List ℕ} → Wrote (close_of b (firsts_of b) K) n out after
      → RowsIn b (take (ITEM * n) after) (close_of b (firsts_of b) K)
  closed_in W = record { good = G.kernel.good; rows = closed; words = wrote-part closed-sets W }
