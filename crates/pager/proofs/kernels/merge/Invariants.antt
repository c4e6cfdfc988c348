-- The first i contexts are joined. Assumes nothing.
use Rattle.std.proofs.Common.{not, List, ◌≡◌, ℕ, length, take}
use Rattle.itemset.specs.Rows.{Row, same_rows}
use Rattle.pager.specs.Weak.{union}
use Rattle.pager.specs.RowWords.{RowWords, RowsAt}
use Rattle.pager.proofs.kernels.merge.Given as goal

abbrev pub invariant-loop-i : goal.invariant-loop-i
invariant-loop-i l =
    (before : List ℕ) (K : List Row) (behind : List ℕ) (L : List Row) → RowsAt l.at before K behind l.initial.items → RowWords l.b L → length K ≡ length L
    → RowsAt l.at before (union K (take l.i L)) behind l.items × (l.grew ≡ not (same_rows (union K (take l.i L)) K))
