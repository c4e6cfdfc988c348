-- Rule 6 as a statement: the test and the union on rows are weak compatibility and union of kernels (knuth). Assumes nothing.
use Rattle.std.specs.Prelude.{true, List, ◌↔◌, ◌≡◌, ℕ, length}
use Rattle.knuth.specs.Kernel.{◌≈◌}
use Rattle.knuth.specs.Pager.{Compatible}
use Rattle.knuth.specs.Kernel as kernels
use Rattle.itemset.specs.Rows.{Row, same_rows, Rows}
use Rattle.itemset.specs.Kernel.{kernel_of}
use Rattle.pager.specs.Weak.{compatible, union}

-- of the rows K and L of two states
pub record Rule6 (b : List ℕ) (K L : List Row) : Type 1 where
  pub equal : (same_rows K L ≡ true) ↔ (K ≡ L)
  pub weak : (compatible K L ≡ true) ↔ Compatible (kernel_of K) (kernel_of L)
  -- of two that are weakly compatible the union is a state's rows, as many as there were
  pub rows : compatible K L ≡ true → Rows b (union K L)
  pub kernel : compatible K L ≡ true → kernel_of (union K L) ≈ kernels.union (kernel_of K) (kernel_of L)
  pub size : length (union K L) ≡ length K
