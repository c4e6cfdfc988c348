-- Equal kernels have equal rows, as a statement: so `equal` of two kernels is equality of their rows, and of their words. Assumes nothing.
use Rattle.std.specs.Prelude.{List, ◌≡◌}
use Rattle.knuth.specs.Kernel.{◌≈◌}
use Rattle.itemset.specs.Rows.{Row, words_of, From, Sets}
use Rattle.itemset.specs.Kernel.{kernel_of}

pub record Equal : Type 0 where
  pub rows : (rs ss : List Row) → From 0 rs → Sets rs → From 0 ss → Sets ss → kernel_of rs ≈ kernel_of ss → rs ≡ ss
  pub words : (rs ss : List Row) → Sets rs → Sets ss → words_of rs ≡ words_of ss → rs ≡ ss
