-- Whether a number is an item of the grammar, as a test. Assumes nothing.
use Rattle.std.specs.Prelude.{Bool, ◌&&◌, List, ℕ, ◌/◌, ◌%◌, ltb, leb}
use Rattle.block.specs.Limits.{DOTS}
use Rattle.block.specs.Block.{prods, length_of}

unfoldable pub item_right : List ℕ → ℕ → Bool
item_right b k = ltb (k / DOTS) (prods b) && leb (k % DOTS) (length_of b (k / DOTS))
