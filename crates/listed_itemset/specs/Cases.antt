-- When a line of the list of closures holds. Assumes nothing.
use Rattle.std.specs.Prelude.{List, [], ◌∷◌, ◌++◌, ◌≡◌, ℕ, ◌+◌, ◌*◌, ◌≤◌, length}
use Rattle.words.specs.Given.{as_part, Part, Given}
use Rattle.block.specs.Limits.{ITEM}
use Rattle.block.specs.Block.{prods, symbols}
use Rattle.block.specs.Refusal.{Good}
use Rattle.block.specs.First.{firsts_of}
use Rattle.itemset.specs.Rows.{Row, words_of}
use Rattle.itemset.specs.Lent.{RowsIn}
use Rattle.itemset.specs.Close.{close_of}
use Rattle.itemset.specs.Goto.{sights_of, goto_of}
use Rattle.listed_block.specs.Rooms.{BLOCK}

-- words of the room for rows: a block that may need more is too large for a case
abbrev pub ROWS : ℕ
ROWS = 4096

-- symbol [kernel rows]  symbol [kernel rows] ..
unfoldable pub kernels_of : List ℕ → List Row → List ℕ → List ℕ
kernels_of b C [] = []
kernels_of b C (x ∷ xs) = x ∷ (as_part (words_of (goto_of b C x)) ++ kernels_of b C xs)

-- count  symbol [kernel rows]  symbol [kernel rows] ..
abbrev pub goto_words : List ℕ → List Row → List ℕ
goto_words b C = length (sights_of b C) ∷ kernels_of b C (sights_of b C)

-- [kernel rows] → [closed rows] and the gotos
abbrev pub KernelCase : List ℕ → List ℕ → List ℕ → Type 0
KernelCase b kernel expected =
    (ITEM * (symbols b + prods b) ≤ ROWS)
    × ((K : List Row)
    × RowsIn b kernel K
    × (expected ≡ as_part (words_of (close_of b (firsts_of b) K)) ++ goto_words b (close_of b (firsts_of b) K)))

-- closures.txt: [good block] [kernel rows] → [closed rows] count  symbol [kernel rows] ..
abbrev pub ClosureCase : List ℕ → Type 0
ClosureCase = Given BLOCK (λ b rest. Good b × Part (KernelCase b) rest)
