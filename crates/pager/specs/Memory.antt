-- The graph as whole named parts of lent memory, zero where nothing stands. Assumes nothing.
use Rattle.std.specs.Prelude.{cond, List, [], ◌∷◌, ◌++◌, ℕ, ◌+◌, ◌-◌, length, replicate}
use Rattle.itemset.specs.Rows.{words_of}
use Rattle.pager.specs.Lists.{each}
use Rattle.pager.specs.Place.{State}

unfoldable pub pad : ℕ → List ℕ → List ℕ
pad n ws = ws ++ replicate (n - length ws) 0

-- the kernel items of all states
unfoldable pub item_words : List State → List ℕ
item_words ss = each (λ st. words_of st.rows) ss

-- first item and item count of each state, k items standing before
unfoldable pub spans_from : ℕ → List State → List ℕ
spans_from k [] = []
spans_from k (st ∷ ss) = k ∷ length st.rows ∷ spans_from (k + length st.rows) ss

unfoldable pub edge_words : List State → List ℕ
edge_words ss = each (λ st. st.edges) ss

-- the symbol that each state was made for, and whether it is to be closed
unfoldable pub mark_words : List State → List ℕ
mark_words ss = each (λ st. st.made ∷ cond st.closed 0 1 ∷ []) ss
