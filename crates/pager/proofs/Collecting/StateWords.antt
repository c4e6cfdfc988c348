-- Where the words of one state stand among those of all. Assumes nothing.
use mathlib.Core.List.{List, [], ◌∷◌, ◌++◌}
use mathlib.Core.Path.{◌≡◌}
use Prim.Native.Nat.{ℕ, zero, suc, ◌+◌, ◌*◌, ◌≤◌, ◌<◌}
use native.Mathlib.Nat.{suc-mul, mul-le-mul_right}
use native.Mathlib.Omega.{arith}
use lib.ListN.{length, get_or, take, drop, length-append}
use lib.Seq.{take_at, drop_at}
use Rattle.block.specs.Limits.{ITEM}
use Rattle.itemset.specs.Rows.{words_of}
use Rattle.itemset.proofs.Words.{words-length}
use Rattle.pager.specs.Lists.{each}
use Rattle.pager.specs.Place.{State, items}
use Rattle.pager.specs.Graph.{nowhere}
use Rattle.pager.specs.Memory.{item_words, edge_words}
use Rattle.pager.specs.Collecting.{Shaped}
use Rattle.pager.proofs.Each.{each_at, each-length, each-before}
use Rattle.pager.proofs.Memory.{AllSets, items-before}

-- the words of the n-th, p words standing before
each_part : {A : Type 0} (f : A → List ℕ) (xs : List A) (n : ℕ) (d : A) → n < length xs → (p k : ℕ) → length (each f (take n xs)) ≡ p
    → length (f (get_or xs n d)) ≡ k → take k (drop p (each f xs)) ≡ f (get_or xs n d)
each_part f xs n d l p k e g =
    rw (each_at f d xs n l, drop_at (each f (take n xs)) (f (get_or xs n d) ++ each f (drop (suc n) xs)) p e)
    (take_at (f (get_or xs n d)) (each f (drop (suc n) xs)) k g)

pub items-le : (n : ℕ) (ss : List State) → items (take n ss) ≤ items ss
unfolding items
items-le zero ss = omega arith
items-le (suc n) [] = omega arith
items-le (suc n) (st ∷ ss) = let h = items-le n ss in omega arith

pub edges_le : (n : ℕ) (ss : List State) → length (edge_words (take n ss)) ≤ length (edge_words ss)
unfolding edge_words each
edges_le zero ss = omega arith
edges_le (suc n) [] = omega arith
edges_le (suc n) (st ∷ ss) = omega (arith, edges_le n ss, length-append st.edges (edge_words (take n ss)), length-append st.edges (edge_words ss))

module _ {w : ℕ} {ss : List State} (S : Shaped w ss) where
  pub edges-length : length (edge_words ss) ≡ length ss * w
  unfolding edge_words
  edges-length = each-length (λ st. st.edges) nowhere w ss S.wide

  module _ (n : ℕ) (l : n < length ss) where
    pub edges-before : length (edge_words (take n ss)) ≡ n * w
    unfolding edge_words
    edges-before = each-before (λ st. st.edges) nowhere w ss S.wide n l

    pub edges-row : take w (drop (n * w) (edge_words ss)) ≡ (get_or ss n nowhere).edges
    unfolding edge_words
    edges-row = each_part (λ st. st.edges) ss n nowhere l (n * w) w edges-before (S.wide n l)

    pub edges-inside : n * w + w ≤ length (edge_words ss)
    edges-inside = omega (arith, edges-length, suc-mul n w, mul-le-mul_right {m = suc n} {n = length ss} w l)

pub items-part : (ss : List State) → AllSets ss → (n : ℕ) → n < length ss
    → take (ITEM * length (get_or ss n nowhere).rows) (drop (ITEM * items (take n ss)) (item_words ss)) ≡ words_of (get_or ss n nowhere).rows
unfolding item_words
items-part ss h n l =
    each_part (λ st. words_of st.rows) ss n nowhere l (ITEM * items (take n ss)) (ITEM * length (get_or ss n nowhere).rows) (items-before ss h n l)
    (words-length (get_or ss n nowhere).rows (h n l))
