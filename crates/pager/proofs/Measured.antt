-- The measure of the states, read in the buffers. Assumes nothing.
use mathlib.Core.Bool.{Bool, true, false, cond}
use mathlib.Core.List.{List, [], ◌∷◌, ◌++◌, append_assoc}
use mathlib.Core.Path.{◌≡◌, refl, sym, ap, ap₂, ◌∙◌}
use Prim.Native.Nat.{ℕ, zero, suc, ◌+◌, ◌-◌, ◌*◌}
use native.Mathlib.Omega.{arith}
use lib.ListN.{length, get_or, take, drop, replicate}
use lib.Seq.{take_at, drop_at}
use Rattle.block.specs.Limits.{WORDS, ITEM}
use Rattle.block.proofs.Joins.{weigh}
use Rattle.itemset.specs.Rows.{Row, row, words_of, Sets}
use Rattle.itemset.proofs.Put.{value}
use Rattle.pager.specs.Lists.{each}
use Rattle.pager.specs.Place.{State, Limits, items}
use Rattle.pager.specs.Memory.{pad, item_words, mark_words}
use Rattle.pager.specs.Held.{Behind, Held, count_of}
use Rattle.pager.specs.declared.room.Count.{Count}
use Rattle.pager.proofs.GraphFuel.{bit_of, phi}
use Rattle.pager.proofs.Memory.{AllSets, growing-sets}

-- the value of n rows, and how many of n states are closed
unfoldable pub value_at : ℕ → List ℕ → ℕ
value_at zero ws = 0
value_at (suc n) ws = 1 + weigh (take WORDS (drop 1 ws)) + value_at n (drop ITEM ws)

unfoldable pub closed_at : ℕ → List ℕ → ℕ
closed_at zero ws = 0
closed_at (suc n) ws = 1 - get_or ws 1 0 + closed_at n (drop 2 ws)

unfoldable pub phi_of : Count → List ℕ → List ℕ → ℕ
phi_of count items marks = 2 * count.states + 2 * value_at count.items items + closed_at count.states marks

rows-value : (rs : List Row) → Sets rs → (n : ℕ) (ws : List ℕ) → value_at (length rs + n) (words_of rs ++ ws) ≡ value rs + value_at n ws
unfolding value_at words_of
rows-value [] h n ws = ap (λ (k : ℕ). value_at k ws) (zero-plus n) ∙ sym (zero-plus (value_at n ws))
  where
    zero-plus : (n : ℕ) → 0 + n ≡ n
    zero-plus n = omega arith
rows-value (row i s ∷ rs) h n ws =
    ap (λ (k : ℕ). value_at k (i ∷ ((s ++ words_of rs) ++ ws))) (suc-plus (length rs) n)
    ∙ ap (λ (t : List ℕ). 1 + weigh (take WORDS t) + value_at (length rs + n) (drop WORDS t)) (append_assoc s (words_of rs) ws)
    ∙ ap₂ (λ (t u : List ℕ). 1 + weigh t + value_at (length rs + n) u) (take_at s (words_of rs ++ ws) WORDS h.0.0) (drop_at s (words_of rs ++ ws) WORDS h.0.0)
    ∙ ap (λ (k : ℕ). 1 + weigh s + k) (rows-value rs h.1 n ws)
    ∙ plus (1 + weigh s) (value rs) (value_at n ws)
  where
    suc-plus : (k n : ℕ) → suc k + n ≡ suc (k + n)
    suc-plus k n = omega arith

    plus : (a c d : ℕ) → a + (c + d) ≡ a + c + d
    plus a c d = omega arith

abbrev values : List State → ℕ
values [] = 0
values (st ∷ ss) = value st.rows + values ss

abbrev closed_ones : List State → ℕ
closed_ones [] = 0
closed_ones (st ∷ ss) = bit_of st.closed + closed_ones ss

phi-parts : (ss : List State) → phi ss ≡ 2 * length ss + 2 * values ss + closed_ones ss
phi-parts [] = refl
phi-parts (st ∷ ss) = omega (arith, phi-parts ss)

items-value : (ss : List State) → AllSets ss → (ws : List ℕ) → value_at (items ss) (item_words ss ++ ws) ≡ values ss
unfolding value_at items item_words each
items-value [] h ws = refl
items-value (st ∷ ss) h ws =
    ap (λ (t : List ℕ). value_at (length st.rows + items ss) t) (append_assoc (words_of st.rows) (item_words ss) ws)
    ∙ rows-value st.rows (h 0 (omega arith)) (items ss) (item_words ss ++ ws)
    ∙ ap (λ (k : ℕ). value st.rows + k) (items-value ss (λ n l. h (suc n) (omega arith)) ws)

marks-closed : (ss : List State) (ws : List ℕ) → closed_at (length ss) (mark_words ss ++ ws) ≡ closed_ones ss
unfolding closed_at mark_words each
marks-closed [] ws = refl
marks-closed (st ∷ ss) ws = ap₂ ◌+◌ (bit st.closed) (marks-closed ss ws)
  where
    bit : (c : Bool) → 1 - cond c 0 1 ≡ bit_of c
    bit true = refl
    bit false = refl

pub phi-read : {b : List ℕ} {m : Limits} {ss : List State} {z : Behind} {i s e k : List ℕ} → Held b m ss z i s e k → (count : Count) → count ≡ count_of ss
    → phi_of count i k ≡ phi ss
unfolding phi_of pad
phi-read {b} {m} {ss} {z} {i} {s} {e} {k} H count q =
    let v : value_at (items ss) i ≡ values ss =
    (ap (λ (t : List ℕ). value_at (items ss) t) (H.items-is ∙ append_assoc (item_words ss) (replicate (ITEM * m.items - length (item_words ss)) 0) z.items)
    ∙ items-value ss (growing-sets H.growing) (replicate (ITEM * m.items - length (item_words ss)) 0 ++ z.items)) in
    let c : closed_at (length ss) k ≡ closed_ones ss =
    (ap (λ (t : List ℕ). closed_at (length ss) t) (H.marks-is ∙ append_assoc (mark_words ss) (replicate (2 * m.states - length (mark_words ss)) 0) z.marks)
    ∙ marks-closed ss (replicate (2 * m.states - length (mark_words ss)) 0 ++ z.marks)) in
    ap (λ (r : Count). phi_of r i k) q ∙ omega (arith, v, c, phi-parts ss)
