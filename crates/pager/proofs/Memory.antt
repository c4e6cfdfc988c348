-- The states in the buffers: how long each part is, where a state stands, one state more, one state changed. Assumes nothing.
use mathlib.Core.Bool.{cond}
use mathlib.Core.List.{List, [], ◌∷◌, ◌++◌}
use mathlib.Core.Path.{◌≡◌, refl, sym, ap, ap₂, ◌∙◌, subst}
use Prim.Native.Nat.{ℕ, zero, suc, ◌+◌, ◌*◌, ◌<◌, ◌≤◌}
use native.Mathlib.Omega.{arith}
use lib.ListN.{length, get_or, take, drop, set, length-append}
use lib.Seq.{get_or-take, length-take-le}
use Rattle.block.specs.Limits.{ITEM}
use Rattle.block.specs.Lists.{change}
use Rattle.block.specs.Block.{tokens, rules}
use Rattle.itemset.specs.Rows.{words_of, Sets}
use Rattle.itemset.proofs.Words.{words-length}
use Rattle.pager.specs.Place.{State, Limits, items}
use Rattle.pager.specs.Graph.{nowhere}
use Rattle.pager.specs.Growing.{Growing}
use Rattle.pager.specs.Lists.{each}
use Rattle.pager.specs.Memory.{item_words, spans_from, edge_words, mark_words}
use Rattle.pager.proofs.Each.{each_more, each-still, each_at, each-change, each-length, each-get, each_set}

-- ---- items
abbrev pub AllSets : List State → Type 0
AllSets ss = (n : ℕ) → n < length ss → Sets (get_or ss n nowhere).rows

pub items-length : (ss : List State) → AllSets ss → length (item_words ss) ≡ ITEM * items ss
unfolding item_words each items
items-length [] h = refl
items-length (st ∷ ss) h =
    omega (arith, length-append (words_of st.rows) (item_words ss), words-length st.rows (h 0 (omega arith)), items-length ss (λ n l. h (suc n) (omega arith)))

sets-before : (ss : List State) → AllSets ss → (n : ℕ) → n < length ss → AllSets (take n ss)
sets-before ss h n l k m =
    let e : length (take n ss) ≡ n = length-take-le n ss (omega arith) in
    subst (λ st. Sets st.rows) (sym (get_or-take n ss k nowhere (omega arith))) (h k (omega arith))

pub items-before : (ss : List State) → AllSets ss → (n : ℕ) → n < length ss → length (item_words (take n ss)) ≡ ITEM * items (take n ss)
items-before ss h n l = items-length (take n ss) (sets-before ss h n l)

pub items-take : (ss : List State) (n : ℕ) → n < length ss → items (take n ss) + length (get_or ss n nowhere).rows ≤ items ss
unfolding items
items-take [] n l = absurd (omega arith)
items-take (st ∷ ss) zero l = omega arith
items-take (st ∷ ss) (suc n) l = omega (arith, items-take ss n (omega arith))

pub items_more : (ss : List State) (st : State) → item_words (ss ++ (st ∷ [])) ≡ item_words ss ++ words_of st.rows
unfolding item_words
items_more = each_more (λ st. words_of st.rows)

pub items_at : (ss : List State) (n : ℕ) → n < length ss
    → item_words ss ≡ item_words (take n ss) ++ (words_of (get_or ss n nowhere).rows ++ item_words (drop (suc n) ss))
unfolding item_words
items_at = each_at (λ st. words_of st.rows) nowhere

pub items-change : (f : State → State) (ss : List State) (n : ℕ) → n < length ss
    → item_words (change f n ss) ≡ item_words (take n ss) ++ (words_of (f (get_or ss n nowhere)).rows ++ item_words (drop (suc n) ss))
unfolding item_words
items-change = each-change (λ st. words_of st.rows) nowhere

pub items-still : (f : State → State) → ((st : State) → words_of (f st).rows ≡ words_of st.rows) → (n : ℕ) (ss : List State) → item_words (change f n ss) ≡ item_words ss
unfolding item_words
items-still = each-still (λ st. words_of st.rows)

-- ---- spans
pub spans-length : (k : ℕ) (ss : List State) → length (spans_from k ss) ≡ 2 * length ss
unfolding spans_from
spans-length k [] = refl
spans-length k (st ∷ ss) = omega (arith, spans-length (k + length st.rows) ss)

plus-zero : (n : ℕ) → n ≡ n + 0
plus-zero n = omega arith

plus : (a b c : ℕ) → a + b + c ≡ a + (b + c)
plus a b c = omega arith

two : (n : ℕ) → 2 * suc n ≡ suc (suc (2 * n))
two n = omega arith

pub spans-more : (k : ℕ) (ss : List State) (st : State) → spans_from k (ss ++ (st ∷ [])) ≡ spans_from k ss ++ ((k + items ss) ∷ length st.rows ∷ [])
unfolding spans_from items
spans-more k [] st = ap (λ (n : ℕ). n ∷ length st.rows ∷ []) (plus-zero k)
spans-more k (x ∷ ss) st =
    ap (λ (l : List ℕ). k ∷ length x.rows ∷ l)
    (spans-more (k + length x.rows) ss st
    ∙ ap (λ (n : ℕ). spans_from (k + length x.rows) ss ++ (n ∷ length st.rows ∷ [])) (plus k (length x.rows) (items ss)))

pub spans-first : (k : ℕ) (ss : List State) (n : ℕ) → n < length ss → get_or (spans_from k ss) (2 * n) 0 ≡ k + items (take n ss)
unfolding spans_from items
spans-first k [] n l = absurd (omega arith)
spans-first k (st ∷ ss) zero l = plus-zero k
spans-first k (st ∷ ss) (suc n) l =
    ap (λ (i : ℕ). get_or (k ∷ length st.rows ∷ spans_from (k + length st.rows) ss) i 0) (two n)
    ∙ spans-first (k + length st.rows) ss n (omega arith)
    ∙ plus k (length st.rows) (items (take n ss))

pub spans-count : (k : ℕ) (ss : List State) (n : ℕ) → n < length ss → get_or (spans_from k ss) (2 * n + 1) 0 ≡ length (get_or ss n nowhere).rows
unfolding spans_from
spans-count k [] n l = absurd (omega arith)
spans-count k (st ∷ ss) zero l = refl
spans-count k (st ∷ ss) (suc n) l =
    ap (λ (i : ℕ). get_or (k ∷ length st.rows ∷ spans_from (k + length st.rows) ss) i 0) (three n)
    ∙ spans-count (k + length st.rows) ss n (omega arith)
  where
    three : (n : ℕ) → 2 * suc n + 1 ≡ suc (suc (2 * n + 1))
    three n = omega arith

pub spans-change : (f : State → State) → ((st : State) → length (f st).rows ≡ length st.rows) → (k n : ℕ) (ss : List State)
    → spans_from k (change f n ss) ≡ spans_from k ss
unfolding spans_from change
spans-change f h k n [] = refl
spans-change f h k zero (st ∷ ss) = ap (λ (i : ℕ). k ∷ i ∷ spans_from (k + i) ss) (h st)
spans-change f h k (suc n) (st ∷ ss) = ap (λ (l : List ℕ). k ∷ length st.rows ∷ l) (spans-change f h (k + length st.rows) n ss)

-- ---- marks
abbrev pub marks_of : State → List ℕ
marks_of st = st.made ∷ cond st.closed 0 1 ∷ []

twice : (n i : ℕ) → 2 * n + i ≡ n * 2 + i
twice n i = omega arith

pub marks-length : (ss : List State) → length (mark_words ss) ≡ 2 * length ss
unfolding mark_words
marks-length ss = omega (arith, each-length marks_of nowhere 2 ss (λ n l. refl))

pub marks-more : (ss : List State) (st : State) → mark_words (ss ++ (st ∷ [])) ≡ mark_words ss ++ marks_of st
unfolding mark_words
marks-more = each_more marks_of

pub marks-made : (ss : List State) (n : ℕ) → n < length ss → get_or (mark_words ss) (2 * n) 0 ≡ (get_or ss n nowhere).made
unfolding mark_words
marks-made ss n l =
    ap (λ (i : ℕ). get_or (mark_words ss) i 0) (plus-zero (2 * n) ∙ twice n 0) ∙ each-get marks_of nowhere 2 ss (λ k m. refl) n l 0 (omega arith)

pub marks-open : (ss : List State) (n : ℕ) → n < length ss → get_or (mark_words ss) (2 * n + 1) 0 ≡ cond (get_or ss n nowhere).closed 0 1
unfolding mark_words
marks-open ss n l = ap (λ (i : ℕ). get_or (mark_words ss) i 0) (twice n 1) ∙ each-get marks_of nowhere 2 ss (λ k m. refl) n l 1 (omega arith)

-- the second mark of state n written
pub marks-set : (f : State → State) (ss : List State) (n v : ℕ) → n < length ss → (f (get_or ss n nowhere)).made ≡ (get_or ss n nowhere).made
    → cond (f (get_or ss n nowhere)).closed 0 1 ≡ v → set (mark_words ss) (2 * n + 1) v ≡ mark_words (change f n ss)
unfolding mark_words
marks-set f ss n v l e q =
    ap (λ (i : ℕ). set (mark_words ss) i v) (twice n 1)
    ∙ each_set marks_of nowhere 2 ss (λ k m. refl) n l f 1 v (omega arith) (ap₂ (λ (x y : ℕ). x ∷ y ∷ []) (sym e) (sym q))

pub marks-still : (f : State → State) (ss : List State) (n : ℕ) → n < length ss → (f (get_or ss n nowhere)).made ≡ (get_or ss n nowhere).made
    → ◌≡◌ {A = ℕ} (cond (f (get_or ss n nowhere)).closed 0 1) (cond (get_or ss n nowhere).closed 0 1) → mark_words (change f n ss) ≡ mark_words ss
unfolding mark_words
marks-still f ss n l e q =
    each-change marks_of nowhere f ss n l
    ∙ ap₂ (λ (x y : ℕ). each marks_of (take n ss) ++ ((x ∷ y ∷ []) ++ each marks_of (drop (suc n) ss))) e q
    ∙ sym (each_at marks_of nowhere ss n l)

-- ---- edges
abbrev pub Width : List ℕ → List State → Type 0
Width b ss = (n : ℕ) → n < length ss → length (get_or ss n nowhere).edges ≡ rules b + tokens b

pub edges-length : (b : List ℕ) (ss : List State) → Width b ss → length (edge_words ss) ≡ length ss * (rules b + tokens b)
unfolding edge_words
edges-length b ss h = each-length (λ st. st.edges) nowhere (rules b + tokens b) ss h

pub edges_more : (ss : List State) (st : State) → edge_words (ss ++ (st ∷ [])) ≡ edge_words ss ++ st.edges
unfolding edge_words
edges_more = each_more (λ st. st.edges)

pub edges-still : (f : State → State) → ((st : State) → (f st).edges ≡ st.edges) → (n : ℕ) (ss : List State) → edge_words (change f n ss) ≡ edge_words ss
unfolding edge_words
edges-still = each-still (λ st. st.edges)

pub edges-set : (b : List ℕ) (f : State → State) (ss : List State) → Width b ss → (n i v : ℕ) → n < length ss → i < rules b + tokens b
    → set (get_or ss n nowhere).edges i v ≡ (f (get_or ss n nowhere)).edges → set (edge_words ss) (n * (rules b + tokens b) + i) v ≡ edge_words (change f n ss)
unfolding edge_words
edges-set b f ss h n i v l k e = each_set (λ st. st.edges) nowhere (rules b + tokens b) ss h n l f i v k e

-- word i of the edges of state n
pub edges-get : (b : List ℕ) (ss : List State) → Width b ss → (n i : ℕ) → n < length ss → i < rules b + tokens b
    → get_or (edge_words ss) (n * (rules b + tokens b) + i) 0 ≡ get_or (get_or ss n nowhere).edges i 0
unfolding edge_words
edges-get b ss h n i l k = each-get (λ st. st.edges) nowhere (rules b + tokens b) ss h n l i k

-- ---- what Growing says of them
module _ {b : List ℕ} {m : Limits} {ss : List State} (G : Growing b m ss) where
  pub growing-sets : AllSets ss
  growing-sets n l = (G.state n l).rows.sets

  pub growing-width : Width b ss
  growing-width n l = (G.state n l).width
