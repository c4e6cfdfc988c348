-- The words of rows: how many, where row n stands, and that they tell the rows. Assumes nothing.
use mathlib.Core.List.{List, [], ◌∷◌, ◌++◌, append_assoc, head-eq_of_cons-eq, tail-eq_of_cons-eq, nil≢cons}
use mathlib.Core.Path.{◌≡◌, refl, sym, ap, ap₂, ◌∙◌}
use Prim.Native.Nat.{ℕ, zero, suc, ◌+◌, ◌*◌, ◌<◌}
use native.Mathlib.Omega.{arith}
use lib.ListN.{length, get_or, take, drop, length-append}
use lib.Seq.{take_at, drop_at, drop-cons, drop-drop, get_or-drop, take-append-add}
use Rattle.block.specs.Limits.{WORDS, ITEM}
use Rattle.block.specs.Sets.{Fits}
use Rattle.itemset.specs.Rows.{Row, row, words_of, Sets}

abbrev pub item_of : Row → ℕ
item_of (row i s) = i

abbrev pub context_of : Row → List ℕ
context_of (row i s) = s

-- what stands behind the last row
abbrev pub no_row : Row
no_row = row 0 []

pub words_append : (rs ss : List Row) → words_of (rs ++ ss) ≡ words_of rs ++ words_of ss
unfolding words_of
words_append [] ss = refl
words_append (row i s ∷ rs) ss =
    ap {B = List ℕ} (λ w. i ∷ w) (ap {B = List ℕ} (λ w. s ++ w) (words_append rs ss) ∙ sym (append_assoc s (words_of rs) (words_of ss)))

pub words-one : (i : ℕ) (s : List ℕ) → words_of (row i s ∷ []) ≡ i ∷ s ++ []
unfolding words_of
words-one i s = refl

pub words-cons : (r : Row) (rs : List Row) → words_of (r ∷ rs) ≡ item_of r ∷ (context_of r ++ words_of rs)
unfolding words_of
words-cons (row i s) rs = refl

pub words-length : (rs : List Row) → Sets rs → length (words_of rs) ≡ ITEM * length rs
unfolding words_of
words-length [] h = refl
words-length (row i s ∷ rs) h = let f = h.0.0 in omega (arith, length-append s (words_of rs), words-length rs h.1)

-- ---- the first n rows, and those behind them
pub words-drop : (n : ℕ) (rs : List Row) → Sets rs → drop (ITEM * n) (words_of rs) ≡ words_of (drop n rs)
unfolding words_of
words-drop zero rs h = refl
words-drop (suc n) [] h = ap {B = List ℕ} (λ (m : ℕ). drop m []) (let z : ITEM * suc n ≡ suc (ITEM * n + WORDS) = omega arith in z)
words-drop (suc n) (row i s ∷ rs) h =
    ap (λ (m : ℕ). drop m (i ∷ (s ++ words_of rs))) (let z : ITEM * suc n ≡ suc (WORDS + ITEM * n) = omega arith in z)
    ∙ sym (drop-drop (ITEM * n) WORDS (s ++ words_of rs))
    ∙ ap (λ (w : List ℕ). drop (ITEM * n) w) (drop_at s (words_of rs) WORDS h.0.0)
    ∙ words-drop n rs h.1

pub words_take : (n : ℕ) (rs : List Row) → Sets rs → take (ITEM * n) (words_of rs) ≡ words_of (take n rs)
unfolding words_of
words_take zero rs h = refl
words_take (suc n) [] h = ap {B = List ℕ} (λ (m : ℕ). take m []) (let z : ITEM * suc n ≡ suc (ITEM * n + WORDS) = omega arith in z)
words_take (suc n) (row i s ∷ rs) h =
    ap (λ (m : ℕ). take m (i ∷ (s ++ words_of rs))) (let z : ITEM * suc n ≡ suc (length s + ITEM * n) = (let l = h.0.0 in omega arith) in z)
    ∙ ap {B = List ℕ} (λ w. i ∷ w) (take-append-add s (words_of rs) (ITEM * n) ∙ ap {B = List ℕ} (λ w. s ++ w) (words_take n rs h.1))

-- row n, and what stands behind it
pub words-at : (rs : List Row) (n : ℕ) → Sets rs → n < length rs
    → drop (ITEM * n) (words_of rs) ≡ item_of (get_or rs n no_row) ∷ (context_of (get_or rs n no_row) ++ words_of (drop (suc n) rs))
words-at rs n h l = words-drop n rs h ∙ ap words_of (drop-cons rs n no_row l) ∙ words-cons (get_or rs n no_row) (drop (suc n) rs)

pub sets-at : (rs : List Row) (n : ℕ) → Sets rs → n < length rs → Fits WORDS (context_of (get_or rs n no_row))
sets-at [] n h l = absurd (omega arith)
sets-at (row i s ∷ rs) zero h l = h.0
sets-at (row i s ∷ rs) (suc n) h l = sets-at rs n h.1 (omega arith)

-- its item, and its context
pub item-at : (rs : List Row) (n : ℕ) → Sets rs → n < length rs → get_or (words_of rs) (ITEM * n) 0 ≡ item_of (get_or rs n no_row)
item-at rs n h l =
    ap (λ (m : ℕ). get_or (words_of rs) m 0) (let z : ITEM * n ≡ ITEM * n + 0 = omega arith in z)
    ∙ sym (get_or-drop (ITEM * n) (words_of rs) 0 0)
    ∙ ap (λ (w : List ℕ). get_or w 0 0) (words-at rs n h l)

pub context-at : (rs : List Row) (n : ℕ) → Sets rs → n < length rs → take WORDS (drop (ITEM * n + 1) (words_of rs)) ≡ context_of (get_or rs n no_row)
context-at rs n h l =
    ap (λ (w : List ℕ). take WORDS w) (sym (drop-drop 1 (ITEM * n) (words_of rs)) ∙ ap (λ (w : List ℕ). drop 1 w) (words-at rs n h l))
    ∙ take_at (context_of (get_or rs n no_row)) (words_of (drop (suc n) rs)) WORDS (sets-at rs n h l).0

-- ---- the words tell the rows
pub words-injective : (rs ss : List Row) → Sets rs → Sets ss → words_of rs ≡ words_of ss → rs ≡ ss
unfolding words_of
words-injective [] [] a c e = refl
words-injective [] (row j t ∷ ss) a c e = absurd (nil≢cons e)
words-injective (row i s ∷ rs) [] a c e = absurd (nil≢cons (sym e))
words-injective (row i s ∷ rs) (row j t ∷ ss) a c e =
    let f : s ++ words_of rs ≡ t ++ words_of ss = tail-eq_of_cons-eq e in
    ap₂ {C = List Row} (λ x xs. x ∷ xs)
    (ap₂ {C = Row} row (head-eq_of_cons-eq e)
    (sym (take_at s (words_of rs) WORDS a.0.0) ∙ ap (λ (w : List ℕ). take WORDS w) f ∙ take_at t (words_of ss) WORDS c.0.0))
    (words-injective rs ss a.1 c.1
    (sym (drop_at s (words_of rs) WORDS a.0.0) ∙ ap (λ (w : List ℕ). drop WORDS w) f ∙ drop_at t (words_of ss) WORDS c.0.0))
