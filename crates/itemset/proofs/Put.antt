-- What `put` does to rows: one item comes in with a context, all else stays. Assumes nothing.
use mathlib.Core.Bool.{Bool, true, false}
use mathlib.Core.List.{List, [], ◌∷◌}
use mathlib.Core.Logic.{◌⊎◌, inl, inr}
use mathlib.Core.Path.{◌≡◌, refl, ap, subst}
use Prim.Native.Nat.{ℕ, suc, ◌+◌, ◌≤◌, ◌<◌}
use native.Mathlib.Omega.{arith}
use native.Mathlib.Decide.{dec_lt}
use lib.Dec.{ltb, eqb}
use borrow.Author.Tests.{ltb-true, ltb-false, eqb-true, eqb-false}
use Rattle.block.specs.Limits.{WORDS}
use Rattle.block.specs.Sets.{In, Fits, join}
use Rattle.block.proofs.Joins.{In-join, In-join-left, In-join-right, join-fits, weigh, join-grows}
use Rattle.itemset.specs.Rows.{Row, row, Present, Token, From, Sets}
use Rattle.itemset.specs.Close.{put}

below : (i j : ℕ) → j ≤ i → (i ≡ j → ⊥) → j < i
below i j l d = elim (dec_lt j i) [ yes h ↦ h | no n ↦ absurd (d (omega arith)) ]

-- Cases for a property of `put`, so that `put` is opened once.
pub put-ind : (P : ℕ → List ℕ → List Row → List Row → Type 0)
    → ((i : ℕ) (s : List ℕ) → P i s [] (row i s ∷ []))
    → ((i : ℕ) (s : List ℕ) (j : ℕ) (t : List ℕ) (rs : List Row) → i < j → P i s (row j t ∷ rs) (row i s ∷ row j t ∷ rs))
    → ((i : ℕ) (s : List ℕ) (t : List ℕ) (rs : List Row) → P i s (row i t ∷ rs) (row i (join t s) ∷ rs))
    → ((i : ℕ) (s : List ℕ) (j : ℕ) (t : List ℕ) (rs : List Row) → j < i → P i s rs (put i s rs) → P i s (row j t ∷ rs) (row j t ∷ put i s rs))
    → (i : ℕ) (s : List ℕ) (rs : List Row) → P i s rs (put i s rs)
unfolding put
put-ind P nil lt eq gt i s [] = nil i s
put-ind P nil lt eq gt i s (row j t ∷ rs) = go (put-ind P nil lt eq gt i s rs) (ltb i j) refl (eqb i j) refl
  where
    go : P i s rs (put i s rs) → (a : Bool) → ltb i j ≡ a → (c : Bool) → eqb i j ≡ c
        → P i s (row j t ∷ rs) (elim a [ true ↦ row i s ∷ row j t ∷ rs | false ↦ elim c [ true ↦ row j (join t s) ∷ rs | false ↦ row j t ∷ put i s rs ] ])
    go r true h c k = lt i s j t rs (ltb-true i j h)
    go r false h true k = subst (λ n. P i s (row n t ∷ rs) (row n (join t s) ∷ rs)) (eqb-true i j k) (eq i s t rs)
    go r false h false k = gt i s j t rs (let l : j ≤ i = ltb-false i j h in let d : i ≡ j → ⊥ = eqb-false i j k in below i j l d) r

-- ---- the item is there, with its tokens
pub put_has : (i : ℕ) (s : List ℕ) (rs : List Row) → Present i (put i s rs)
put_has =
    put-ind (λ i s rs r. Present i r) (λ i s. inl refl) (λ i s j t rs h. inl refl) (λ i s t rs. inl refl) (λ i s j t rs h r. inr r)

pub put-tok : (u : ℕ) (i : ℕ) (s : List ℕ) (rs : List Row) → In s u → Token i u (put i s rs)
put-tok u =
    put-ind (λ i s rs r. In s u → Token i u r) (λ i s m. inl (refl, m)) (λ i s j t rs h m. inl (refl, m))
    (λ i s t rs m. inl (refl, In-join-right t s u m)) (λ i s j t rs h r m. inr (r m))

-- ---- what was there stays
pub put_keeps : (k : ℕ) (i : ℕ) (s : List ℕ) (rs : List Row) → Present k rs → Present k (put i s rs)
put_keeps k =
    put-ind (λ i s rs r. Present k rs → Present k r) (λ i s m. absurd m) (λ i s j t rs h m. inr m) (λ i s t rs m. m)
    (λ i s j t rs h r m. elim m [ inl e ↦ inl e | inr m ↦ inr (r m) ])

pub put-keeps-tok : (k u : ℕ) (i : ℕ) (s : List ℕ) (rs : List Row) → Token k u rs → Token k u (put i s rs)
put-keeps-tok k u =
    put-ind (λ i s rs r. Token k u rs → Token k u r) (λ i s m. absurd m) (λ i s j t rs h m. inr m)
    (λ i s t rs m. elim m [ inl e ↦ inl (e.0, In-join-left t s u e.1) | inr m ↦ inr m ])
    (λ i s j t rs h r m. elim m [ inl e ↦ inl e | inr m ↦ inr (r m) ])

-- ---- and nothing else comes in
pub put_only : (k : ℕ) (i : ℕ) (s : List ℕ) (rs : List Row) → Present k (put i s rs) → (k ≡ i) ⊎ Present k rs
put_only k =
    put-ind (λ i s rs r. Present k r → (k ≡ i) ⊎ Present k rs) (λ i s m. m) (λ i s j t rs h m. m) (λ i s t rs m. inr m)
    (λ i s j t rs h r m. elim m [ inl e ↦ inr (inl e) | inr m ↦ elim (r m) [ inl e ↦ inl e | inr m ↦ inr (inr m) ] ])

pub put-only-tok : (k u : ℕ) (i : ℕ) (s : List ℕ) (rs : List Row) → Token k u (put i s rs) → ((k ≡ i) × In s u) ⊎ Token k u rs
put-only-tok k u =
    put-ind (λ i s rs r. Token k u r → ((k ≡ i) × In s u) ⊎ Token k u rs) (λ i s m. m) (λ i s j t rs h m. m)
    (λ i s t rs m.
    elim m [
      | inl e ↦ elim (In-join t s u e.1) [ inl m ↦ inr (inl (e.0, m)) | inr m ↦ inl (e.0, m) ]
      | inr m ↦ inr (inr m)
    ])
    (λ i s j t rs h r m. elim m [ inl e ↦ inr (inl e) | inr m ↦ elim (r m) [ inl e ↦ inl e | inr m ↦ inr (inr m) ] ])

-- ---- the rows still ascend, and are token sets
pub put-from : (i : ℕ) (s : List ℕ) (rs : List Row) (n : ℕ) → n ≤ i → From n rs → From n (put i s rs)
put-from =
    put-ind (λ i s rs r. (n : ℕ) → n ≤ i → From n rs → From n r) (λ i s n l f. (l, tt)) (λ i s j t rs h n l f. (l, (h, f.1)))
    (λ i s t rs n l f. f) (λ i s j t rs h r n l f. (f.0, r (suc j) h f.1))

pub put-sets : (i : ℕ) (s : List ℕ) (rs : List Row) → Fits WORDS s → Sets rs → Sets (put i s rs)
put-sets =
    put-ind (λ i s rs r. Fits WORDS s → Sets rs → Sets r) (λ i s f h. (f, tt)) (λ i s j t rs l f h. (f, h))
    (λ i s t rs f h. (join-fits WORDS t s h.0 f, h.1)) (λ i s j t rs l r f h. (h.0, r f h.1))

-- ---- what grows: the sum of all words and of the rows
abbrev pub value : List Row → ℕ
value [] = 0
value (row i s ∷ rs) = 1 + weigh s + value rs

pub put-grows : (i : ℕ) (s : List ℕ) (rs : List Row) → (put i s rs ≡ rs) ⊎ (value rs < value (put i s rs))
put-grows =
    put-ind (λ i s rs r. (r ≡ rs) ⊎ (value rs < value r)) (λ i s. inr (omega arith)) (λ i s j t rs h. inr (omega arith))
    (λ i s t rs. elim (join-grows t s) [ inl e ↦ inl (ap {B = List Row} (λ u. row i u ∷ rs) e) | inr l ↦ inr (omega arith) ])
    (λ i s j t rs h r. elim r [ inl e ↦ inl (ap {B = List Row} (λ u. row j t ∷ u) e) | inr l ↦ inr (omega arith) ])
