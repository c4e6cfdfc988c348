-- The union of two lists of rows with the same items is the union of their kernels. Assumes nothing.
use mathlib.Core.List.{List, [], ◌∷◌}
use mathlib.Core.Logic.{◌⊎◌, inl, inr}
use mathlib.Core.Path.{◌≡◌, refl, sym, ap, ◌∙◌}
use Prim.Native.Nat.{ℕ, suc, ◌+◌, ◌*◌}
use lib.ListN.{length}
use Rattle.knuth.specs.Kernel.{◌≈◌}
use Rattle.knuth.specs.Kernel as kernels
use Rattle.block.specs.Limits.{WORDS, DOTS}
use Rattle.block.proofs.Joins.{In-join, In-join-left, In-join-right, join-fits}
use Rattle.itemset.specs.Rows.{Row, row, Present, Token, From, Sets, Rows}
use Rattle.itemset.specs.Kernel.{kernel_of}
use Rattle.pager.specs.Weak.{union}
use Rattle.pager.proofs.Both.{SameItems, items-swap, items-present}

pub union-present : (k : ℕ) (K L : List Row) → Present k (union K L) → Present k K
unfolding union
union-present k [] L m = m
union-present k (row i s ∷ K) [] m = m
union-present k (row i s ∷ K) (row j t ∷ L) (inl e) = inl e
union-present k (row i s ∷ K) (row j t ∷ L) (inr m) = inr (union-present k K L m)

pub present-union : (k : ℕ) (K L : List Row) → Present k K → Present k (union K L)
unfolding union
present-union k [] L m = m
present-union k (row i s ∷ K) [] m = m
present-union k (row i s ∷ K) (row j t ∷ L) (inl e) = inl e
present-union k (row i s ∷ K) (row j t ∷ L) (inr m) = inr (present-union k K L m)

pub union-token : (k w : ℕ) (K L : List Row) → SameItems K L → Token k w (union K L) → Token k w K ⊎ Token k w L
unfolding union
union-token k w [] L S m = absurd m
union-token k w (row i s ∷ K) [] S m = inl m
union-token k w (row i s ∷ K) (row j t ∷ L) S (inl e) =
    elim (In-join s t w e.1) [ inl h ↦ inl (inl (e.0, h)) | inr h ↦ inr (inl (e.0 ∙ S.0, h)) ]
union-token k w (row i s ∷ K) (row j t ∷ L) S (inr m) = elim (union-token k w K L S.1 m) [ inl h ↦ inl (inr h) | inr h ↦ inr (inr h) ]

pub token-union-left : (k w : ℕ) (K L : List Row) → Token k w K → Token k w (union K L)
unfolding union
token-union-left k w [] L m = m
token-union-left k w (row i s ∷ K) [] m = m
token-union-left k w (row i s ∷ K) (row j t ∷ L) (inl e) = inl (e.0, In-join-left s t w e.1)
token-union-left k w (row i s ∷ K) (row j t ∷ L) (inr m) = inr (token-union-left k w K L m)

pub token-union-right : (k w : ℕ) (K L : List Row) → SameItems K L → Token k w L → Token k w (union K L)
unfolding union
token-union-right k w [] [] S m = m
token-union-right k w [] (r ∷ L) S m = absurd S
token-union-right k w (row i s ∷ K) [] S m = absurd S
token-union-right k w (row i s ∷ K) (row j t ∷ L) S (inl e) = inl (e.0 ∙ sym S.0, In-join-right s t w e.1)
token-union-right k w (row i s ∷ K) (row j t ∷ L) S (inr m) = inr (token-union-right k w K L S.1 m)

pub union-from : (n : ℕ) (K L : List Row) → From n K → From n (union K L)
unfolding union
union-from n [] L f = f
union-from n (row i s ∷ K) [] f = f
union-from n (row i s ∷ K) (row j t ∷ L) f = (f.0, union-from (suc i) K L f.1)

pub union-sets : (K L : List Row) → Sets K → Sets L → Sets (union K L)
unfolding union
union-sets [] L h k = tt
union-sets (row i s ∷ K) [] h k = h
union-sets (row i s ∷ K) (row j t ∷ L) h k = (join-fits WORDS s t h.0 k.0, union-sets K L h.1 k.1)

pub union-length : (K L : List Row) → length (union K L) ≡ length K
unfolding union
union-length [] L = refl
union-length (row i s ∷ K) [] = refl
union-length (row i s ∷ K) (row j t ∷ L) = ap suc (union-length K L)

pub union-rows : (b : List ℕ) (K L : List Row) → Rows b K → Sets L → Rows b (union K L)
union-rows b K L R h =
    record {
      ascend = union-from 0 K L R.ascend;
      sets = union-sets K L R.sets h;
      items = λ k m. R.items k (union-present k K L m);
    }

pub union-kernel : (K L : List Row) → SameItems K L → kernel_of (union K L) ≈ kernels.union (kernel_of K) (kernel_of L)
union-kernel K L S =
    record {
      there =
          record {
            items = λ p d m. inl (m.0, union-present (DOTS * p + d) K L m.1);
            tokens = λ p d t m. elim (union-token (DOTS * p + d) t K L S m.1) [ inl h ↦ inl (m.0, h) | inr h ↦ inr (m.0, h) ];
          };
      back =
          record {
            items =
                λ p d m.
                elim m [
                  | inl h ↦ (h.0, present-union (DOTS * p + d) K L h.1)
                  | inr h ↦ (h.0, present-union (DOTS * p + d) K L (items-present (DOTS * p + d) L K (items-swap K L S) h.1))
                ];
            tokens =
                λ p d t m.
                elim m [
                  | inl h ↦ (h.0, token-union-left (DOTS * p + d) t K L h.1)
                  | inr h ↦ (h.0, token-union-right (DOTS * p + d) t K L S h.1)
                ];
          };
    }
