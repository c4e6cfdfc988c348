-- One record more in a list that lies in lent memory, whatever the number of its words. Assumes nothing.
use mathlib.Core.List.{List, [], ◌∷◌, ◌++◌}
use mathlib.Core.Path.{◌≡◌, refl, sym, ap, ap₂, ◌∙◌}
use Prim.Native.Nat.{ℕ, suc, ◌+◌, ◌-◌, ◌*◌, ◌≤◌, ◌<◌}
use native.Mathlib.Nat.{mul-suc, mul_comm, mul-le-mul_left}
use native.Mathlib.Omega.{arith}
use lib.ListN.{length, get_or, take, drop, replicate, length-append, length-replicate, replicate-append-replicate}
use lib.Seq.{take_at, drop_at, drop-drop}
use Rattle.pager.specs.Lists.{each}
use Rattle.pager.specs.Memory.{pad}
use Rattle.pager.proofs.Padded.{length-pad}
use Rattle.pager.proofs.Each.{each_more, each-length}
use Rattle.statetable.specs.Limits.{RR, SR}
use Rattle.statetable.specs.Cells.{ReduceReduce, reduce-reduce, ShiftReduce, shift-reduce}
use Rattle.statetable.specs.Laid.{words_rr, words_sr, ListOf}

-- words put behind a padded list
put-padded : (n : ℕ) (xs ws : List ℕ) (k w : ℕ) → length xs ≡ k → length ws ≡ w → k + w ≤ n
    → (take k (pad n xs) ++ ws) ++ drop (k + w) (pad n xs) ≡ pad n (xs ++ ws)
unfolding pad
put-padded n xs ws k w e q h =
    ap₂ (λ (s t : List ℕ). (s ++ ws) ++ t) (take_at xs (replicate {A = ℕ} (n - length xs) 0) k e) behind ∙ ap (λ (j : ℕ). (xs ++ ws) ++ replicate {A = ℕ} j 0) long
  where
    split : replicate {A = ℕ} (n - length xs) 0 ≡ replicate {A = ℕ} w 0 ++ replicate {A = ℕ} (n - length xs - w) 0
    split =
        let j : n - length xs ≡ w + (n - length xs - w) = omega arith in
        ap (λ (i : ℕ). replicate {A = ℕ} i 0) j ∙ sym (replicate-append-replicate w (n - length xs - w) 0)

    behind : drop (k + w) (xs ++ replicate {A = ℕ} (n - length xs) 0) ≡ replicate {A = ℕ} (n - length xs - w) 0
    behind =
        sym (drop-drop w k (xs ++ replicate {A = ℕ} (n - length xs) 0))
        ∙ ap (λ (t : List ℕ). drop w t) (drop_at xs (replicate {A = ℕ} (n - length xs) 0) k e ∙ split)
        ∙ drop_at (replicate {A = ℕ} w 0) (replicate {A = ℕ} (n - length xs - w) 0) w (length-replicate {A = ℕ} w 0)

    long : n - length xs - w ≡ n - length (xs ++ ws)
    long = omega (arith, length-append xs ws)

-- ---- a list of records of `width` words each
module _ {A : Type 0} (words : A → List ℕ) (width : ℕ) (even : (x : A) → length (words x) ≡ width) where
  words_long : (rs : List A) → length (each words rs) ≡ width * length rs
  unfolding each
  words_long [] = omega arith
  words_long (r ∷ rs) = each-length words r width (r ∷ rs) (λ n l. even (get_or (r ∷ rs) n r)) ∙ mul_comm (length (r ∷ rs)) width

  module _ {most : ℕ} {rs : List A} {buffer : List ℕ} (L : ListOf words width most rs buffer) where
    list-long : length buffer ≡ width * most
    list-long =
        ap length L.is
        ∙ length-pad (width * most) (each words rs) (omega (arith, words_long rs, mul-le-mul_left {m = length rs} {n = most} width L.few))

    -- x comes as record i
    list-more : (x : A) (i : ℕ) → i ≡ length rs → i < most → (after : List ℕ)
        → after ≡ (take (i * width) buffer ++ words x) ++ drop (i * width + width) buffer → ListOf words width most (rs ++ (x ∷ [])) after
    list-more x i e l after q =
        let long : length (each words rs) ≡ i * width = words_long rs ∙ ap (λ (n : ℕ). width * n) (sym e) ∙ mul_comm width i in
        let room : i * width + width ≤ width * most = omega (arith, mul_comm width i, mul-suc width i, mul-le-mul_left {m = suc i} {n = most} width l) in
        record {
          fair = L.fair;
          few = omega (arith, length-append rs (x ∷ []));
          is = q
              ∙ ap (λ (t : List ℕ). (take (i * width) t ++ words x) ++ drop (i * width + width) t) L.is
              ∙ put-padded (width * most) (each words rs) (words x) (i * width) width long (even x) room
              ∙ ap (pad (width * most)) (sym (each_more words rs x));
        }

-- ---- reduce/reduce conflicts
even-rr : (x : ReduceReduce) → length (words_rr x) ≡ RR
even-rr (reduce-reduce t a o s) = refl

module _ {most : ℕ} {rs : List ReduceReduce} {buffer : List ℕ} (L : ListOf words_rr RR most rs buffer) where
  pub long-rr : length buffer ≡ RR * most
  long-rr = list-long words_rr RR even-rr L

  pub more-rr : (x : ReduceReduce) (i : ℕ) → i ≡ length rs → i < most → (after : List ℕ)
      → after ≡ (take (i * RR) buffer ++ words_rr x) ++ drop (i * RR + RR) buffer → ListOf words_rr RR most (rs ++ (x ∷ [])) after
  more-rr x i e l after q = list-more words_rr RR even-rr L x i e l after q

-- ---- shift/reduce conflicts
even-sr : (x : ShiftReduce) → length (words_sr x) ≡ SR
even-sr (shift-reduce t p s) = refl

module _ {most : ℕ} {rs : List ShiftReduce} {buffer : List ℕ} (L : ListOf words_sr SR most rs buffer) where
  pub long-sr : length buffer ≡ SR * most
  long-sr = list-long words_sr SR even-sr L

  pub more-sr : (x : ShiftReduce) (i : ℕ) → i ≡ length rs → i < most → (after : List ℕ)
      → after ≡ (take (i * SR) buffer ++ words_sr x) ++ drop (i * SR + SR) buffer → ListOf words_sr SR most (rs ++ (x ∷ [])) after
  more-sr x i e l after q = list-more words_sr SR even-sr L x i e l after q
