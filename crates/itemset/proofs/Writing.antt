-- Rows written one behind another to the front of a room. Assumes nothing.
use mathlib.Core.List.{List, [], ◌∷◌, ◌++◌, append-nil}
use mathlib.Core.Path.{◌≡◌, refl, sym, ap, ap₂, ◌∙◌, subst}
use Prim.Native.Nat.{ℕ, suc, ◌+◌, ◌*◌, ◌≤◌, ◌<◌}
use native.Mathlib.Numerals.{add-one}
use native.Mathlib.Omega.{arith}
use lib.ListN.{length, take, drop, set, length-append}
use lib.Seq.{paste, append_snoc, take-suc-set, drop-set-lt, take-append_seam, take-length, drop-append-add, drop-drop}
use Rattle.block.specs.Limits.{WORDS, ITEM}
use Rattle.block.specs.Sets.{Fits}
use Rattle.itemset.specs.Rows.{Row, row, words_of, Sets}
use Rattle.itemset.specs.Lent.{over, Wrote}
use Rattle.itemset.proofs.Words.{words_append, words-one, words-length}

-- a word, and a list behind it
pub put-behind : (d : List ℕ) (at i : ℕ) (s : List ℕ) (n : ℕ) → at < length d → paste (set d at i) (at + 1) s n ≡ paste d at (i ∷ s) (suc n)
put-behind d at i s n l =
    ap₂ (λ (u v : List ℕ). u ++ v)
    (ap (λ (m : ℕ). take m (set d at i) ++ take n s) (add-one at) ∙ ap (λ (u : List ℕ). u ++ take n s) (take-suc-set d at i l) ∙ append_snoc (take at d) i (take n s))
    (ap (λ (m : ℕ). drop m (set d at i)) (let z : at + 1 + n ≡ at + suc n = omega arith in z) ∙ drop-set-lt (at + suc n) d at i (omega arith))

-- words behind those that stand in front
pub over-put : (ws w out : List ℕ) → paste (over ws out) (length ws) w (length w) ≡ over (ws ++ w) out
unfolding over
over-put ws w out =
    ap₂ (λ (u v : List ℕ). u ++ v)
    (ap₂ (λ (u v : List ℕ). u ++ v) (take-append_seam ws (drop (length ws) out)) (take-length w))
    (drop-append-add ws (drop (length ws) out) (length w) ∙ drop-drop (length w) (length ws) out ∙ ap (λ (m : ℕ). drop m out) (sym (length-append ws w)))

pub sets-front : (rs ss : List Row) → Sets (rs ++ ss) → Sets rs
sets-front [] ss h = tt
sets-front (row i s ∷ rs) ss h = (h.0, sets-front rs ss h.1)

pub sets_behind : (rs ss : List Row) → Sets (rs ++ ss) → Sets ss
sets_behind [] ss h = h
sets_behind (row i s ∷ rs) ss h = sets_behind rs ss h.1

-- one row more
pub wrote-row : (rs : List Row) (n : ℕ) (out mid after : List ℕ) (i : ℕ) (s : List ℕ) → Sets rs → Fits WORDS s → Wrote rs n out mid
    → after ≡ paste mid (ITEM * n) (i ∷ s) ITEM → Wrote (rs ++ (row i s ∷ [])) (n + 1) out after
wrote-row rs n out mid after i s h f w e =
    let c = w.count in
    let m : ITEM * n ≡ length (words_of rs) = omega (arith, words-length rs h) in
    let k : ITEM ≡ length (i ∷ s) = (let l = f.0 in omega arith) in
    record {
      count = omega (arith, length-append rs (row i s ∷ []));
      words = e ∙ ap₂ (λ (a g : ℕ). paste mid a (i ∷ s) g) m k ∙ ap (λ (d : List ℕ). paste d (length (words_of rs)) (i ∷ s) (length (i ∷ s))) w.words
          ∙ over-put (words_of rs) (i ∷ s) out
          ∙ ap (λ (u : List ℕ). over u out) (sym (words_append rs (row i s ∷ []) ∙ ap (λ (u : List ℕ). words_of rs ++ u) (words-one i s ∙ append-nil (i ∷ s))));
    }

-- of the rows `all`, `rest` are still to be written
pub record Writing (all rest : List Row) (n : ℕ) (out now : List ℕ) : Type 0 where
  pub done : List Row
  pub split : all ≡ done ++ rest
  pub wrote : Wrote done n out now

pub writing_start : (all rest : List Row) (out : List ℕ) → all ≡ rest → Writing all rest 0 out out
unfolding over words_of
writing_start all rest out e = record { done = []; split = e; wrote = record { count = refl; words = refl } }

module _ {all rest : List Row} {n : ℕ} {out mid : List ℕ} (W : Writing all rest n out mid) where
  pub writing-skip : (more : List Row) (n' : ℕ) (after : List ℕ) → rest ≡ more → n' ≡ n → after ≡ mid → Writing all more n' out after
  writing-skip more n' after e c w =
      subst (λ u. Writing all u n' out after) e (subst (λ m. Writing all rest m out after) (sym c) (subst (λ u. Writing all rest n out u) (sym w) W))

  pub writing-end : rest ≡ [] → Wrote all n out mid
  writing-end e = subst (λ u. Wrote u n out mid) (sym (W.split ∙ ap {B = List Row} (λ u. W.done ++ u) e ∙ append-nil W.done)) W.wrote

  module _ (i : ℕ) (s : List ℕ) (more : List Row) (e : rest ≡ row i s ∷ more) where
    writing-room : n < length all
    writing-room =
        let c = W.wrote.count in
        omega (arith, ap length (W.split ∙ ap {B = List Row} (λ u. W.done ++ u) e), length-append W.done (row i s ∷ more))

    pub writing-fits : (size : ℕ) → ITEM * length all ≤ size → ITEM * (n + 1) ≤ size
    writing-fits size h = let r = writing-room in omega arith

    pub writing-put : (n' : ℕ) (after : List ℕ) → Sets all → n' ≡ n + 1 → after ≡ paste mid (ITEM * n) (i ∷ s) ITEM → Writing all more n' out after
    writing-put n' after h c p =
        let q : all ≡ W.done ++ (row i s ∷ more) = W.split ∙ ap {B = List Row} (λ u. W.done ++ u) e in
        let k = subst Sets q h in
        record {
          done = W.done ++ (row i s ∷ []);
          split = q ∙ sym (append_snoc W.done (row i s) more);
          wrote = subst (λ m. Wrote (W.done ++ (row i s ∷ [])) m out after) (sym c) (wrote-row W.done n out mid after i s (sets-front W.done (row i s ∷ more) k) (sets_behind W.done (row i s ∷ more) k).0 W.wrote p);
        }
