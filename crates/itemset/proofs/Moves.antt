-- The goto rows of any rows: the rows with x behind the dot, each with its dot moved. Assumes nothing.
use mathlib.Core.Bool.{Bool, true, false, cond}
use mathlib.Core.List.{List, [], ◌∷◌, ◌++◌, append_assoc, append-nil}
use mathlib.Core.Logic.{inl, inr}
use mathlib.Core.Path.{◌≡◌, refl, sym, ap, ◌∙◌, subst}
use Prim.Native.Nat.{ℕ, suc, ◌%◌, ◌≤◌, ◌<◌}
use native.Mathlib.Omega.{arith}
use lib.Dec.{eqb}
use lib.ListN.{length, get_or, take}
use lib.Seq.{take-suc}
use borrow.Author.Tests.{eqb-true, eqb-false, eq-eqb, ne_eqb}
use Rattle.block.specs.Limits.{DOTS}
use Rattle.block.specs.Block.{symbols}
use Rattle.block.specs.First.{Ahead}
use Rattle.itemset.specs.Rows.{Row, row, Present, From, Sets, Item, Rows}
use Rattle.itemset.specs.Close.{rest_of}
use Rattle.itemset.specs.Goto.{move, goto_of}
use Rattle.itemset.specs.Ready.{Ready}
use Rattle.itemset.proofs.RowLaws.{from-weaken}
use Rattle.itemset.proofs.Words.{no_row}
use Rattle.itemset.proofs.Has.{Has, has-present, present-has, has_left, has_right, has_either}
use Rattle.itemset.proofs.Rest.{rest-next, next-item}
use Rattle.itemset.proofs.Bounds.{moved-few}

module _ (b : List ℕ) (x : ℕ) where
  -- ---- one row, for code
  pub move-end : (i : ℕ) (s : List ℕ) → rest_of b i ≡ [] → move b x (row i s) ≡ []
  unfolding move
  move-end i s e = ap {B = List Row} (λ l. elim l [ [] ↦ [] | y ∷ w ↦ cond (eqb x y) (row (suc i) s ∷ []) [] ]) e

  move-is : (i : ℕ) (s : List ℕ) (y : ℕ) (w : List ℕ) → rest_of b i ≡ y ∷ w → move b x (row i s) ≡ cond (eqb x y) (row (suc i) s ∷ []) []
  unfolding move
  move-is i s y w e = ap {B = List Row} (λ l. elim l [ [] ↦ [] | y ∷ w ↦ cond (eqb x y) (row (suc i) s ∷ []) [] ]) e

  pub move-over : (i : ℕ) (s : List ℕ) (w : List ℕ) → rest_of b i ≡ x ∷ w → move b x (row i s) ≡ row (suc i) s ∷ []
  move-over i s w e = move-is i s x w e ∙ ap {B = List Row} (λ c. cond c (row (suc i) s ∷ []) []) (eq-eqb x x refl)

  pub move-other : (i : ℕ) (s : List ℕ) (y : ℕ) (w : List ℕ) → rest_of b i ≡ y ∷ w → (x ≡ y → ⊥) → move b x (row i s) ≡ []
  move-other i s y w e n = move-is i s y w e ∙ ap {B = List Row} (λ c. cond c (row (suc i) s ∷ []) []) (ne_eqb x y n)

  move-cases : (P : List Row → Type 0) (i : ℕ) (s : List ℕ) → P [] → ((w : List ℕ) → rest_of b i ≡ x ∷ w → P (row (suc i) s ∷ []))
      → P (move b x (row i s))
  move-cases P i s no_row a-row = go (rest_of b i) refl
    where
      over : (y : ℕ) (w : List ℕ) → rest_of b i ≡ y ∷ w → (c : Bool) → eqb x y ≡ c → P (move b x (row i s))
      over y w e true h =
          let f : rest_of b i ≡ x ∷ w = e ∙ ap {B = List ℕ} (λ z. z ∷ w) (sym (eqb-true x y h)) in
          subst P (sym (move-over i s w f)) (a-row w f)
      over y w e false h = subst P (sym (move-other i s y w e (eqb-false x y h))) no_row

      go : (l : List ℕ) → rest_of b i ≡ l → P (move b x (row i s))
      go [] e = subst P (sym (move-end i s e)) no_row
      go (y ∷ w) e = over y w e (eqb x y) refl

  -- ---- rows put together, and one row more
  pub goto-append : (rs ss : List Row) → goto_of b (rs ++ ss) x ≡ goto_of b rs x ++ goto_of b ss x
  unfolding goto_of
  goto-append [] ss = refl
  goto-append (r ∷ rs) ss =
      ap {B = List Row} (λ u. move b x r ++ u) (goto-append rs ss) ∙ sym (append_assoc (move b x r) (goto_of b rs x) (goto_of b ss x))

  pub goto-snoc : (rs : List Row) (r : Row) → goto_of b (rs ++ (r ∷ [])) x ≡ goto_of b rs x ++ move b x r
  unfolding goto_of
  goto-snoc rs r = goto-append rs (r ∷ []) ∙ ap {B = List Row} (λ u. goto_of b rs x ++ u) (append-nil (move b x r))

  pub goto-take : (rs : List Row) (i : ℕ) → i < length rs → goto_of b (take (suc i) rs) x ≡ goto_of b (take i rs) x ++ move b x (get_or rs i no_row)
  goto-take rs i l = ap (λ u. goto_of b u x) (take-suc rs i no_row l) ∙ goto-snoc (take i rs) (get_or rs i no_row)

  -- ---- which rows they are
  pub goto-has : (i : ℕ) (s w : List ℕ) (rs : List Row) → Has i s rs → rest_of b i ≡ x ∷ w → Has (suc i) s (goto_of b rs x)
  unfolding goto_of
  goto-has i s w [] m e = absurd m
  goto-has i s w (row j t ∷ rs) (inl h) e =
      has_left (suc i) s (move b x (row j t)) (goto_of b rs x)
      (subst (λ u. Has (suc i) s u) (sym (move-over j t w (ap (rest_of b) (sym h.0) ∙ e))) (inl (ap suc h.0, h.1)))
  goto-has i s w (row j t ∷ rs) (inr m) e = has_right (suc i) s (move b x (row j t)) (goto_of b rs x) (goto-has i s w rs m e)

  -- the row k with context s came from here
  pub record Came (k : ℕ) (s : List ℕ) (rs : List Row) : Type 0 where
    pub item : ℕ
    pub next : k ≡ suc item
    pub there : Has item s rs
    pub rest : List ℕ
    pub is-rest : rest_of b item ≡ x ∷ rest

  later : (k : ℕ) (s : List ℕ) (i : ℕ) (t : List ℕ) (rs : List Row) → Came k s rs → Came k s (row i t ∷ rs)
  later k s i t rs c = record { item = c.item; next = c.next; there = inr c.there; rest = c.rest; is-rest = c.is-rest }

  pub goto-only : (k : ℕ) (s : List ℕ) (rs : List Row) → Has k s (goto_of b rs x) → Came k s rs
  unfolding goto_of
  goto-only k s [] m = absurd m
  goto-only k s (row i t ∷ rs) m =
      elim (has_either k s (move b x (row i t)) (goto_of b rs x) m) [
        | inl h ↦
            move-cases (λ u. Has k s u → Came k s (row i t ∷ rs)) i t (λ z. absurd z)
            (λ w e z. elim z [ inl f ↦ record { item = i; next = f.0; there = inl (refl, f.1); rest = w; is-rest = e } | inr y ↦ absurd y ]) h
        | inr h ↦ later k s i t rs (goto-only k s rs h)
      ]

  pub came : (k : ℕ) (rs : List Row) → Present k (goto_of b rs x) → (s : List ℕ) × Came k s rs
  came k rs m = let h = present-has k (goto_of b rs x) m in (h.0, goto-only k h.0 rs h.1)

  -- ---- they ascend, and are token sets
  pub goto-from : (rs : List Row) (n : ℕ) → From n rs → From (suc n) (goto_of b rs x)
  unfolding goto_of
  goto-from [] n f = tt
  goto-from (row i s ∷ rs) n f =
      let l = f.0 in
      let r : From (suc (suc i)) (goto_of b rs x) = goto-from rs (suc i) f.1 in
      move-cases (λ u. From (suc n) (u ++ goto_of b rs x)) i s (from-weaken (suc n) (suc (suc i)) (goto_of b rs x) (omega arith) r) (λ w e. (omega arith, r))

  pub goto-sets : (rs : List Row) → Sets rs → Sets (goto_of b rs x)
  unfolding goto_of
  goto-sets [] h = tt
  goto-sets (row i s ∷ rs) h = move-cases (λ u. Sets (u ++ goto_of b rs x)) i s (goto-sets rs h.1) (λ w e. (h.0, goto-sets rs h.1))

  -- ---- of rows of items they are rows of items, with no dot in front
  module _ (F : List Ahead) (ready : Ready b F) (C : List Row) (R : Rows b C) where
    came-item : (k : ℕ) (s : List ℕ) → Came k s C → Item b k × (1 ≤ k % DOTS)
    came-item k s c =
        let l = (R.items c.item (has-present c.item s C c.there)).prod in
        let n = (rest-next b F ready c.item x c.rest l c.is-rest).1 in
        (subst (Item b) (sym c.next) (next-item b F ready c.item x c.rest l c.is-rest), rw c.next (omega arith))

    pub goto-rows : Rows b (goto_of b C x)
    goto-rows =
        record {
          ascend = from-weaken 0 1 (goto_of b C x) (omega arith) (goto-from C 0 R.ascend);
          sets = goto-sets C R.sets;
          items = λ k m. let c = came k C m in (came-item k c.0 c.1).0;
        }

    pub goto-dots : (k : ℕ) → Present k (goto_of b C x) → 1 ≤ k % DOTS
    goto-dots k m = let c = came k C m in (came-item k c.0 c.1).1

    pub goto-few : length (goto_of b C x) ≤ symbols b
    goto-few = moved-few b F ready (goto_of b C x) goto-rows goto-dots
