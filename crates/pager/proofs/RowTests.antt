-- The tests of two kernels, on their words. Assumes nothing.
use mathlib.Core.Bool.{Bool, true, false, true≢false, ◌&&◌, and-false}
use mathlib.Core.List.{List, [], ◌∷◌}
use mathlib.Core.Path.{◌≡◌, refl, sym, ap, ap₂, ◌∙◌}
use Prim.Native.Nat.{ℕ, zero, suc, ◌*◌, ◌/◌, ◌<◌}
use native.Mathlib.Decide.{ℕ_discrete}
use native.Mathlib.Omega.{arith}
use lib.Dec.{eqb}
use lib.ListN.{length, get_or}
use lib.Pointwise.{pointwise, bytes_decides}
use borrow.Author.Tests.{eq-eqb, ne_eqb}
use Rattle.block.specs.Limits.{ITEM}
use Rattle.block.specs.Lists.{same}
use Rattle.block.proofs.ListLaws.{and_both}
use Rattle.itemset.specs.Rows.{Row, row, words_of, same_rows}
use Rattle.itemset.proofs.Words.{item_of, context_of, no_row, words-length, words-injective, item-at, context-at}
use Rattle.itemset.proofs.Fuel.{rows_is, rows_refl}
use Rattle.pager.specs.Lists.{pairwise}
use Rattle.pager.specs.Weak.{item_same, contexts, apart, compatible}
use Rattle.pager.specs.RowWords.{RowWords, context_at, apart_at}
use Rattle.pager.proofs.ByIndex.{pairwise-yes, pairwise-no, same-yes, same-no, same_size}

item-test : (r q : Row) → item_same r q ≡ eqb (item_of r) (item_of q)
unfolding item_same
item-test (row i s) (row j t) = refl

-- ---- the contexts, here and there
nothing : List ℕ × List ℕ
nothing = ([], [])

contexts-length : (K L : List Row) → length K ≡ length L → length (contexts K L) ≡ length K
unfolding contexts
contexts-length [] L e = refl
contexts-length (row i s ∷ K) [] e = absurd (omega arith)
contexts-length (row i s ∷ K) (row j t ∷ L) e = ap suc (contexts-length K L (omega arith))

contexts-at : (K L : List Row) (n : ℕ) → length K ≡ length L → n < length K
    → get_or (contexts K L) n nothing ≡ (context_of (get_or K n no_row), context_of (get_or L n no_row))
unfolding contexts
contexts-at [] L n e l = absurd (omega arith)
contexts-at (row i s ∷ K) [] n e l = absurd (omega arith)
contexts-at (row i s ∷ K) (row j t ∷ L) zero e l = refl
contexts-at (row i s ∷ K) (row j t ∷ L) (suc n) e l = contexts-at K L n (omega arith) (omega arith)

pub rows-length : {ws : List ℕ} {K : List Row} → RowWords ws K → length ws ≡ ITEM * length K
rows-length {ws} {K} W = ap length W.words ∙ words-length K W.sets

pub row-item : {ws : List ℕ} {K : List Row} → RowWords ws K → (n : ℕ) → n < length K → get_or ws (ITEM * n) 0 ≡ item_of (get_or K n no_row)
row-item {ws} {K} W n l = ap (λ (w : List ℕ). get_or w (ITEM * n) 0) W.words ∙ item-at K n W.sets l

pub row-context : {ws : List ℕ} {K : List Row} → RowWords ws K → (n : ℕ) → n < length K → context_at ws n ≡ context_of (get_or K n no_row)
unfolding context_at
row-context {ws} {K} W n l = ap (λ (w : List ℕ). context_at w n) W.words ∙ context-at K n W.sets l

agree : (p q : Bool) → (p ≡ true → q ≡ true) → (q ≡ true → p ≡ true) → p ≡ q
agree true q h k = sym (h refl)
agree false true h k = k refl
agree false false h k = refl

module _ {ws us : List ℕ} (K L : List Row) (W : RowWords ws K) (U : RowWords us L) where
  -- ---- equality, as `==` tests it
  pub same_words : pointwise eqb ws us ≡ same_rows K L
  same_words = agree (pointwise eqb ws us) (same_rows K L) yes-rows yes-words
    where
      yes-rows : pointwise eqb ws us ≡ true → same_rows K L ≡ true
      yes-rows e =
          let z : K ≡ L = words-injective K L W.sets U.sets (sym W.words ∙ (bytes_decides ws us).0 e ∙ U.words) in
          ap (same_rows K) (sym z) ∙ rows_refl K

      yes-words : same_rows K L ≡ true → pointwise eqb ws us ≡ true
      yes-words e = (bytes_decides ws us).1 (W.words ∙ ap words_of (rows_is K L e) ∙ sym U.words)

  -- ---- the same items
  pub items-size : (length ws ≡ length us → ⊥) → false ≡ same item_same K L
  items-size h = sym (same_size item_same no_row K L (λ e. h (rows-length W ∙ ap (λ (n : ℕ). ITEM * n) e ∙ sym (rows-length U))))

  module _ (e : length ws ≡ length us) where
    size : length K ≡ length L
    size = omega (arith, rows-length W, rows-length U)

    pub items-differ : (i : ℕ) → i < length ws / ITEM → (get_or ws (ITEM * i) 0 ≡ get_or us (ITEM * i) 0 → ⊥) → false ≡ same item_same K L
    items-differ i l h =
        let k : i < length K = omega (arith, rows-length W) in
        let k' : i < length L = omega (arith, size) in
        sym (same-no item_same no_row K L i k k' (item-test (get_or K i no_row) (get_or L i no_row)
        ∙ ne_eqb (item_of (get_or K i no_row)) (item_of (get_or L i no_row)) (λ q. h (row-item W i k ∙ q ∙ sym (row-item U i k')))))

    pub items-same : ((i : ℕ) → i < length ws / ITEM → get_or ws (ITEM * i) 0 ≡ get_or us (ITEM * i) 0) → true ≡ same item_same K L
    items-same h =
        sym (same-yes item_same no_row K L size
        (λ i l. item-test (get_or K i no_row) (get_or L i no_row)
        ∙ eq-eqb (item_of (get_or K i no_row)) (item_of (get_or L i no_row))
        (sym (row-item W i l) ∙ h i (omega (arith, rows-length W)) ∙ row-item U i (omega (arith, size)))))

    -- ---- weak compatibility
    apart-is : (i j : ℕ) → i < length K → j < length K → apart_at ws us i j ≡ apart (get_or (contexts K L) i nothing) (get_or (contexts K L) j nothing)
    unfolding apart_at
    apart-is i j l k =
        rw (
          row-context W i l,
          row-context W j k,
          row-context U i (omega (arith, size)),
          row-context U j (omega (arith, size)),
          contexts-at K L i size l,
          contexts-at K L j size k,
        )

    pub weak-yes : same item_same K L ≡ true → ((i j : ℕ) → i < j → j < length ws / ITEM → apart_at ws us i j ≡ true) → true ≡ compatible K L
    unfolding compatible
    weak-yes t h =
        sym (ap₂ ◌&&◌ t (pairwise-yes apart nothing (contexts K L)
        (λ i j l k.
        let m : j < length K = omega (arith, contexts-length K L size) in
        sym (apart-is i j (omega arith) m) ∙ h i j l (omega (arith, rows-length W)))))

    pub weak-no : (i j : ℕ) → i < j → j < length ws / ITEM → apart_at ws us i j ≡ false → false ≡ compatible K L
    unfolding compatible
    weak-no i j l k q =
        let m : j < length K = omega (arith, rows-length W) in
        sym (ap (λ (t : Bool). same item_same K L && t)
        (pairwise-no apart nothing (contexts K L) i j l (omega (arith, contexts-length K L size)) (sym (apart-is i j (omega arith) m) ∙ q))
        ∙ and-false (same item_same K L))

  pub weak-items : same item_same K L ≡ false → false ≡ compatible K L
  unfolding compatible
  weak-items t = sym (ap (λ (c : Bool). c && pairwise apart (contexts K L)) t)

-- weakly compatible kernels have the same number of rows
pub compatible-size : (K L : List Row) → compatible K L ≡ true → length K ≡ length L
unfolding compatible
compatible-size K L e =
    elim (ℕ_discrete (length K) (length L)) [
      | yes q ↦ q
      | no d ↦ absurd (true≢false (sym (and_both (same item_same K L) (pairwise apart (contexts K L)) e).0 ∙ same_size item_same no_row K L d))
    ]
