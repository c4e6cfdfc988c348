-- The states kept of the first s, one state more, and how many words they have. Assumes nothing.
use mathlib.Core.Bool.{Bool, true, false, true≢false}
use mathlib.Core.List.{List, [], ◌∷◌, ◌++◌, map}
use mathlib.Core.Path.{◌≡◌, refl, sym, ap}
use Prim.Native.Nat.{ℕ, zero, suc, ◌*◌, ◌≤◌, ◌<◌}
use native.Mathlib.Omega.{arith}
use lib.ListN.{length, get_or, take, length-append, length-map}
use lib.Seq.{take_all, length-take-le, get_or-take}
use Rattle.block.specs.Limits.{ITEM}
use Rattle.itemset.specs.Rows.{words_of, Sets}
use Rattle.itemset.proofs.Words.{words-length}
use Rattle.pager.specs.Lists.{each}
use Rattle.pager.specs.Place.{State, items}
use Rattle.pager.specs.Graph.{nowhere}
use Rattle.pager.specs.Collect.{renumber, kept}
use Rattle.pager.specs.Memory.{item_words, edge_words}
use Rattle.pager.proofs.Ranks.{renumbered, kept-few, kept-fit}

module _ (M : List Bool) where
  -- what is kept of the first s
  abbrev pub kept_to : List Bool → List State → ℕ → List State
  kept_to ms ss s = kept M (take s ms) (take s ss)

  pub kept-marked : (ms : List Bool) (ss : List State) (s : ℕ) → s < length ss → get_or ms s false ≡ true
      → kept_to ms ss (suc s) ≡ kept_to ms ss s ++ (renumbered M (get_or ss s nowhere) ∷ [])
  unfolding kept
  kept-marked [] ss s l e = absurd (true≢false (sym e))
  kept-marked (m ∷ ms) [] s l e = absurd (omega arith)
  kept-marked (true ∷ ms) (st ∷ ss) zero l e = refl
  kept-marked (false ∷ ms) (st ∷ ss) zero l e = absurd (true≢false (sym e))
  kept-marked (true ∷ ms) (st ∷ ss) (suc s) l e = ap (λ rr. renumbered M st ∷ rr) (kept-marked ms ss s (omega arith) e)
  kept-marked (false ∷ ms) (st ∷ ss) (suc s) l e = kept-marked ms ss s (omega arith) e

  pub kept-unmarked : (ms : List Bool) (ss : List State) (s : ℕ) → s < length ss → get_or ms s false ≡ false → kept_to ms ss (suc s) ≡ kept_to ms ss s
  unfolding kept
  kept-unmarked [] ss s l e = none s
    where
      none : (s : ℕ) → kept M [] (take (suc s) ss) ≡ kept M (take s []) (take s ss)
      none zero = refl
      none (suc s) = refl
  kept-unmarked (m ∷ ms) [] s l e = absurd (omega arith)
  kept-unmarked (true ∷ ms) (st ∷ ss) zero l e = absurd (true≢false e)
  kept-unmarked (false ∷ ms) (st ∷ ss) zero l e = refl
  kept-unmarked (true ∷ ms) (st ∷ ss) (suc s) l e = ap (λ rr. renumbered M st ∷ rr) (kept-unmarked ms ss s (omega arith) e)
  kept-unmarked (false ∷ ms) (st ∷ ss) (suc s) l e = kept-unmarked ms ss s (omega arith) e

  -- of all of them
  pub kept-all : (ms : List Bool) (ss : List State) (s : ℕ) → length ss ≤ s → length ms ≡ length ss → kept_to ms ss s ≡ kept M ms ss
  kept-all ms ss s l e = rw (take_all s ms (omega arith), take_all s ss l) refl

  -- ---- their words
  kept-words : (ms : List Bool) (ss : List State) → ((k : ℕ) → k < length ss → Sets (get_or ss k nowhere).rows)
      → length (item_words (kept M ms ss)) ≡ ITEM * items (kept M ms ss)
  unfolding kept item_words each items
  kept-words [] ss h = omega arith
  kept-words (m ∷ ms) [] h = omega arith
  kept-words (true ∷ ms) (st ∷ ss) h =
      omega (
        arith,
        length-append (words_of st.rows) (item_words (kept M ms ss)),
        words-length st.rows (h 0 (omega arith)),
        kept-words ms ss (λ k l. h (suc k) (omega arith)),
      )
  kept-words (false ∷ ms) (st ∷ ss) h = kept-words ms ss (λ k l. h (suc k) (omega arith))

  kept-edges : (ms : List Bool) (ss : List State) → length (edge_words (kept M ms ss)) ≤ length (edge_words ss)
  unfolding kept edge_words each
  kept-edges [] ss = omega arith
  kept-edges (m ∷ ms) [] = omega arith
  kept-edges (true ∷ ms) (st ∷ ss) =
      omega (
        arith,
        length-append (map (renumber M) st.edges) (edge_words (kept M ms ss)),
        length-map st.edges (renumber M),
        length-append st.edges (edge_words ss),
        kept-edges ms ss,
      )
  kept-edges (false ∷ ms) (st ∷ ss) = omega (arith, length-append st.edges (edge_words ss), kept-edges ms ss)

  module _ (ms : List Bool) (ss : List State) (s : ℕ) (low : s ≤ length ss) where
    pub kept_to-few : length (kept_to ms ss s) ≤ s
    kept_to-few = omega (arith, kept-few M (take s ms) (take s ss), length-take-le s ss low)

    pub kept_to-fit : items (kept_to ms ss s) ≤ items (take s ss)
    kept_to-fit = kept-fit M (take s ms) (take s ss)

    pub kept_to-words : ((k : ℕ) → k < length ss → Sets (get_or ss k nowhere).rows) → length (item_words (kept_to ms ss s)) ≡ ITEM * items (kept_to ms ss s)
    kept_to-words h = kept-words (take s ms) (take s ss) (λ k l. at k (omega (arith, length-take-le s ss low)))
      where
        at : (k : ℕ) → k < s → Sets (get_or (take s ss) k nowhere).rows
        at k l = rw (get_or-take s ss k nowhere l) (h k (omega arith))

    pub kept_to-edges : length (edge_words (kept_to ms ss s)) ≤ length (edge_words (take s ss))
    kept_to-edges = kept-edges (take s ms) (take s ss)
