-- Gotos copied from edges, state by state. Assumes nothing.
use mathlib.Core.List.{List, ◌++◌}
use mathlib.Core.Path.{◌≡◌, sym, ap, ap₂, ◌∙◌, subst}
use Prim.Native.Nat.{ℕ, ◌+◌, ◌-◌, ◌*◌, ◌≤◌, ◌<◌}
use native.Mathlib.Omega.{arith}
use lib.ListN.{length, get_or, take, drop}
use lib.Seq.{length-take-le, take-take}
use Rattle.block.specs.Limits.{TOKENS, RULES}
use Rattle.block.specs.Block.{tokens, rules}
use Rattle.block.proofs.Good.{placed}
use Rattle.pager.specs.Lists.{each}
use Rattle.pager.specs.Held.{STATES}
use Rattle.pager.specs.Place.{State}
use Rattle.pager.specs.Graph.{nowhere}
use Rattle.pager.specs.Memory.{edge_words}
use Rattle.pager.proofs.CallLaws.{edge-part}
use Rattle.statetable.specs.ForTables.{goto_words, ForGotos}
use Rattle.statetable.proofs.Writing.{RowsTo, rows_start, row_room, rows_next, rows-done}
use Rattle.statetable.proofs.Parts.{row-part, row_inside}

-- what the turn of state s reads and writes lies in tables of so many words
abbrev pub CopyRooms : (r t s edges gotos : ℕ) → Type 0
CopyRooms r t s edges gotos =
    (r + t ≤ RULES + TOKENS)
    × (s * (r + t) ≤ STATES * (RULES + TOKENS))
    × (s * r ≤ STATES * (RULES + TOKENS))
    × (s * (r + t) + (r + t) ≤ edges)
    × (s * r + r ≤ gotos)
    × (s < STATES)

-- ---- the rule edges of the first s states by now
module _ {b edges gotos : List ℕ} {n : ℕ} {ss : List State} (H : ForGotos b n edges gotos ss) where
  abbrev goto : State → List ℕ
  goto st = take (rules b) st.edges

  abbrev pub Copying : ℕ → List ℕ → Type 0
  Copying s gotos' = RowsTo goto (rules b) gotos ss s gotos'

  goto-wide : (k : ℕ) → k < length ss → length (goto (get_or ss k nowhere)) ≡ rules b
  goto-wide k l = length-take-le (rules b) (get_or ss k nowhere).edges (omega (arith, H.widths k (omega (arith, H.number))))

  gotos-size : length gotos ≡ length ss * rules b
  gotos-size = H.room ∙ ap (λ (k : ℕ). k * rules b) H.number

  pub copying-start : Copying 0 gotos
  copying-start = rows_start goto (rules b) nowhere gotos ss

  module _ (s : ℕ) (gotos' : List ℕ) (R : Copying s gotos') where
    pub copying-done : n ≤ s → gotos' ≡ goto_words b ss
    copying-done l = rows-done goto (rules b) nowhere gotos ss goto-wide gotos-size s gotos' R (omega (arith, H.number))

    -- of r rules and t tokens
    module _ (r : ℕ) (e : r ≡ rules b) (t : ℕ) (f : t ≡ tokens b) (l : s < n) where
      in-states : s < length ss
      in-states = omega (arith, H.number)

      edge-wide : (k : ℕ) → k < length ss → length (get_or ss k nowhere).edges ≡ rules b + tokens b
      edge-wide k m = H.widths k (omega (arith, H.number))

      all_edges : edges ≡ each (λ st. st.edges) ss ++ H.edges-behind
      unfolding edge_words
      all_edges = H.edges_are

      abbrev width : ℕ
      width = r + t

      wide : width ≡ rules b + tokens b
      wide = omega (arith, e, f)

      -- the first words of the row of state s
      abbrev row : List ℕ
      row = take (s * width + r - s * width) (drop (s * width) edges)

      row_is : row ≡ goto (get_or ss s nowhere)
      row_is =
          let whole : take (s * width + width - s * width) (drop (s * width) edges) ≡ (get_or ss s nowhere).edges =
          row-part (λ st. st.edges) (rules b + tokens b) nowhere ss edge-wide s in-states edges H.edges-behind all_edges (s * width) (s * width + width)
          (ap (λ (k : ℕ). s * k) wide) (ap (λ (k : ℕ). s * width + k) wide) in
          sym (take-take (s * width + r - s * width) (s * width + width - s * width) (drop (s * width) edges) (omega arith))
          ∙ ap₂ (λ (k : ℕ) (u : List ℕ). take k u) (omega (arith, e)) whole

      pub copied-rooms : length gotos' ≡ length gotos → CopyRooms r t s (length edges) (length gotos')
      copied-rooms g =
          let few = H.few in
          let q = placed H.good in
          let w : width ≤ RULES + TOKENS = omega (arith, wide, q.rules-most, q.tokens-most) in (
            w,
            edge-part s width (omega arith) w,
            edge-part s r (omega arith) (omega arith),
            subst (λ (k : ℕ). s * k + k ≤ length edges) (sym wide)
                (row_inside (λ st. st.edges) (rules b + tokens b) nowhere ss edge-wide s in-states edges H.edges-behind all_edges),
            omega (
              arith,
              ap (λ (k : ℕ). s * k + k) e,
              g,
              row_room goto (rules b) nowhere gotos ss goto-wide gotos-size s gotos' R in-states,
            ),
            omega arith,
          )

      pub copying-next : (ys : List ℕ) → ys ≡ row
          → Copying (s + 1) (take (s * r) gotos' ++ (ys ++ drop (s * r + r - s * r) (drop (s * r) gotos')))
      copying-next ys q =
          rows_next goto (rules b) nowhere gotos ss goto-wide gotos-size s gotos' R in-states (s * r) (s * r + r - s * r)
          (ap (λ (k : ℕ). s * k) e) (omega (arith, e)) ys (q ∙ row_is)
