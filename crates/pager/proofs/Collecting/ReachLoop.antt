-- The turns of the search for the states reached, as the code reads the row of edges. Assumes nothing.
use mathlib.Core.List.{List}
use mathlib.Core.Path.{◌≡◌, refl, ap}
use Prim.Native.Nat.{ℕ, ◌+◌, ◌*◌, ◌-◌, ◌≤◌, ◌<◌}
use native.Mathlib.Omega.{arith}
use lib.ListN.{length, get_or, take, drop}
use Rattle.pager.specs.Place.{State}
use Rattle.pager.specs.Graph.{nowhere}
use Rattle.pager.specs.Rule7.{Edges}
use Rattle.pager.specs.Collecting.{RowReady, RowReached, Shaped, EdgePart}
use Rattle.pager.proofs.Collecting.StateWords.{edges-row, edges-inside}
use Rattle.pager.proofs.Collecting.Reaching.{Reaching, left, top_below, reach-turn, reach-less}

pub shaped-edges : {w : ℕ} {ss : List State} → Shaped w ss → Edges ss
shaped-edges S = record { some = S.some; low = S.low }

module _ {w : ℕ} {edges marks₀ : List ℕ} {ss : List State} (E : EdgePart w ss edges marks₀) {marks : List ℕ} {h : ℕ} (R : Reaching ss marks h)
    (some : 0 < h) where
  abbrev s : ℕ
  s = get_or marks (2 * h - 1) 0

  s-low : s < length ss
  s-low = top_below ss (shaped-edges E.shaped) marks h R some

  pub safe-row : s * w + w ≤ length edges
  safe-row = omega (arith, ap length E.edges-is, edges-inside E.shaped s s-low)

  -- the row of the state on top
  abbrev row : List ℕ
  row = take w (drop (s * w) edges)

  row_is : row ≡ (get_or ss s nowhere).edges
  row_is = rw E.edges-is (edges-row E.shaped s s-low)

  pub safe-marks : RowReady row marks (h - 1)
  safe-marks = rw row_is (record { low = λ i. omega (arith, E.shaped.low s i, R.size); room = omega (arith, R.room) })

  module _ {marks' : List ℕ} {e : ℕ} (same : length marks' ≡ length marks) (T : RowReached row marks (h - 1) marks' e) where
    next_row : RowReached (get_or ss s nowhere).edges marks (h - 1) marks' e
    next_row = rw row_is at T

    pub reach-next : Reaching ss marks' e
    reach-next = reach-turn ss (shaped-edges E.shaped) marks h R s some refl marks' e same next_row

    pub reach-falls : left marks' e < left marks h
    reach-falls = reach-less ss (shaped-edges E.shaped) marks h R s some refl marks' e same next_row
