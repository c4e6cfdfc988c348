-- The steps of collection put together, on the parts that hold the states. Assumes nothing.
use mathlib.Core.Bool.{true, false}
use mathlib.Core.List.{List}
use mathlib.Core.Path.{◌≡◌, ap, ◌∙◌}
use Prim.Native.Nat.{ℕ, suc}
use lib.ListN.{get_or}
use Rattle.pager.specs.Place.{State}
use Rattle.pager.specs.Graph.{nowhere}
use Rattle.pager.specs.Collect.{reach_of, kept, collect_of}
use Rattle.pager.specs.Rule7.{Reachable}
use Rattle.pager.specs.Collecting.{flags_of, Shaped, Renumbered, Numbered, kept_by}
use Rattle.pager.proofs.Reach.{reach-iff}
use Rattle.pager.proofs.Collecting.ReachLoop.{shaped-edges}

-- the marks after the search, and after renumbering
module _ {w : ℕ} (ss : List State) (S : Shaped w ss) (found marks : List ℕ) (reached : flags_of found ≡ reach_of ss) (R : Renumbered found marks) where
  flags : flags_of marks ≡ reach_of ss
  flags = R.flags ∙ reached

  reach-closed : (n i t : ℕ) → get_or (reach_of ss) n false ≡ true → get_or (get_or ss n nowhere).edges i 0 ≡ suc t → get_or (reach_of ss) t false ≡ true
  reach-closed n i t m e = (reach-iff ss (shaped-edges S) t).1 (Reachable.step i ((reach-iff ss (shaped-edges S) n).0 m) e)

  pub parts-numbered : Numbered ss marks
  parts-numbered = record { numbers = rw R.flags R.numbers; closed = rw flags reach-closed }

  pub parts-kept : kept_by marks ss ≡ collect_of ss
  unfolding collect_of
  parts-kept = ap (λ ms. kept ms ms ss) flags
