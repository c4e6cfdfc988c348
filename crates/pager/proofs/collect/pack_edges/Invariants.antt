-- The edges of the marked ones of the first s states are moved down. Assumes nothing.
use Rattle.std.proofs.Common.{List, ◌≤◌, length}
use Rattle.pager.specs.Place.{State}
use Rattle.pager.specs.Collecting.{flags_of, EdgePart, Numbered}
use Rattle.pager.proofs.Collecting.PackEdges.{EdgePacking}
use Rattle.pager.proofs.collect.pack_edges.Given as goal

abbrev pub invariant-loop-s : goal.invariant-loop-s
invariant-loop-s l =
    (l.to ≤ length l.edges)
    × ((ss : List State) → EdgePart l.width ss l.initial.edges l.marks → Numbered ss l.marks → EdgePacking (flags_of l.marks) ss l.edges l.to l.s)
