-- The marked ones of the first s states are moved down. Assumes nothing.
use Rattle.std.proofs.Common.{List, ◌*◌, ◌≤◌, length}
use Rattle.block.specs.Limits.{ITEM}
use Rattle.pager.specs.Place.{State}
use Rattle.pager.specs.Collecting.{flags_of, ItemPart}
use Rattle.pager.proofs.Collecting.Packing.{Packing}
use Rattle.pager.proofs.collect.pack_items.Given as goal

abbrev pub invariant-loop-s : goal.invariant-loop-s
invariant-loop-s l =
    (ITEM * l.row ≤ length l.items)
    × (2 * l.k ≤ length l.spans)
    × ((ss : List State) → ItemPart ss l.initial.items l.initial.spans l.marks → Packing (flags_of l.marks) ss l.items l.spans l.k l.row l.s)
