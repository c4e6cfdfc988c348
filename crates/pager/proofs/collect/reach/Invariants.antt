-- Each marked state is reached, and its targets are marked or it is on the stack. Assumes nothing.
use Rattle.std.proofs.Common.{List, ◌*◌, ◌≤◌, length}
use Rattle.pager.specs.Place.{State}
use Rattle.pager.specs.Collecting.{EdgePart}
use Rattle.pager.proofs.Collecting.Reaching.{Reaching, left}
use Rattle.pager.proofs.collect.reach.Given as goal

abbrev pub invariant-loop-h : goal.invariant-loop-h
invariant-loop-h l = (2 * l.h ≤ length l.marks) × ((ss : List State) → EdgePart l.width ss l.edges l.fn.marks → Reaching ss l.marks l.h)

abbrev pub decreases-loop-h : goal.decreases-loop-h
decreases-loop-h l = left l.marks l.h
