-- `count_cases` goes from line to line: a line takes a turn. Assumes nothing.
use Rattle.std.proofs.Common.{ℕ, ◌+◌, ◌-◌, ◌≤◌, length}
use Rattle.replay.specs.Tally.{Counted}
use Rattle.replay.proofs.lines.count_cases.Given as goal

abbrev pub invariant-loop : goal.invariant-loop
invariant-loop l =
    ((q a w : ℕ) → Counted l.list l.text (length l.text - l.counter) l.at l.cases l.differ q a w → Counted l.list l.text (length l.text) 0 0 0 q a w)
    × (l.cases + (length l.text - l.counter) ≤ length l.text) × (l.differ ≤ l.cases)
