-- `replay` answers the tally of what it read, and reads no further than what was read. Each cites the callee's promise: a search would count out the room. Assumes nothing.
use Rattle.replay.proofs.lines.replay.Goals as goal

pub slice_bounds-text-end : goal.slice_bounds-text-end
slice_bounds-text-end g c = c.in_ok-n.ensures.within

pub returns-in_ok-println-2 : goal.returns-in_ok-println-2
returns-in_ok-println-2 g c = (_, c.count_cases-tally.ensures)
