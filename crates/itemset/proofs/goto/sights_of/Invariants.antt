-- `sights_of` meets its contract: after i rows the rooms hold what was sighted in them. Assumes nothing.
use Rattle.std.proofs.Common.{List, take}
use Rattle.itemset.specs.Rows.{Row}
use Rattle.itemset.specs.Goto.{sights_of}
use Rattle.itemset.specs.Lent.{RowsIn}
use Rattle.itemset.proofs.Seen.{Seen}
use Rattle.itemset.proofs.goto.sights_of.Given as goal

abbrev pub invariant-loop-row : goal.invariant-loop-row
invariant-loop-row l = (C : List Row) → RowsIn l.grammar.words.now l.closed C → Seen l.seen l.symbols l.count (sights_of l.grammar.words.now (take l.row-index C))
