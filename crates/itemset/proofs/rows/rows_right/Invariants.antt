-- `rows_right` meets its contract: of the rows read back, those from row i on are still to be tested. Assumes nothing.
use Rattle.std.proofs.Common.{◌/◌, length}
use Rattle.block.specs.Limits.{ITEM}
use Rattle.itemset.proofs.Read.{Left}
use Rattle.itemset.proofs.rows.rows_right.Given as goal

abbrev pub invariant-loop-row : goal.invariant-loop-row
invariant-loop-row l = Left l.grammar.words.now l.words (length l.words / ITEM) l.least l.row-index
