-- `goto_kernel` meets its contract: of the goto rows, those of row k on are still to be written. Assumes nothing.
use Rattle.std.proofs.Common.{List, ◌≡◌, length, drop}
use Rattle.itemset.specs.Rows.{Row}
use Rattle.itemset.specs.Goto.{goto_of}
use Rattle.itemset.specs.Lent.{ForGoto}
use Rattle.itemset.proofs.Writing.{Writing}
use Rattle.itemset.proofs.goto.goto_kernel.Given as goal

abbrev pub invariant-loop-row : goal.invariant-loop-row
invariant-loop-row l =
    (length l.out ≡ length l.initial.out)
    × ((C : List Row) → ForGoto l.grammar.words.now l.closed l.initial.out C → Writing (goto_of l.grammar.words.now C l.x) (goto_of l.grammar.words.now (drop l.row-index C) l.x) l.rows l.initial.out l.out)
