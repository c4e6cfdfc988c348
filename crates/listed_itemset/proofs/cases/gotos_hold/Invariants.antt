-- `gotos_hold` compares the count, then for each symbol sighted itself and its goto kernel. Assumes nothing.
use Rattle.std.proofs.Common.{List}
use Rattle.itemset.specs.Rows.{Row}
use Rattle.itemset.specs.Lent.{RowsIn}
use Rattle.listed_itemset.proofs.Kernels.{Left}
use Rattle.listed_itemset.proofs.cases.gotos_hold.Given as goal

abbrev pub invariant-loop-symbol : goal.invariant-loop-symbol
invariant-loop-symbol l = (C : List Row) → RowsIn l.grammar.words.now l.closed C → Left l.grammar.words.now C l.symbols l.symbol-index l.initial.rest l.rest
