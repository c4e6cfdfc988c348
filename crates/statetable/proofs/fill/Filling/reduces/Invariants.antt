-- `Filling::reduces` meets its contract. Assumes nothing.
use Rattle.std.proofs.Common.{List, ◌*◌}
use Rattle.block.specs.Block.{tokens}
use Rattle.itemset.specs.Rows.{Row}
use Rattle.pager.specs.Lists.{each, walk}
use Rattle.statetable.specs.Events.{of_row}
use Rattle.statetable.specs.Cells.{Fill, fill}
use Rattle.statetable.specs.Filled.{IsSame, LaidIn}
use Rattle.statetable.specs.ForFilling.{ForRow}
use Rattle.statetable.proofs.SameRoom.{HereIn}
use Rattle.statetable.proofs.Coming.{rows_from}
use Rattle.statetable.proofs.fill.Filling.reduces.Given as goal

abbrev pub invariant-loop-i : goal.invariant-loop-i
invariant-loop-i l =
    IsSame l.initial.self l.self
    × ((C : List Row) (f : Fill) → ForRow l.grammar.words.now l.closed C → LaidIn l.grammar.words.now (l.initial.self.state * tokens l.grammar.words.now) f l.initial.self
    → HereIn l.grammar.words.now l.initial.self (l.initial.self.state * tokens l.grammar.words.now)
    (walk (fill l.grammar.words.now l.initial.self.caps l.initial.self.state) f (each (of_row l.grammar.words.now) C)) (rows_from l.grammar.words.now C l.i) l.self)
