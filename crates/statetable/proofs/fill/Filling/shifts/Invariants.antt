-- `Filling::shifts` meets its contract. Assumes nothing.
use Rattle.std.proofs.Common.{◌+◌, ◌*◌}
use Rattle.block.specs.Block.{tokens}
use Rattle.pager.specs.Lists.{walk}
use Rattle.statetable.specs.Events.{of_edges}
use Rattle.statetable.specs.Cells.{Fill, fill}
use Rattle.statetable.specs.Filled.{IsSame, LaidIn}
use Rattle.statetable.proofs.SameRoom.{HereIn}
use Rattle.statetable.proofs.Coming.{edges_from}
use Rattle.statetable.proofs.fill.Filling.shifts.Given as goal

abbrev pub invariant-loop-t : goal.invariant-loop-t
invariant-loop-t l =
    IsSame l.initial.self l.self
    × ((f : Fill) → LaidIn l.grammar.words.now (l.initial.self.state * tokens l.grammar.words.now) f l.initial.self
    → HereIn l.grammar.words.now l.initial.self (l.initial.self.state * tokens l.grammar.words.now + l.t)
    (walk (fill l.grammar.words.now l.initial.self.caps l.initial.self.state) f (of_edges 0 l.edges)) (edges_from l.edges l.t) l.self)
