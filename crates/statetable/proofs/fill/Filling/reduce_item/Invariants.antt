-- `Filling::reduce_item` meets its contract. Assumes nothing.
use Rattle.std.proofs.Common.{map, ◌≡◌, ◌*◌}
use Rattle.block.specs.Block.{tokens}
use Rattle.block.specs.Sets.{members}
use Rattle.pager.specs.Lists.{walk}
use Rattle.statetable.specs.Events.{completes}
use Rattle.statetable.specs.Cells.{Fill, fill}
use Rattle.statetable.specs.Filled.{IsSame, LaidIn}
use Rattle.statetable.proofs.SameRoom.{HereIn}
use Rattle.statetable.proofs.Coming.{tokens_from}
use Rattle.statetable.proofs.fill.Filling.reduce_item.Given as goal

abbrev pub invariant-loop-t : goal.invariant-loop-t
invariant-loop-t l =
    (l.t-iterator.set.words ≡ l.fn.set.words)
    × IsSame l.initial.self l.self
    × ((f : Fill) → LaidIn l.grammar.words.now (l.initial.self.state * tokens l.grammar.words.now) f l.initial.self
    → HereIn l.grammar.words.now l.initial.self (l.initial.self.state * tokens l.grammar.words.now)
    (walk (fill l.grammar.words.now l.initial.self.caps l.initial.self.state) f (map (λ u. completes u l.p) (members (tokens l.grammar.words.now) l.fn.set.words)))
    (tokens_from (tokens l.grammar.words.now) l.fn.set.words l.p l.t-iterator.from) l.self)
