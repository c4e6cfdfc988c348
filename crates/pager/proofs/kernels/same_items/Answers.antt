-- The items up to i are the same. Assumes nothing.
use Rattle.std.proofs.Common.{arith}
use Rattle.pager.proofs.RowTests.{items-size, items-differ, items-same}
use Rattle.pager.proofs.kernels.same_items.Goals as goal

pub returns-then-a-b-clause-items : goal.returns-then-a-b-clause-items
returns-then-a-b-clause-items c = λ K L W U. items-size K L W U c.if-a-b.true

pub returns-then-a-i-clause-items : goal.returns-then-a-i-clause-items
returns-then-a-i-clause-items c = λ K L W U. items-differ K L W U c.if-a-b.false c.loop-i.i (omega arith) c.if-a-i.true

pub returns-clause-items : goal.returns-clause-items
returns-clause-items c = λ K L W U. items-same K L W U c.if-a-b.false (λ k m. c.loop-i.invariant k (omega arith))
