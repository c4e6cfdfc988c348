-- Each row up to i is apart from every later one. Assumes nothing.
use Rattle.std.proofs.Common.{sym, ◌∙◌, arith}
use Rattle.pager.proofs.RowTests.{weak-items, weak-no, weak-yes}
use Rattle.pager.proofs.kernels.weakly_compatible.Goals as goal

pub returns-then-not-same_items : goal.returns-then-not-same_items
returns-then-not-same_items c = λ K L W U. weak-items K L W U (sym (c.same_items.ensures.items K L W U) ∙ c.if-not-same_items.true)

pub returns-then-row_blocks : goal.returns-then-row_blocks
returns-then-row_blocks c =
    λ K L W U.
    let size = c.same_items.ensures.size c.if-not-same_items.false in
    let (j, l, m, e) = c.row_blocks.ensures.blocked c.if-row_blocks.true in
    weak-no K L W U size c.loop-i.i j l m e

pub returns : goal.returns
returns c =
    λ K L W U.
    let size = c.same_items.ensures.size c.if-not-same_items.false in
    weak-yes K L W U size (sym (c.same_items.ensures.items K L W U) ∙ c.if-not-same_items.false) (λ k j m h. c.loop-i.invariant k j (omega arith) m h)
