-- `kernel_holds` has room for the closed rows and compares them, then the gotos. Assumes nothing.
use Rattle.std.proofs.Common.{arith}
use Rattle.words.proofs.Answers.{refuted}
use Rattle.listed_itemset.proofs.KernelLaws.{kernel-other, kernel-by, big, fits, counts, part-is, rows-in}
use Rattle.listed_itemset.proofs.cases.kernel_holds.Goals as goal

pub overflow_mul-room : goal.overflow_mul-room
overflow_mul-room c =
    let a = c.args in
    let R = c.rows_right.ensures.0 c.if-not-rows_right.false in
    let m = big 4096 _ (omega (arith, c.if-symbols-productions.false, c.symbols.ensures, c.productions.ensures)) in
    omega (arith, fits a.grammar.words.now _ a.kernel.now _ c.close-n.new.out c.close-n.result c.new-firsts.ensures m c.close-n.ensures R.0 R.1, c.close-n.auto.out)

pub slice_bounds-room-end : goal.slice_bounds-room-end
slice_bounds-room-end c =
    let a = c.args in
    let R = c.rows_right.ensures.0 c.if-not-rows_right.false in
    let m = big 4096 _ (omega (arith, c.if-symbols-productions.false, c.symbols.ensures, c.productions.ensures)) in
    fits a.grammar.words.now _ a.kernel.now _ c.close-n.new.out c.close-n.result c.new-firsts.ensures m c.close-n.ensures R.0 R.1

pub slice_bounds-closed-end : goal.slice_bounds-closed-end
slice_bounds-closed-end c =
    let a = c.args in
    let R = c.rows_right.ensures.0 c.if-not-rows_right.false in
    let m = big 4096 _ (omega (arith, c.if-symbols-productions.false, c.symbols.ensures, c.productions.ensures)) in
    counts a.grammar.words.now _ a.kernel.now _ c.close-n.new.out c.close-n.result c.new-firsts.ensures m c.close-n.ensures R.0 R.1

pub returns-then-not-same : goal.returns-then-not-same
returns-then-not-same c =
    let a = c.args in
    let R = c.rows_right.ensures.0 c.if-not-rows_right.false in
    let m = big 4096 _ (omega (arith, c.if-symbols-productions.false, c.symbols.ensures, c.productions.ensures)) in
    let i = c.in-Some in
    kernel-other a.grammar.words.now a.kernel.now a.expected.now i.rows.now i.gotos.now i.ensures.2 _ (part-is a.grammar.words.now _ a.kernel.now _ c.close-n.new.out c.close-n.result c.new-firsts.ensures m c.close-n.ensures)
    (refuted c.same.result c.same.ensures c.if-not-same.true)

pub gotos_hold-requires-clause-closed : goal.gotos_hold-requires-clause-closed
gotos_hold-requires-clause-closed c =
    let a = c.args in
    let R = c.rows_right.ensures.0 c.if-not-rows_right.false in
    let m = big 4096 _ (omega (arith, c.if-symbols-productions.false, c.symbols.ensures, c.productions.ensures)) in
    (_, rows-in a.grammar.words.now _ a.kernel.now _ c.close-n.new.out c.close-n.result c.new-firsts.ensures m c.close-n.ensures R.0 R.1)

pub returns : goal.returns
returns c =
    let a = c.args in
    let R = c.rows_right.ensures.0 c.if-not-rows_right.false in
    let m = big 4096 _ (omega (arith, c.if-symbols-productions.false, c.symbols.ensures, c.productions.ensures)) in
    let i = c.in-Some in
    kernel-by a.grammar.words.now a.kernel.now a.expected.now i.rows.now i.gotos.now i.ensures.2 _ (part-is a.grammar.words.now _ a.kernel.now _ c.close-n.new.out c.close-n.result c.new-firsts.ensures m c.close-n.ensures)
    (omega (arith, c.if-symbols-productions.false, c.symbols.ensures, c.productions.ensures)) R.0 R.1
    (c.same.ensures.0 c.if-not-same.false)
    (λ K S. c.gotos_hold.ensures _ (rows-in a.grammar.words.now _ a.kernel.now _ c.close-n.new.out c.close-n.result c.new-firsts.ensures m c.close-n.ensures K S))
