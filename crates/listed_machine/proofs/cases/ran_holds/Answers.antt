-- `ran_holds` compares the numbers, then the stack, then the output, and nothing may follow. Assumes nothing.
use Rattle.words.proofs.Answers.{fails}
use Rattle.listed_machine.proofs.RanLaws.{whole-first, whole-last}
use Rattle.listed_machine.proofs.cases.ran_holds.Goals as goal

pub returns-then-not-begins : goal.returns-then-not-begins
returns-then-not-begins c =
    let a = c.args in
    rw (← c.numbers_of-numbers.ensures.numbers)
    (fails c.begins.result c.begins.ensures c.if-not-begins.true
    (whole-first a.expected.now c.numbers_of-numbers.result a.stack.now a.output.now 5 c.numbers_of-numbers.ensures.count))

pub returns-then-not-begins-2 : goal.returns-then-not-begins-2
returns-then-not-begins-2 c =
    let a = c.args in
    rw (← c.numbers_of-numbers.ensures.numbers)
    (fails c.begins-2.result c.begins-2.ensures c.if-not-begins-2.true
    (whole-last a.expected.now c.numbers_of-numbers.result a.stack.now a.output.now 5 c.numbers_of-numbers.ensures.count c.behind-last.result.now c.behind-last.ensures))
