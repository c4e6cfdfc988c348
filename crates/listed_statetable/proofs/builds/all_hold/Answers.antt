-- `all_hold` compares the numbers, the buffers and the work room. Assumes nothing.
use Rattle.words.proofs.Answers.{fails}
use Rattle.listed_statetable.proofs.Expected.{more-is, three-behind}
use Rattle.listed_statetable.proofs.PartLists.{begins-three}
use Rattle.listed_statetable.proofs.builds.all_hold.Goals as goal

pub returns-then-not-graph_begins : goal.returns-then-not-graph_begins
returns-then-not-graph_begins c =
    let a = c.args in
    let n = c.numbers_of-numbers in
    fails _ c.graph_begins.ensures c.if-not-graph_begins.true
    (λ h. begins-three _ a.items.now a.spans.now a.edges.now _
    (more-is a.expected.now n.result _ _ 10 n.ensures.numbers n.ensures.count h.0))

pub returns-then-not-tables_hold : goal.returns-then-not-tables_hold
returns-then-not-tables_hold c =
    let a = c.args in
    let n = c.numbers_of-numbers in
    let t = c.behind_three-tables in
    fails _ c.tables_hold.ensures c.if-not-tables_hold.true
    (λ h. three-behind _ t.result.now a.items.now a.spans.now a.edges.now _ t.ensures
    (more-is a.expected.now n.result _ _ 10 n.ensures.numbers n.ensures.count h.0))
