-- `buffers_hold` compares three parts, and wants nothing behind them. Assumes nothing.
use Rattle.words.proofs.Answers.{says-no, refuted}
use Rattle.listed_pager.proofs.ThreeParts.{nothing-more}
use Rattle.listed_pager.proofs.cases.buffers_hold.Goals as goal

pub returns-then-not-graph_begins : goal.returns-then-not-graph_begins
returns-then-not-graph_begins c =
    let a = c.args in
    says-no (λ e. refuted c.graph_begins.result c.graph_begins.ensures c.if-not-graph_begins.true (nothing-more a.expected.now a.items.now a.spans.now a.edges.now e))
