use Rattle.std.proofs.Common.{ap, ◌∙◌, ℕ, ◌+◌, ◌/◌}
use Rattle.pager.proofs.Drawn.{edge-rule, edge-token}
use Rattle.pager.proofs.build.edge_at.Goals as goal

pub returns-then-x-eq0 : goal.returns-then-x-eq0
returns-then-x-eq0 c =
    let a = c.args in
    edge-rule a.grammar.words.now a.x c.if-x-eq0.true

pub returns-else-x-eq0 : goal.returns-else-x-eq0
returns-else-x-eq0 c =
    let a = c.args in
    ap (λ (k : ℕ). k + a.x / 2) c.rules.ensures ∙ edge-token a.grammar.words.now a.x c.if-x-eq0.false
