-- `call::build` meets its contract. Assumes nothing.
use Rattle.std.proofs.Common.{ap₂, ◌+◌}
use Rattle.block.specs.First.{firsts_of}
use Rattle.pager.specs.Graph.{graph_of}
use Rattle.pager.specs.Held.{limits_of}
use Rattle.pager.specs.CallSteps.{behind_of}
use Rattle.pager.proofs.CallLaws.{lent_is}
use Rattle.pager.proofs.call.build.Goals as goal

pub finish-requires : goal.finish-requires
finish-requires c =
    let k = c.make-made.ensures in (
      record { block = c.args.firsts.now.grammar.words.now; graph = graph_of c.args.firsts.now.grammar.words.now (firsts_of c.args.firsts.now.grammar.words.now) (limits_of c.args.room); behind = behind_of c.args.firsts.now.grammar.words.now (limits_of c.args.room) c.args.items.now c.args.spans.now c.args.edges.now c.args.marks.now },
      record { fair = c.requires.fair; width_is = ap₂ ◌+◌ c.rules.ensures c.tokens.ensures; built = k.built },
    )

pub returns : goal.returns
returns c =
    let k = c.make-made.ensures in
    let F = c.finish.ensures (record { block = c.args.firsts.now.grammar.words.now; graph = graph_of c.args.firsts.now.grammar.words.now (firsts_of c.args.firsts.now.grammar.words.now) (limits_of c.args.room); behind = behind_of c.args.firsts.now.grammar.words.now (limits_of c.args.room) c.args.items.now c.args.spans.now c.args.edges.now c.args.marks.now })
    (record { fair = c.requires.fair; width_is = ap₂ ◌+◌ c.rules.ensures c.tokens.ensures; built = k.built }) in
    record { answer = F.answer; buffers = lent_is F.items-are F.spans-are F.edges_are F.marks-are k.closed k.kernel }
