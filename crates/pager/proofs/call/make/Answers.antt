-- `call::make` meets its contract. Assumes nothing.
use Rattle.std.proofs.Common.{ap₂, ◌+◌}
use Rattle.pager.specs.Held.{limits_of}
use Rattle.pager.specs.CallSteps.{behind_of}
use Rattle.pager.proofs.CallParts.{cleared}
use Rattle.pager.proofs.call.make.Goals as goal

pub build_graph-made-requires : goal.build_graph-made-requires
build_graph-made-requires c =
    let cl = c.clear_room in (
      behind_of c.args.firsts.now.grammar.words.now (limits_of c.args.room) c.args.items.now c.args.spans.now c.args.edges.now c.args.marks.now,
      cleared c.requires _ (ap₂ ◌+◌ c.rules.ensures c.tokens.ensures) _ _ _ _ cl.ensures.items cl.ensures.spans cl.ensures.edges cl.ensures.marks,
    )
