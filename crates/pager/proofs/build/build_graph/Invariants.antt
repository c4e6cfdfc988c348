use Rattle.std.proofs.Common.{[], ◌∷◌, ◌≡◌, ◌+◌, ◌*◌, length}
use Rattle.block.specs.Limits.{ITEM}
use Rattle.block.specs.Block.{prods, symbols}
use Rattle.pager.specs.Graph.{start_state}
use Rattle.pager.specs.Held.{Behind}
use Rattle.pager.specs.Building.{Scratch, Counted}
use Rattle.pager.proofs.Turning.{left_of, Run}
use Rattle.pager.proofs.build.build_graph.Given as goal

abbrev pub invariant-loop-s : goal.invariant-loop-s
invariant-loop-s l =
    (length l.items ≡ length l.initial.items) × (length l.spans ≡ length l.initial.spans) × (length l.edges ≡ length l.initial.edges) × (length l.marks ≡ length l.initial.marks)
    × Scratch (ITEM * (symbols l.firsts.grammar.words.now + prods l.firsts.grammar.words.now)) l.initial.closed l.closed × Scratch (ITEM * symbols l.firsts.grammar.words.now) l.initial.kernel l.kernel
    × ((z : Behind) → Counted l.firsts.grammar.words.now l.room (start_state l.firsts.grammar.words.now ∷ []) l.initial.count l.initial.items l.initial.spans l.initial.edges l.initial.marks z → Run l.firsts.grammar.words.now l.room l.last l.count l.items l.spans l.edges l.marks z)

abbrev pub decreases-loop-s : goal.decreases-loop-s
decreases-loop-s l =
    left_of l.room l.count l.items l.marks
