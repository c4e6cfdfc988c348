use Rattle.std.proofs.Common.{◌≡◌, ◌*◌, length}
use Rattle.block.specs.Limits.{ITEM}
use Rattle.block.specs.Block.{symbols}
use Rattle.pager.specs.Building.{Scratch, Site, ForGotos}
use Rattle.pager.proofs.Walking.{Walked}
use Rattle.pager.proofs.build.place_all.Given as goal

abbrev pub invariant-loop-symbol : goal.invariant-loop-symbol
invariant-loop-symbol l =
    (length l.items ≡ length l.initial.items) × (length l.spans ≡ length l.initial.spans) × (length l.edges ≡ length l.initial.edges) × (length l.marks ≡ length l.initial.marks)
    × Scratch (ITEM * symbols l.grammar.words.now) l.initial.kernel l.kernel
    × ((s : Site) → ForGotos l.grammar.words.now l.room l.initial.count l.n l.closed l.initial.kernel l.initial.items l.initial.spans l.initial.edges l.initial.marks s → Walked l.grammar.words.now l.room l.n s l.symbol-index l.count l.items l.spans l.edges l.marks)
