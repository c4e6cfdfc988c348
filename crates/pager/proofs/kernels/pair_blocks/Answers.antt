-- The test is `apart`, denied. Assumes nothing.
use Rattle.std.proofs.Common.{◌≡◌, refl, ap, not, ◌||◌, rules}
use Rattle.block.specs.Sets.{meets}
use Rattle.pager.specs.Weak.{apart}
use Rattle.pager.specs.RowWords.{apart_at, context_at}
use Rattle.pager.proofs.kernels.pair_blocks.Goals as goal

pub returns-after-meets-3 : goal.returns-after-meets-3
unfolding apart_at apart context_at
returns-after-meets-3 c =
    let across : c.if-meets.value ≡ (meets c.load-ai.result.words c.load-bj.result.words || meets c.load-aj.result.words c.load-bi.result.words) = search rules in
    let straight : c.if-meets-3.result ≡ (meets c.load-ai.result.words c.load-aj.result.words || meets c.load-bi.result.words c.load-bj.result.words) = search rules in
    rw (← c.load-ai.ensures, ← c.load-aj.ensures, ← c.load-bi.ensures, ← c.load-bj.ensures, ← across, c.if-meets-2.true) (ap not straight)

pub returns-else-meets-2 : goal.returns-else-meets-2
unfolding apart_at apart context_at
returns-else-meets-2 c =
    let across : c.if-meets.value ≡ (meets c.load-ai.result.words c.load-bj.result.words || meets c.load-aj.result.words c.load-bi.result.words) = search rules in
    rw (← c.load-ai.ensures, ← c.load-aj.ensures, ← c.load-bi.ensures, ← c.load-bj.ensures, ← across, c.if-meets-2.false) refl
