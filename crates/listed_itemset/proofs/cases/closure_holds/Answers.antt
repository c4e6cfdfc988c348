-- `closure_holds` goes on where the block is good. Assumes nothing.
use Rattle.std.proofs.Common.{true, ◌↔◌, ◌≡◌, subst}
use Rattle.block.specs.Refusal.{Good}
use Rattle.words.proofs.PartLaws.{cut-not}
use Rattle.words.proofs.GivenLaws.{case-by, case-not}
use Rattle.listed_block.specs.Rooms.{BLOCK}
use Rattle.listed_itemset.specs.Cases.{KernelCase}
use Rattle.listed_itemset.proofs.KernelLaws.{line-by}
use Rattle.listed_itemset.proofs.cases.closure_holds.Goals as goal

pub returns-in_default-split_part : goal.returns-in_default-split_part
returns-in_default-split_part c =
    let i = c.in-Some in
    case-not BLOCK c.args.words.now i.block.now i.rest.now i.ensures
    (λ h. cut-not i.rest.now h.1.part h.1.rest c.in_default-split_part.ensures.2 h.1.words)

pub returns : goal.returns
returns c =
    let i = c.in-Some in
    let p = c.in-Some-split_part in
    let w = c.in-Ok.ensures.words in
    let k : (c.kernel_holds.result ≡ true) ↔ KernelCase i.block.now p.kernel.now p.expected.now =
    subst (λ b. (c.kernel_holds.result ≡ true) ↔ KernelCase b p.kernel.now p.expected.now) w c.kernel_holds.ensures in
    case-by BLOCK c.args.words.now i.block.now i.rest.now i.ensures
    (line-by i.block.now i.rest.now p.kernel.now p.expected.now p.ensures.2 (subst Good w c.in-Ok.grammar.good) k)
