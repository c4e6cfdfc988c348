-- `firsts_hold` compares the marks, then the words of the FIRST sets. Assumes nothing.
use borrow.Author.Rules.{rules as the_rules}
use Rattle.std.proofs.Common.{◌≡◌, ap, subst, ◌∙◌, ◌≤◌, length, arith}
use Rattle.block.specs.Block.{rules}
use Rattle.block.specs.Limits.{RULES}
use Rattle.block.specs.Refusal.{Good}
use Rattle.block.specs.First.{firsts_of}
use Rattle.block.specs.Firsts.{AheadsAre}
use Rattle.words.proofs.Answers.{refuted}
use Rattle.words.proofs.PartLaws.{cut-not}
use Rattle.words.proofs.GivenLaws.{case-by, case-not, empty-is}
use Rattle.listed_block.specs.Rooms.{BLOCK}
use Rattle.listed_block.proofs.FirstLine.{no-sets, marks-differ, sets-differ, line-by}
use Rattle.listed_block.proofs.cases.firsts_hold.Goals as goal

pub returns-in_default-split_part : goal.returns-in_default-split_part
returns-in_default-split_part c =
    let i = c.in-Some in
    case-not BLOCK c.args.words.now i.block.now i.expected.now i.ensures
    (λ l. cut-not i.expected.now _ _ c.in_default-split_part.ensures.2 l.1)

pub returns-in_default-split_part-2 : goal.returns-in_default-split_part-2
returns-in_default-split_part-2 c =
    let i = c.in-Some in
    let m = c.in-Some-split_part in
    case-not BLOCK c.args.words.now i.block.now i.expected.now i.ensures
    (λ l. no-sets i.block.now i.expected.now m.marks.now m.rest.now m.ensures.2 c.in_default-split_part-2.ensures.2 l.1)

pub returns-then-not-marks_hold : goal.returns-then-not-marks_hold
returns-then-not-marks_hold c =
    let i = c.in-Some in
    let m = c.in-Some-split_part in
    let w : c.new.result.grammar.words.now ≡ i.block.now = c.new.ensures ∙ c.in-Ok.ensures.words in
    let r : AheadsAre c.new.result.rules (firsts_of i.block.now) = subst (λ b. AheadsAre c.new.result.rules (firsts_of b)) w c.new.result.right in
    let n : c.rules.result ≡ rules i.block.now = c.rules.ensures ∙ ap rules w in
    let long : length c.new.result.rules ≡ RULES = search the_rules in
    let few : c.rules.result ≤ RULES = omega (arith, c.rules.ensures, c.new.result.grammar.placed.rules-most) in
    case-not BLOCK c.args.words.now i.block.now i.expected.now i.ensures
    (λ l. marks-differ i.block.now i.expected.now m.marks.now m.rest.now m.ensures.2 c.new.result.rules r long c.rules.result n few
    (refuted c.marks_hold.result c.marks_hold.ensures c.if-not-marks_hold.true) l.1)

pub returns-then-not-sets_hold : goal.returns-then-not-sets_hold
returns-then-not-sets_hold c =
    let i = c.in-Some in
    let m = c.in-Some-split_part in
    let s = c.in-Some-split_part-2 in
    let w : c.new.result.grammar.words.now ≡ i.block.now = c.new.ensures ∙ c.in-Ok.ensures.words in
    let r : AheadsAre c.new.result.rules (firsts_of i.block.now) = subst (λ b. AheadsAre c.new.result.rules (firsts_of b)) w c.new.result.right in
    let n : c.rules.result ≡ rules i.block.now = c.rules.ensures ∙ ap rules w in
    let long : length c.new.result.rules ≡ RULES = search the_rules in
    let few : c.rules.result ≤ RULES = omega (arith, c.rules.ensures, c.new.result.grammar.placed.rules-most) in
    case-not BLOCK c.args.words.now i.block.now i.expected.now i.ensures
    (λ l. sets-differ i.block.now i.expected.now m.marks.now m.rest.now m.ensures.2 c.new.result.rules r long c.rules.result n few
    s.sets.now s.behind.now s.ensures.2 (refuted c.sets_hold.result c.sets_hold.ensures c.if-not-sets_hold.true) l.1)

pub returns : goal.returns
returns c =
    let i = c.in-Some in
    let m = c.in-Some-split_part in
    let s = c.in-Some-split_part-2 in
    let w : c.new.result.grammar.words.now ≡ i.block.now = c.new.ensures ∙ c.in-Ok.ensures.words in
    let g : Good i.block.now = subst Good c.in-Ok.ensures.words c.in-Ok.grammar.good in
    let r : AheadsAre c.new.result.rules (firsts_of i.block.now) = subst (λ b. AheadsAre c.new.result.rules (firsts_of b)) w c.new.result.right in
    let n : c.rules.result ≡ rules i.block.now = c.rules.ensures ∙ ap rules w in
    let long : length c.new.result.rules ≡ RULES = search the_rules in
    let few : c.rules.result ≤ RULES = omega (arith, c.rules.ensures, c.new.result.grammar.placed.rules-most) in
    let so = line-by i.block.now i.expected.now m.marks.now m.rest.now m.ensures.2 c.new.result.rules r long c.rules.result n few
    s.sets.now s.behind.now s.ensures.2 (c.marks_hold.ensures.0 c.if-not-marks_hold.false) (c.sets_hold.ensures.0 c.if-not-sets_hold.false)
    (empty-is s.behind.now c.is_empty.result c.is_empty.ensures) in
    case-by BLOCK c.args.words.now i.block.now i.expected.now i.ensures (λ t. (g, so.0 t), λ l. so.1 l.1)
