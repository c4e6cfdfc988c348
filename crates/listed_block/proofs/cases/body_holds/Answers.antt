-- `body_holds` compares the refusal and the right side, word after word. Assumes nothing.
use Rattle.std.proofs.Common.{true, sym, ◌∙◌, ◌↔◌, ◌≡◌, subst, arith}
use Rattle.words.proofs.PartLaws.{part-tail}
use Rattle.words.proofs.GivenLaws.{case-none, case-by, case-not}
use Rattle.listed_block.specs.Rooms.{BLOCK}
use Rattle.listed_block.proofs.Expected.{Asked, answer-short, answer-number, answer-count, answer-by}
use Rattle.listed_block.proofs.cases.body_holds.Goals as goal

pub returns-in_default : goal.returns-in_default
returns-in_default c = case-none BLOCK c.args.words.now c.in_default.ensures

pub returns-then-rest-lt3 : goal.returns-then-rest-lt3
returns-then-rest-lt3 c =
    let i = c.in-Some in
    case-not BLOCK c.args.words.now i.block.now i.rest.now i.ensures (answer-short i.block.now i.rest.now (omega arith))

pub returns-then-rest-from : goal.returns-then-rest-from
returns-then-rest-from c =
    let i = c.in-Some in
    let asked : Asked i.block.now i.rest.now c.index-p.result c.body_refusal.result c.body-right.result.now = record { named = c.index-p.ensures; number = c.body_refusal.ensures; part = c.body-right.ensures } in
    case-not BLOCK c.args.words.now i.block.now i.rest.now i.ensures (answer-number i.rest.now asked (λ e. c.if-rest-from.true (e ∙ sym c.from.ensures)))

pub returns-then-rest-right : goal.returns-then-rest-right
returns-then-rest-right c =
    let i = c.in-Some in
    let asked : Asked i.block.now i.rest.now c.index-p.result c.body_refusal.result c.body-right.result.now = record { named = c.index-p.ensures; number = c.body_refusal.ensures; part = c.body-right.ensures } in
    case-not BLOCK c.args.words.now i.block.now i.rest.now i.ensures (answer-count i.rest.now asked c.if-rest-right.true)

pub returns : goal.returns
returns c =
    let i = c.in-Some in
    let asked : Asked i.block.now i.rest.now c.index-p.result c.body_refusal.result c.body-right.result.now = record { named = c.index-p.ensures; number = c.body_refusal.ensures; part = c.body-right.ensures } in
    case-by BLOCK c.args.words.now i.block.now i.rest.now i.ensures
    (answer-by i.rest.now asked (omega arith) (c.if-rest-from.false ∙ c.from.ensures) c.if-rest-right.false
    (subst (λ x. (c.same.result ≡ true) ↔ (x ≡ c.body-right.result.now)) (part-tail 3 i.rest.now) c.same.ensures))
