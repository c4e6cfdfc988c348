-- `rows_right` meets its contract: of the rows read back, those from row i on are still to be tested. Assumes nothing.
use Rattle.std.proofs.Common.{[], true, false, ◌≡◌, sym, ap, ◌∙◌, ℕ, ◌*◌, ◌/◌, ◌<◌, arith, length, get_or}
use Rattle.block.specs.Limits.{ITEM}
use Rattle.block.proofs.Good.{placed}
use Rattle.itemset.specs.Right.{item_right}
use Rattle.itemset.proofs.Chunks.{chunk-item}
use Rattle.itemset.proofs.Right.{right-item}
use Rattle.itemset.proofs.Read.{left-low, left-strange, left-next, left_end, left-start, rows_cut, rows_told}
use Rattle.itemset.proofs.rows.rows_right.Goals as goal
use Rattle.itemset.proofs.rows.rows_right.Goals.{In-loop-row}

low : (c : In-loop-row) → c.loop-row.row-index < length c.args.words.now / ITEM
low c = omega (arith, c.loop-row-test.true, c.as_chunks.ensures.front_len)

item : (c : In-loop-row) → get_or (get_or c.as_chunks.result.0.now c.loop-row.row-index []) 0 0 ≡ get_or c.args.words.now (ITEM * c.loop-row.row-index) 0
item c = chunk-item c.args.words.now c.as_chunks.result.0.now c.as_chunks.ensures.front c.loop-row.row-index (low c)

pub returns-then-words-ne0 : goal.returns-then-words-ne0
returns-then-words-ne0 c = rows_cut c.args.grammar.words.now c.args.words.now c.args.grammar.good (λ i. omega (arith, c.type_inv.words i)) c.if-words-ne0.true

pub loop-row-init : goal.loop-row-init
loop-row-init c = left-start _ _ _

pub returns-then-item-least : goal.returns-then-item-least
returns-then-item-least c =
    let l = c.loop-row in
    let k = c.type_inv.words in
    let p = (goal.at.returns-then-item-least c).In-loop-row in
    rows_told c.args.grammar.words.now c.args.words.now c.args.grammar.good (λ i. omega (arith, k i)) false
    c.if-words-ne0.false
    (left-low _ _ _ l.least l.row-index (low p) l.invariant (omega (arith, item p, c.if-item-least.true)))

pub returns-then-not-item_right : goal.returns-then-not-item_right
returns-then-not-item_right c =
    let l = c.loop-row in
    let k = c.type_inv.words in
    let p = (goal.at.returns-then-not-item_right c).In-loop-row in
    rows_told c.args.grammar.words.now c.args.words.now c.args.grammar.good (λ i. omega (arith, k i)) false
    c.if-words-ne0.false
    (left-strange _ _ _ l.least l.row-index (low p) l.invariant (omega (arith, item p, c.if-item-least.false))
    (ap (λ (i : ℕ). item_right c.args.grammar.words.now i) (sym (item p)) ∙ sym c.item_right.ensures ∙ c.if-not-item_right.true))

pub overflow_add-least : goal.overflow_add-least
overflow_add-least c =
    let I = right-item c.args.grammar.words.now _ (sym c.item_right.ensures ∙ c.if-not-item_right.false) in
    omega (arith, I.prod, (placed c.args.grammar.good).prods-most)

pub loop-row-preserved : goal.loop-row-preserved
loop-row-preserved c =
    let l = c.loop-row in
    let p = (goal.at.loop-row-preserved c).In-loop-row in
    rw (item p)
    (left-next _ _ _ l.least l.row-index (low p) l.invariant (omega (arith, item p, c.if-item-least.false))
    (ap (λ (i : ℕ). item_right c.args.grammar.words.now i) (sym (item p)) ∙ sym c.item_right.ensures ∙ c.if-not-item_right.false))

pub returns : goal.returns
returns c =
    let l = c.loop-row in
    let k = c.type_inv.words in
    rows_told c.args.grammar.words.now c.args.words.now c.args.grammar.good (λ i. omega (arith, k i)) true
    c.if-words-ne0.false
    (left_end _ _ _ l.least l.row-index (omega (arith, c.loop-row-test.false, c.as_chunks.ensures.front_len)) l.invariant)
