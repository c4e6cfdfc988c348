-- `sights_of` meets its contract: after i rows the rooms hold what was sighted in them. Assumes nothing.
use Rattle.std.proofs.Common.{[], ◌≡◌, ap, ◌∙◌, ℕ, ◌*◌, ◌/◌, ◌<◌, arith, length, get_or}
use Rattle.block.specs.Limits.{ITEM}
use Rattle.itemset.specs.Close.{rest_of}
use Rattle.itemset.specs.Sights.{after_of}
use Rattle.itemset.proofs.Chunks.{chunk-item}
use Rattle.itemset.proofs.LentRows.{in-prod}
use Rattle.itemset.proofs.Seen.{seen-is, seen_none, seen_end, step-low, step_room, step_end, step-old, step-new}
use Rattle.itemset.proofs.goto.sights_of.Goals as goal
use Rattle.itemset.proofs.goto.sights_of.Goals.{In-loop-row, in-Some+then-not-seen-x, in-Some+else-not-seen-x, in_default}

low : (c : In-loop-row) → c.loop-row.row-index < length c.args.closed.now / ITEM
low c = omega (arith, c.loop-row-test.true, c.as_chunks.ensures.front_len)

item : (c : In-loop-row) → get_or (get_or c.as_chunks.result.0.now c.loop-row.row-index []) 0 0 ≡ get_or c.args.closed.now (ITEM * c.loop-row.row-index) 0
item c = chunk-item c.args.closed.now c.as_chunks.result.0.now c.as_chunks.ensures.front c.loop-row.row-index (low c)

behind : (c : In-loop-row)
    → after_of (rest_of c.args.grammar.words.now (get_or (get_or c.as_chunks.result.0.now c.loop-row.row-index []) 0 0))
    ≡ after_of (rest_of c.args.grammar.words.now (get_or c.args.closed.now (ITEM * c.loop-row.row-index) 0))
behind c = ap (λ (i : ℕ). after_of (rest_of c.args.grammar.words.now i)) (item c)

pub loop-row-init : goal.loop-row-init
loop-row-init c = λ C R. seen_none c.args.grammar.words.now

pub symbol_after-requires : goal.symbol_after-requires
symbol_after-requires c =
    let p = (goal.at.symbol_after-requires c).In-loop-row in
    rw (item p) (in-prod c.requires.1 c.loop-row.row-index (low p)).below

pub bounds-seen-x : goal.bounds-seen-x
bounds-seen-x c =
    let R = c.requires in
    let l = c.loop-row in
    let p = (goal.at.bounds-seen-x c).In-loop-row in
    step-low R.1 l.row-index (low p) (l.invariant R.0 R.1) c.in-Some.x (c.in-Some.ensures ∙ behind p)

pub bounds-seen-x-then-not-seen-x : goal.bounds-seen-x-then-not-seen-x
bounds-seen-x-then-not-seen-x c =
    let R = c.requires in
    let l = c.loop-row in
    let p = (goal.at.bounds-seen-x-then-not-seen-x c).In-loop-row in
    step-low R.1 l.row-index (low p) (l.invariant R.0 R.1) c.in-Some.x (c.in-Some.ensures ∙ behind p)

pub bounds-symbols-count : goal.bounds-symbols-count
bounds-symbols-count c =
    let R = c.requires in
    let l = c.loop-row in
    let p = (goal.at.bounds-symbols-count c).In-loop-row in
    step_room R.1 l.row-index (low p) (l.invariant R.0 R.1) c.in-Some.x (c.in-Some.ensures ∙ behind p) c.if-not-seen-x.true

pub offset_bounds-symbols-count : goal.offset_bounds-symbols-count
offset_bounds-symbols-count c =
    let R = c.requires in
    let l = c.loop-row in
    let p = (goal.at.offset_bounds-symbols-count c).In-loop-row in
    omega (arith, step_room R.1 l.row-index (low p) (l.invariant R.0 R.1) c.in-Some.x (c.in-Some.ensures ∙ behind p) c.if-not-seen-x.true)

pub overflow_add-count : goal.overflow_add-count
overflow_add-count c =
    let R = c.requires in
    let l = c.loop-row in
    let p = (goal.at.overflow_add-count c).In-loop-row in
    omega (arith, step_room R.1 l.row-index (low p) (l.invariant R.0 R.1) c.in-Some.x (c.in-Some.ensures ∙ behind p) c.if-not-seen-x.true)

pub loop-row-preserved : goal.loop-row-preserved
loop-row-preserved c =
    λ C R.
    let l = c.loop-row in
    let p = (goal.at.loop-row-preserved c).In-loop-row in
    let t = low p in
    let S = l.invariant C R in
    elim c.match-symbol_after.branch [
      | in-Some+then-not-seen-x w ↦ seen-is w.seen-is w.symbols-is w.count-is (step-new R l.row-index t S w.in-Some.x (w.in-Some.ensures ∙ behind p) w.if-not-seen-x.true)
      | in-Some+else-not-seen-x w ↦ seen-is w.seen-is w.symbols-is w.count-is (step-old R l.row-index t S w.in-Some.x (w.in-Some.ensures ∙ behind p) w.if-not-seen-x.false)
      | in_default w ↦ seen-is w.seen-is w.symbols-is w.count-is (step_end R l.row-index t S (w.in_default.ensures ∙ behind p))
    ]

pub returns : goal.returns
returns c =
    λ C R.
    let l = c.loop-row in
    seen_end R l.row-index (omega (arith, c.loop-row-test.false, c.as_chunks.ensures.front_len)) (l.invariant C R)
