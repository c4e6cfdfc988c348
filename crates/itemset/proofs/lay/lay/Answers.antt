-- `lay` meets its contract: of the laid rows, those from production p and row k on are still to be written. Assumes nothing.
use Rattle.std.proofs.Common.{List, ◌∷◌, refl, ap, ◌∙◌, ℕ, ◌+◌, ◌*◌, ◌/◌, ◌<◌, ◌≤◌, arith, length}
use lib.Seq.{paste}
use Rattle.block.specs.Limits.{ITEM, PRODS}
use Rattle.block.proofs.Good.{placed}
use Rattle.itemset.specs.Lay.{marks_of}
use Rattle.itemset.proofs.Writing.{writing_start, writing-skip, writing-end, writing-fits, writing-put}
use Rattle.itemset.proofs.Laid.{laid-start, laid-sets, laid-few, laid_end, zero-below, zero-put, zero-skip, row_below, row_put, row-skip}
use Rattle.itemset.proofs.lay.lay.Goals as goal
use Rattle.itemset.proofs.lay.lay.Goals.{Then-p-item, After-load, then-closure-p, else-closure-p, then-item-ne0, else-item-ne0}

zero-low : (c : Then-p-item) → c.loop-p.p < PRODS
zero-low c = let l = c.loop-p in
    let m = l.invariant.0 in
    omega (arith, zero-below (marks_of c.args.closure.now) c.requires.1 l.p l.k m c.loop-p-test.true c.next_item-item.result c.next_item-item.ensures c.if-p-item.true)

row_fits : (c : After-load) → ITEM * (c.loop-p.rows + 1) ≤ length c.args.out.now
row_fits c = let l = c.loop-p in
    let n = c.next_item-item in
    writing-fits (l.invariant.2 c.requires.0 c.requires.1) _ _ _
    (row_put (marks_of c.args.closure.now) c.requires.1 l.p l.k l.invariant.0 c.loop-p-test.true n.result n.ensures c.if-p-item.false c.if-item-ne0.true)
    (length c.args.out.now) (laid-few (marks_of c.args.closure.now) c.requires.1)

pub loop-p-init : goal.loop-p-init
loop-p-init c =
    let a = c.args in
    let e = c.productions-prods.ensures in
    let m = (placed c.requires.1.kernel.good).prods-most in (
      record { prods-all = e; prods-most = omega arith; rows_all = refl; prod-low = omega arith; row_low = omega arith },
      refl,
      λ K L. writing_start _ _ a.out.now (laid-start (marks_of a.closure.now) L),
    )

pub bounds-closure-p : goal.bounds-closure-p
bounds-closure-p c = zero-low (goal.at.bounds-closure-p c).Then-p-item

pub put_row-requires : goal.put_row-requires
put_row-requires c =
    let zero-fits : ITEM * (c.loop-p.rows + 1) ≤ length c.args.out.now = let l = c.loop-p in
    let n = c.next_item-item in
    writing-fits (l.invariant.2 c.requires.0 c.requires.1) _ _ _
    (zero-put (marks_of c.args.closure.now) c.requires.1 l.p l.k l.invariant.0 c.loop-p-test.true n.result n.ensures c.if-p-item.true c.if-closure-p.true)
    (length c.args.out.now) (laid-few (marks_of c.args.closure.now) c.requires.1) in
    omega (arith, zero-fits, c.loop-p.invariant.1)

pub loop-p-preserved-then-p-item : goal.loop-p-preserved-then-p-item
loop-p-preserved-then-p-item c =
    let l = c.loop-p in
    let n = c.next_item-item in
    let t = c.loop-p-test.true in
    let h = c.if-p-item.true in
    let z = marks_of c.args.closure.now in
    let at = l.invariant.0 in
    let b = zero-below z c.requires.1 l.p l.k at t n.result n.ensures h in (
      record { prods-all = at.prods-all; prods-most = at.prods-most; rows_all = at.rows_all; prod-low = omega arith; row_low = at.row_low },
      elim c.if-closure-p.branch [ then-closure-p w ↦ ap length w.out-is ∙ w.put_row.auto.out ∙ l.invariant.1 | else-closure-p w ↦ ap length w.out-is ∙ l.invariant.1 ],
      λ K L. elim c.if-closure-p.branch [ then-closure-p w ↦ writing-put (l.invariant.2 K L) _ _ _ (zero-put z L l.p l.k at t n.result n.ensures h w.if-closure-p.true) _ _ (laid-sets z L) w.rows-is (w.out-is ∙ w.put_row.ensures) | else-closure-p w ↦ writing-skip (l.invariant.2 K L) _ _ _ (zero-skip z L l.p l.k at t n.result n.ensures h w.if-closure-p.false) w.rows-is w.out-is ],
    )

pub load-requires : goal.load-requires
load-requires c =
    let row_low : c.loop-p.k < length c.args.kernel.now / ITEM = let l = c.loop-p in
    row_below (marks_of c.args.closure.now) c.requires.1 l.p l.k l.invariant.0 c.loop-p-test.true c.next_item-item.result c.next_item-item.ensures c.if-p-item.false in
    omega (arith, row_low)

pub put_row-requires-then-item-ne0 : goal.put_row-requires-then-item-ne0
put_row-requires-then-item-ne0 c = omega (arith, (row_fits c), c.loop-p.invariant.1)

pub loop-p-preserved : goal.loop-p-preserved
loop-p-preserved c =
    let l = c.loop-p in
    let n = c.next_item-item in
    let t = c.loop-p-test.true in
    let h = c.if-p-item.false in
    let z = marks_of c.args.closure.now in
    let at = l.invariant.0 in
    let b = row_below z c.requires.1 l.p l.k at t n.result n.ensures h in (
      record { prods-all = at.prods-all; prods-most = at.prods-most; rows_all = at.rows_all; prod-low = at.prod-low; row_low = omega arith },
      elim c.if-item-ne0.branch [ then-item-ne0 w ↦ ap length w.out-is ∙ w.put_row-then-item-ne0.auto.out ∙ l.invariant.1 | else-item-ne0 w ↦ ap length w.out-is ∙ l.invariant.1 ],
      λ K L. elim c.if-item-ne0.branch [
        | then-item-ne0 w ↦ writing-put (l.invariant.2 K L) _ _ _ (row_put z L l.p l.k at t n.result n.ensures h w.if-item-ne0.true) _ _ (laid-sets z L) w.rows-is
            (w.out-is ∙ w.put_row-then-item-ne0.ensures ∙ ap (λ (u : List ℕ). paste l.out (ITEM * l.rows) (n.result ∷ u) ITEM) w.load.ensures)
        | else-item-ne0 w ↦ writing-skip (l.invariant.2 K L) _ _ _ (row-skip z L l.p l.k at t n.result n.ensures h w.if-item-ne0.false) w.rows-is w.out-is
      ],
    )

pub returns : goal.returns
returns c =
    λ K L.
    let a = c.args in
    let l = c.loop-p in
    writing-end (l.invariant.2 K L) (laid_end (marks_of a.closure.now) L l.p l.k l.invariant.0 (omega arith))
