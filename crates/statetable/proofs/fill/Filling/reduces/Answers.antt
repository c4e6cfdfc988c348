-- `Filling::reduces` meets its contract. Assumes nothing.
use Rattle.std.proofs.Common.{arith, add-one, refl, sym, ◌∙◌}
use Rattle.std.proofs.lemmas.Result.{err_from_is_err_and}
use Rattle.itemset.proofs.LentRows.{in_rows, in-prod}
use Rattle.statetable.proofs.Folds.{here-start, here-more, more-stuck, here-none, here-done}
use Rattle.statetable.proofs.SameRoom.{same_on}
use Rattle.statetable.proofs.Coming.{rows_in, rows_all, rows_end, rows-complete, rows-skip}
use Rattle.statetable.proofs.fill.Filling.reduces.Goals as goal
use Rattle.statetable.proofs.fill.Filling.reduces.Goals.{then-item-length+in_ok-reduce_item, else-item-length}

pub loop-i-init : goal.loop-i-init
loop-i-init c = (record { cells = refl; offered = refl; rr = refl; sr = refl; caps = refl; state = refl }, λ C f F L. here-start _ _ (rows_all _ C) (omega arith) L)

pub length-requires : goal.length-requires
length-requires c =
    let P = c.requires in
    (in-prod (rows_in c.args.grammar.good P.0.1) c.loop-i.i (omega (arith, c.loop-i-test.true))).below

pub reduce_item-requires : goal.reduce_item-requires
reduce_item-requires c =
    let P = c.requires in
    let S = c.loop-i.invariant.0 in
    let H = c.loop-i.invariant.1 _ _ P.0.1 P.1.1 in
    ((in-prod (rows_in c.args.grammar.good P.0.1) c.loop-i.i (omega (arith, c.loop-i-test.true))).below, (H.row, rw (S.caps, S.state) H.laid))

pub loop-i-preserved : goal.loop-i-preserved
loop-i-preserved c =
    let l = c.loop-i in
    let k = c.loop-i-test.true in
    let z = c.length.ensures in
    let S = l.invariant.0 in
    elim c.if-item-length.branch [
      | then-item-length+in_ok-reduce_item w ↦
          let left = rw (S.caps, S.state) at w.in_ok-reduce_item.ensures.left in
          rw w.self-is (
            same_on S w.reduce_item.ensures.same,
            λ C f F L.
                let H = l.invariant.1 C f F L in
                here-more H _ _ (rows-complete _ C (rows_in L.good F) l.i _ (omega (arith, k)) (add-one l.i) (w.if-item-length.true ∙ z) _ w.load.ensures)
                (left H.row H.laid),
          )
      | else-item-length w ↦
          rw w.self-is (
            S,
            λ C f F L.
                here-none (l.invariant.1 C f F L) _ (rows-skip _ C (rows_in L.good F) l.i _ (omega (arith, k)) (add-one l.i) (λ q. w.if-item-length.false (q ∙ sym z))),
          )
    ]

pub returns-in_err-reduce_item-clause-left : goal.returns-in_err-reduce_item-clause-left
returns-in_err-reduce_item-clause-left c =
    let l = c.loop-i in
    let k = c.loop-i-test.true in
    let S = l.invariant.0 in
    let left = rw (S.caps, S.state) at c.in_err-reduce_item.ensures.left in
    let e = err_from_is_err_and c.from_residual.result c.from_residual.ensures.1 in
    rw (e.1, e.2)
    (λ C f F L.
    let H = l.invariant.1 C f F L in
    more-stuck H _ _ (rows-complete _ C (rows_in L.good F) l.i _ (omega (arith, k)) refl (c.if-item-length.true ∙ c.length.ensures) _ c.load.ensures)
    _ _ _ _ _ _ (left H.row H.laid) _ _ _ _ _)

pub returns-clause-left : goal.returns-clause-left
returns-clause-left c =
    λ C f F L. here-done (c.loop-i.invariant.1 C f F L) (rows_end _ C _ (omega (arith, in_rows (rows_in L.good F), c.loop-i-test.false)))
