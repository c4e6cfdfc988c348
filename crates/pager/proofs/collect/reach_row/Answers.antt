-- The targets of the edges so far are marked. Assumes nothing.
use Rattle.std.proofs.Common.{◌≡◌, suc, arith, get_or, rules}
use Rattle.pager.proofs.Collecting.ReachRow.{row-empty, row-known, row_room, row-push}
use Rattle.pager.proofs.collect.reach_row.Goals as goal
use Rattle.pager.proofs.collect.reach_row.Goals.{in-Some+then-marks-to-eq0, in-Some+else-marks-to-eq0, in_default}

pub push-requires : goal.push-requires
push-requires c =
    let l = c.loop-edge in
    let e : get_or c.args.row.now l.edge-index 0 ≡ suc c.in-Some.to = omega (arith, c.in-Some.ensures) in
    row_room c.args.row.now c.args.marks.now c.args.height l.edge-index l.marks l.h l.invariant c.loop-edge-test.true c.requires l.auto.marks c.in-Some.to e
    c.if-marks-to-eq0.true

pub overflow_add-h : goal.overflow_add-h
overflow_add-h c =
    let l = c.loop-edge in
    let e : get_or c.args.row.now l.edge-index 0 ≡ suc c.in-Some.to = omega (arith, c.in-Some.ensures) in
    let r = row_room c.args.row.now c.args.marks.now c.args.height l.edge-index l.marks l.h l.invariant c.loop-edge-test.true c.requires l.auto.marks c.in-Some.to e
    c.if-marks-to-eq0.true in
    record { fits = omega arith }

pub loop-edge-preserved : goal.loop-edge-preserved
loop-edge-preserved c =
    let l = c.loop-edge in
    elim c.match-checked_sub.branch [
      | in-Some+then-marks-to-eq0 w ↦
          let e : get_or c.args.row.now l.edge-index 0 ≡ suc w.in-Some.to = omega (arith, w.in-Some.ensures) in
          rw (w.marks-is, w.h-is, w.push.ensures)
          (row-push c.args.row.now c.args.marks.now c.args.height l.edge-index l.marks l.h l.invariant c.loop-edge-test.true c.requires l.auto.marks w.in-Some.to e
          w.if-marks-to-eq0.true)
      | in-Some+else-marks-to-eq0 w ↦
          let e : get_or c.args.row.now l.edge-index 0 ≡ suc w.in-Some.to = omega (arith, w.in-Some.ensures) in
          rw (w.marks-is, w.h-is)
          (row-known c.args.row.now c.args.marks.now c.args.height l.edge-index l.marks l.h l.invariant c.loop-edge-test.true c.requires l.auto.marks w.in-Some.to e
          w.if-marks-to-eq0.false)
      | in_default w ↦
          let e : get_or c.args.row.now l.edge-index 0 ≡ 0 = search rules in
          rw (w.marks-is, w.h-is) (row-empty c.args.row.now c.args.marks.now c.args.height l.edge-index l.marks l.h l.invariant c.loop-edge-test.true e)
    ]
