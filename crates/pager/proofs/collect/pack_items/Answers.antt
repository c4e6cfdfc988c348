-- The marked ones of the first s states are moved down. Assumes nothing.
use Rattle.std.proofs.Common.{List, ◌+◌, arith}
use Rattle.pager.specs.Place.{State}
use Rattle.pager.specs.Collecting.{flags_of, ItemPart}
use Rattle.pager.proofs.Collecting.Clear.{filled}
use Rattle.pager.proofs.Collecting.Packing.{Packing, movable, pack-none, pack-marked, pack-unmarked, items-room, spans-room, packed}
use Rattle.pager.proofs.collect.pack_items.Goals as goal
use Rattle.pager.proofs.collect.pack_items.Goals.{then-marks-p-ne0, else-marks-p-ne0}

pub loop-s-init : goal.loop-s-init
loop-s-init c =
    (omega arith, omega arith, λ ss I. pack-none (flags_of c.args.marks.now) ss c.args.items.now c.args.spans.now I.items-is I.spans-is)

pub move_state-row-requires : goal.move_state-row-requires
move_state-row-requires c = movable c.requires.1 (c.loop-s.invariant.2 c.requires.0 c.requires.1) c.loop-s.auto.s-end c.loop-s-test.true

pub overflow_add-row : goal.overflow_add-row
overflow_add-row c = let r = movable c.requires.1 (c.loop-s.invariant.2 c.requires.0 c.requires.1) c.loop-s.auto.s-end c.loop-s-test.true in record { fits = omega arith }

pub loop-s-preserved : goal.loop-s-preserved
loop-s-preserved c =
    let l = c.loop-s in
    let next : (ss : List State) → ItemPart ss c.args.items.now c.args.spans.now c.args.marks.now
    → Packing (flags_of c.args.marks.now) ss c.if-marks-p-ne0.items c.if-marks-p-ne0.spans c.if-marks-p-ne0.k c.if-marks-p-ne0.row (l.s + 1) = λ ss I.
    elim c.if-marks-p-ne0.branch [
      | then-marks-p-ne0 w ↦
          let m = w.move_state-row.ensures in
          rw (w.items-is, w.spans-is, w.k-is, w.row-is, m.spans, m.count)
          (pack-marked I (l.invariant.2 ss I) l.auto.s-end c.loop-s-test.true w.if-marks-p-ne0.true m.items)
      | else-marks-p-ne0 w ↦ rw (w.items-is, w.spans-is, w.k-is, w.row-is)
          (pack-unmarked I (l.invariant.2 ss I) l.auto.s-end c.loop-s-test.true w.if-marks-p-ne0.false)
    ] in
    let P = next c.requires.0 c.requires.1 in
    (items-room c.requires.1 P (omega arith), spans-room c.requires.1 P (omega arith), next)

pub returns : goal.returns
returns c =
    λ ss I.
    let l = c.loop-s in
    packed I (l.invariant.2 ss I) l.auto.s-end c.loop-s-test.false (filled l.items _ _ l.invariant.0 (c.fill.ensures.after (λ y e. e)))
    (filled l.spans _ _ l.invariant.1 (c.fill-2.ensures.after (λ y e. e)))
