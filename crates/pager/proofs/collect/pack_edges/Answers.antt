-- The edges of the marked ones of the first s states are moved down. Assumes nothing.
use Rattle.std.proofs.Common.{List, ◌+◌, arith}
use Rattle.pager.specs.Place.{State}
use Rattle.pager.specs.Collecting.{flags_of, EdgePart, Numbered}
use Rattle.pager.proofs.Collecting.Clear.{filled}
use Rattle.pager.proofs.Collecting.PackEdges.{EdgePacking, edges_room, link-none, edges-movable, link-marked, link-unmarked, linked-edges}
use Rattle.pager.proofs.collect.pack_edges.Goals as goal
use Rattle.pager.proofs.collect.pack_edges.Goals.{then-marks-s-ne0, else-marks-s-ne0}

pub loop-s-init : goal.loop-s-init
loop-s-init c = (omega arith, λ ss E N. link-none (flags_of c.args.marks.now) ss c.args.edges.now E.edges-is)

pub overflow_mul-s-then-marks-s-ne0 : goal.overflow_mul-s-then-marks-s-ne0
overflow_mul-s-then-marks-s-ne0 c =
    let r = edges-movable c.requires.1 (c.loop-s.invariant.1 c.requires.0 c.requires.1 c.requires.2) c.loop-s.auto.s-end c.loop-s-test.true in
    record { fits = omega arith }

pub move_edges-requires : goal.move_edges-requires
move_edges-requires c = edges-movable c.requires.1 (c.loop-s.invariant.1 c.requires.0 c.requires.1 c.requires.2) c.loop-s.auto.s-end c.loop-s-test.true

pub overflow_add-to : goal.overflow_add-to
overflow_add-to c =
    let r = edges-movable c.requires.1 (c.loop-s.invariant.1 c.requires.0 c.requires.1 c.requires.2) c.loop-s.auto.s-end c.loop-s-test.true in
    record { fits = omega arith }

pub loop-s-preserved : goal.loop-s-preserved
loop-s-preserved c =
    let l = c.loop-s in
    let next : (ss : List State) → EdgePart c.args.width ss c.args.edges.now c.args.marks.now → Numbered ss c.args.marks.now
    → EdgePacking (flags_of c.args.marks.now) ss c.if-marks-s-ne0.edges c.if-marks-s-ne0.to (l.s + 1) = λ ss E N.
    elim c.if-marks-s-ne0.branch [
      | then-marks-s-ne0 w ↦ rw (w.edges-is, w.to-is)
          (link-marked E (l.invariant.1 ss E N) l.auto.s-end c.loop-s-test.true N w.if-marks-s-ne0.true w.move_edges.ensures)
      | else-marks-s-ne0 w ↦ rw (w.edges-is, w.to-is) (link-unmarked E (l.invariant.1 ss E N) l.auto.s-end c.loop-s-test.true w.if-marks-s-ne0.false)
    ] in
    (edges_room c.requires.1 (next c.requires.0 c.requires.1 c.requires.2) (omega arith), next)

pub returns : goal.returns
returns c =
    λ ss E N.
    let l = c.loop-s in
    linked-edges E (l.invariant.1 ss E N) l.auto.s-end c.loop-s-test.false (filled l.edges l.to _ l.invariant.0 (c.fill.ensures.after (λ y e. e)))
