-- Each marked state is reached, and its targets are marked or it is on the stack. Assumes nothing.
use Rattle.std.proofs.Common.{List, ◌≡◌, ap, ◌∙◌, subst, arith, replicate}
use Rattle.pager.specs.Place.{State}
use Rattle.pager.specs.Collecting.{EdgePart}
use Rattle.pager.proofs.Collecting.Reaching.{Reaching, reach-begin, reach-end, top-at}
use Rattle.pager.proofs.Collecting.ReachLoop.{shaped-edges, safe-row, safe-marks, reach-next, reach-falls}
use Rattle.pager.proofs.collect.reach.Goals as goal

pub loop-h-init : goal.loop-h-init
loop-h-init c =
    let begun = λ (ss : List State) (E : EdgePart c.args.width ss c.args.edges.now c.args.marks.now). reach-begin ss (shaped-edges E.shaped) c.fill.new.self (c.fill.ensures.after (λ y e. e) ∙ ap (λ n. replicate n 0) E.marks-long) in
    (top-at _ (shaped-edges c.requires.1.shaped) _ _ (begun c.requires.0 c.requires.1), begun)

pub row_of-requires : goal.row_of-requires
row_of-requires c = safe-row c.requires.1 (c.loop-h.invariant.1 c.requires.0 c.requires.1) c.loop-h-test.true

pub reach_row-h-requires : goal.reach_row-h-requires
reach_row-h-requires c = rw c.row_of.ensures (safe-marks c.requires.1 (c.loop-h.invariant.1 c.requires.0 c.requires.1) c.loop-h-test.true)

pub loop-h-smaller : goal.loop-h-smaller
loop-h-smaller c =
    let t = c.reach_row-h in
    reach-falls c.requires.1 (c.loop-h.invariant.1 c.requires.0 c.requires.1) c.loop-h-test.true t.auto.marks (rw c.row_of.ensures at t.ensures)

pub loop-h-preserved : goal.loop-h-preserved
loop-h-preserved c =
    let t = c.reach_row-h in
    let next = λ (ss : List State) (E : EdgePart c.args.width ss c.args.edges.now c.args.marks.now). reach-next E (c.loop-h.invariant.1 ss E) c.loop-h-test.true t.auto.marks (rw c.row_of.ensures at t.ensures) in
    (top-at _ (shaped-edges c.requires.1.shaped) _ _ (next c.requires.0 c.requires.1), next)

pub returns : goal.returns
returns c =
    let l = c.loop-h in
    λ ss E. reach-end ss (shaped-edges E.shaped) l.marks (subst (Reaching ss l.marks) (let z : l.h ≡ 0 = omega arith in z) (l.invariant.1 ss E))
