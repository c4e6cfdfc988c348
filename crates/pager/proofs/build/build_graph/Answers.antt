use Rattle.std.proofs.Common.{arith, refl, ◌∙◌}
use Rattle.std.proofs.lemmas.Result.{err_from_is_err_and}
use Rattle.pager.proofs.ByIndex.{none-left}
use Rattle.pager.proofs.Rooms.{scratch-refl, scratch-trans}
use Rattle.pager.proofs.Turning.{run-start, run-refused, next-needs, next_marks, next-size, run-done, for-state, run-next, run-less}
use Rattle.pager.proofs.build.build_graph.Goals as goal

pub loop-s-init : goal.loop-s-init
loop-s-init c = (refl, refl, refl, refl, scratch-refl _ _, scratch-refl _ _, λ z G. run-start _ _ G)

pub next_state-requires : goal.next_state-requires
next_state-requires c =
    let l = c.loop-s in
    let E = c.requires.1 in
    let z = c.requires.0 in
    next-needs _ _ (l.invariant.6 z (c.begin-count.ensures _ _ _ z E))

pub close_state-requires : goal.close_state-requires
close_state-requires c =
    let l = c.loop-s in
    let E = c.requires.1 in
    let z = c.requires.0 in
    let R = l.invariant.6 z (c.begin-count.ensures _ _ _ z E) in
    let h = c.in-Some in
    let q = h.ensures _ _ _ (next_marks _ _ R) (next-size _ _ R) in
    (_, z, for-state _ _ R _ q E.good E.fair _ _ (omega (arith, l.invariant.4.size, E.room-closed)) (omega (arith, l.invariant.5.size, E.room-kernel)))

pub loop-s-smaller : goal.loop-s-smaller
loop-s-smaller c =
    let l = c.loop-s in
    let E = c.requires.1 in
    let z = c.requires.0 in
    let R = l.invariant.6 z (c.begin-count.ensures _ _ _ z E) in
    let h = c.in-Some in
    let q = h.ensures _ _ _ (next_marks _ _ R) (next-size _ _ R) in
    run-less _ _ R _ q E.good _ _ _ _ _ (c.in_ok-count.ensures.built _ z (for-state _ _ R _ q E.good E.fair _ _ (omega (arith, l.invariant.4.size, E.room-closed)) (omega (arith, l.invariant.5.size, E.room-kernel))))

pub loop-s-preserved : goal.loop-s-preserved
loop-s-preserved c =
    let l = c.loop-s in
    let E = c.requires.1 in
    let p = c.close_state in
    let e = c.in_ok-count.ensures in (
      p.auto.items ∙ l.invariant.0,
      p.auto.spans ∙ l.invariant.1,
      p.auto.edges ∙ l.invariant.2,
      p.auto.marks ∙ l.invariant.3,
      scratch-trans l.invariant.4 e.closed,
      scratch-trans l.invariant.5 e.kernel,
      λ z G.
          let R = l.invariant.6 z G in
          let h = c.in-Some in
          let q = h.ensures _ _ _ (next_marks _ _ R) (next-size _ _ R) in
          run-next _ _ R _ q E.good _ _ _ _ _ (e.built _ z (for-state _ _ R _ q E.good E.fair _ _ (omega (arith, l.invariant.4.size, E.room-closed)) (omega (arith, l.invariant.5.size, E.room-kernel)))),
    )

pub returns-in_err-count : goal.returns-in_err-count
returns-in_err-count c =
    let l = c.loop-s in
    let r = c.from_residual in
    let p = err_from_is_err_and r.result r.ensures.1 in
    let e = c.in_err-count.ensures in
    record {
      built = λ z E.
          let R = l.invariant.6 z (c.begin-count.ensures _ _ _ z E) in
          let h = c.in-Some in
          let q = h.ensures _ _ _ (next_marks _ _ R) (next-size _ _ R) in
          rw (p.1, p.2)
          (run-refused _ _ R _ q E.good _ _ _ _ _ (e.built _ z (for-state _ _ R _ q E.good E.fair _ _ (omega (arith, l.invariant.4.size, E.room-closed)) (omega (arith, l.invariant.5.size, E.room-kernel)))));
      closed = scratch-trans l.invariant.4 e.closed;
      kernel = scratch-trans l.invariant.5 e.kernel;
    }

pub returns : goal.returns
returns c =
    let l = c.loop-s in
    let n = c.next_state in
    record {
      built = λ z E.
          let R = l.invariant.6 z (c.begin-count.ensures _ _ _ z E) in
          run-done _ _ R (none-left n.result (n.ensures _ _ _ (next_marks _ _ R) (next-size _ _ R)) c.in_default.not-Some);
      closed = l.invariant.4;
      kernel = l.invariant.5;
    }
