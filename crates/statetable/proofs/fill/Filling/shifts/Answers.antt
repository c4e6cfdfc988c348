-- `Filling::shifts` meets its contract. Assumes nothing.
use Rattle.std.proofs.Common.{arith, add-one, refl}
use Rattle.std.proofs.lemmas.Result.{err_from_is_err_and}
use Rattle.statetable.proofs.Folds.{here-start, here-one, one-stuck, here-none, here-as, here-done}
use Rattle.statetable.proofs.SameRoom.{same_on}
use Rattle.statetable.proofs.Coming.{edges-all, edges-end, edges_none, edges-next}
use Rattle.statetable.proofs.fill.Filling.shifts.Goals as goal
use Rattle.statetable.proofs.fill.Filling.shifts.Goals.{then-e-gt0+in_ok-shift_at, else-e-gt0}

pub loop-t-init : goal.loop-t-init
loop-t-init c = (record { cells = refl; offered = refl; rr = refl; sr = refl; caps = refl; state = refl }, λ f L. here-start _ _ (edges-all _) (omega arith) L)

pub shift_at-requires : goal.shift_at-requires
shift_at-requires c =
    let l = c.loop-t in
    let P = c.requires in
    let S = l.invariant.0 in
    let H = l.invariant.1 _ P.1.1 in
    (omega (arith, P.0.width, c.loop-t-test.true), omega (arith, P.0.edge l.t, c.if-e-gt0.true), (H.row, rw (S.caps, S.state) H.laid))

pub loop-t-preserved : goal.loop-t-preserved
loop-t-preserved c =
    let l = c.loop-t in
    let k = c.loop-t-test.true in
    let to = add-one l.t in
    let S = l.invariant.0 in
    elim c.if-e-gt0.branch [
      | then-e-gt0+in_ok-shift_at w ↦
          let left = rw (S.caps, S.state) at w.in_ok-shift_at.ensures.left in
          rw w.self-is (
            same_on S w.shift_at.ensures.same,
            λ f L.
                let H = l.invariant.1 f L in
                here-as (here-one H _ _ (edges-next _ _ _ k to _ (omega (arith, w.if-e-gt0.true))) (left H.row H.laid)) (omega arith) refl refl refl refl refl,
          )
      | else-e-gt0 w ↦
          rw w.self-is
          (S, λ f L. here-as (here-none (l.invariant.1 f L) _ (edges_none _ _ _ k to (omega (arith, w.if-e-gt0.false)))) (omega arith) refl refl refl refl refl)
    ]

pub returns-in_err-shift_at-clause-left : goal.returns-in_err-shift_at-clause-left
returns-in_err-shift_at-clause-left c =
    let l = c.loop-t in
    let S = l.invariant.0 in
    let left = rw (S.caps, S.state) at c.in_err-shift_at.ensures.left in
    let e = err_from_is_err_and c.from_residual.result c.from_residual.ensures.1 in
    rw (e.1, e.2)
    (λ f L.
    let H = l.invariant.1 f L in
    one-stuck H _ _ (edges-next _ _ _ c.loop-t-test.true refl _ (omega (arith, c.if-e-gt0.true))) _ _ _ _ _ _ (left H.row H.laid) _ _ _ _ _)

pub returns-clause-left : goal.returns-clause-left
returns-clause-left c =
    let w = c.requires.0.width in
    λ f L.
    here-done (here-as (c.loop-t.invariant.1 f L) (let k = c.loop-t-test.false in omega (arith, w, c.loop-t.auto.t-end)) refl refl refl refl refl)
    (edges-end _ _ (omega (arith, c.loop-t-test.false)))
