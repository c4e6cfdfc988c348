-- `Filling::fill` meets its contract. Assumes nothing.
use Rattle.std.proofs.Common.{arith, sym, ap, length-take-le}
use Rattle.std.proofs.lemmas.Result.{err_from_is_err_and}
use Rattle.statetable.specs.Events.{of_edges}
use Rattle.statetable.proofs.Folds.{here-last}
use Rattle.statetable.proofs.SameRoom.{same_on}
use Rattle.statetable.proofs.OneState.{state-closure, closed-few, closed-fits, closed-row, state-laid, edges-part, for-edges, items-done, items-stuck}
use Rattle.statetable.proofs.fill.Filling.fill.Goals as goal

pub overflow_mul-rows : goal.overflow_mul-rows
overflow_mul-rows c =
    let F = c.requires.2 in
    let W = c.close-rows.ensures _ (state-closure F) in
    record { fits = omega (arith, closed-few F _ _ W) }

pub slice_bounds-reduces-end : goal.slice_bounds-reduces-end
slice_bounds-reduces-end c =
    let F = c.requires.2 in
    let W = c.close-rows.ensures _ (state-closure F) in
    closed-fits F _ _ W

pub slice_bounds-reduces-end-2 : goal.slice_bounds-reduces-end-2
slice_bounds-reduces-end-2 c =
    let F = c.requires.2 in
    let W = c.close-rows.ensures _ (state-closure F) in
    sym (length-take-le _ _ (closed-fits F _ _ W))

pub reduces-requires : goal.reduces-requires
reduces-requires c =
    let F = c.requires.2 in
    let W = c.close-rows.ensures _ (state-closure F) in
    ((_, closed-row F _ _ W), (_, state-laid F))

pub returns-in_err-reduces-clause-left : goal.returns-in_err-reduces-clause-left
returns-in_err-reduces-clause-left c =
    let e = err_from_is_err_and c.from_residual.result c.from_residual.ensures.1 in
    rw (e.1, e.2)
    (λ st k F.
    let W = c.close-rows.ensures _ (state-closure F) in
    items-stuck F _ _ _ _ _ (c.in_err-reduces.ensures.left _ _ (closed-row F _ _ W) (state-laid F)) _ _ _ _ _)

pub shifts-requires : goal.shifts-requires
shifts-requires c =
    let F = c.requires.2 in
    let S = c.reduces.ensures.same in
    let W = c.close-rows.ensures _ (state-closure F) in
    let H = items-done F (c.in_ok-reduces.ensures.left _ _ (closed-row F _ _ W) (state-laid F)) in
    (for-edges F _ c.rules.ensures, (H.row, rw (S.caps, S.state) H.laid))

pub returns-clause-left : goal.returns-clause-left
returns-clause-left c =
    let S = c.reduces.ensures.same in
    let left = rw (S.caps, S.state) at c.shifts.ensures.left in
    λ st k F.
    let W = c.close-rows.ensures _ (state-closure F) in
    let H = items-done F (c.in_ok-reduces.ensures.left _ _ (closed-row F _ _ W) (state-laid F)) in
    let e = edges-part F _ c.rules.ensures in
    here-last H _ (ap (of_edges 0) e) _ _ _ _ _ _ (left H.row H.laid)

pub returns-clause-same : goal.returns-clause-same
returns-clause-same c = same_on c.reduces.ensures.same c.shifts.ensures.same
