-- `fill::fill_state` meets its contract. Assumes nothing.
use Rattle.std.proofs.Common.{rules}
use Rattle.std.proofs.lemmas.Result.{err_from_is_err_and}
use Rattle.statetable.proofs.Folds.{left_lent}
use Rattle.statetable.proofs.fill.fill_state.Goals as goal

pub returns-in_err-fill : goal.returns-in_err-fill
returns-in_err-fill c =
    let e = err_from_is_err_and c.from_residual.result c.from_residual.ensures.1 in
    rw (e.1, e.2)
    (λ st k F. left_lent _ _ _ _ _ _ _ _ _ _ _ _ _ _ (search rules) (search rules) (search rules) (search rules) (c.in_err-fill.ensures.left st k F))

pub returns : goal.returns
returns c =
    λ st k F. left_lent _ _ _ _ _ _ _ _ _ _ _ _ _ _ (search rules) (search rules) (search rules) (search rules) (c.in_ok-fill.ensures.left st k F)
