-- `Filling::settle` meets its contract. Assumes nothing.
use Rattle.std.proofs.Common.{arith, rules}
use Rattle.std.proofs.lemmas.Result.{err_from_is_err_and}
use Rattle.statetable.specs.Cells.{reduce-reduce, shift-reduce}
use Rattle.statetable.proofs.RecordLists.{long-rr, more-rr, long-sr, more-sr}
use Rattle.statetable.proofs.Settling.{rr-count, sr-count, settled-write, settled-count, full-rr, recorded-rr, full-sr, recorded-sr}
use Rattle.statetable.proofs.fill.Filling.settle.Goals as goal

pub returns-in-Write-clause-settled : goal.returns-in-Write-clause-settled
returns-in-Write-clause-settled c = λ f H. settled-write H c.args.self.now.state c.args.v _ c.in-Write.is

pub returns-in-Settled-clause-settled : goal.returns-in-Settled-clause-settled
returns-in-Settled-clause-settled c = λ f H. settled-count H c.args.self.now.state c.args.v _ c.in-Settled.is

pub invariant_of-list : goal.invariant_of-list
invariant_of-list c =
    let H = c.requires.1 in
    record { fits = omega (arith, long-rr H.listed.reduces); counted = omega (arith, rr-count H, H.listed.reduces.few) }

pub returns-in_err-push-in-TwoReduces-clause-settled : goal.returns-in_err-push-in-TwoReduces-clause-settled
returns-in_err-push-in-TwoReduces-clause-settled c =
    let a = c.args in
    let full = c.in_err-push-in-TwoReduces.ensures.full in
    let e = err_from_is_err_and c.from_residual.result c.from_residual.ensures.1 in
    rw (e.1, e.2, full.0) (λ f H. full-rr H a.self.now.state a.v _ _ _ c.in-TwoReduces.is full.1 _ _ _)

pub returns-in_ok-push-in-TwoReduces-clause-settled : goal.returns-in_ok-push-in-TwoReduces-clause-settled
returns-in_ok-push-in-TwoReduces-clause-settled c =
    let a = c.args in
    let x = a.self.now in
    let done = c.in_ok-push-in-TwoReduces.ensures in
    λ f H. recorded-rr H x.state a.v _ _ _ c.in-TwoReduces.is done.room _ (λ rs L e. more-rr L (reduce-reduce a.t c.in-TwoReduces.smaller c.in-TwoReduces.other x.state) x.told.rr e done.room _ (search rules))

pub invariant_of-list-in-Unsettled : goal.invariant_of-list-in-Unsettled
invariant_of-list-in-Unsettled c =
    let H = c.requires.1 in
    record { fits = omega (arith, long-sr H.listed.shifts); counted = omega (arith, sr-count H, H.listed.shifts.few) }

pub returns-in_err-push-in-Unsettled-clause-settled : goal.returns-in_err-push-in-Unsettled-clause-settled
returns-in_err-push-in-Unsettled-clause-settled c =
    let a = c.args in
    let full = c.in_err-push-in-Unsettled.ensures.full in
    let e = err_from_is_err_and c.from_residual-in_err-push-in-Unsettled.result c.from_residual-in_err-push-in-Unsettled.ensures.1 in
    rw (e.1, e.2, full.0) (λ f H. full-sr H a.self.now.state a.v _ _ c.in-Unsettled.is full.1 _ _ _)

pub returns-in_ok-push-in-Unsettled-clause-settled : goal.returns-in_ok-push-in-Unsettled-clause-settled
returns-in_ok-push-in-Unsettled-clause-settled c =
    let a = c.args in
    let x = a.self.now in
    let done = c.in_ok-push-in-Unsettled.ensures in
    λ f H. recorded-sr H x.state a.v _ _ c.in-Unsettled.is done.room _ (λ rs L e. more-sr L (shift-reduce a.t c.in-Unsettled.p x.state) x.told.sr e done.room _ (search rules))
