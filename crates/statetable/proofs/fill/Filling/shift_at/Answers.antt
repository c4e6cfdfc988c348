-- `Filling::shift_at` meets its contract. Assumes nothing.
use Rattle.std.proofs.Common.{arith, ◌≡◌, refl, get_or}
use Rattle.std.proofs.lemmas.Result.{err_from_is_err_and}
use Rattle.statetable.specs.Cell.{decode}
use Rattle.statetable.specs.Refusals.{values_of}
use Rattle.statetable.specs.Verdict.{stops, on_shift}
use Rattle.statetable.specs.Laid.{settles_of}
use Rattle.statetable.proofs.LaidRows.{laid-verdict, refused-settled, led-left}
use Rattle.statetable.proofs.fill.Filling.shift_at.Goals as goal

pub settle-requires : goal.settle-requires
settle-requires c =
    let L = c.requires.2.1 in
    (_, laid-verdict L _ c.requires.0 (omega arith))

pub returns-clause-left : goal.returns-clause-left
returns-clause-left c =
    let A = c.args in
    let l = c.requires.0 in
    let e : settles_of c.in_ok-v.v ≡ on_shift A.grammar.words.now A.self.now.state A.t A.to (decode (get_or A.self.now.cells.now A.t 0)) = c.in_ok-v.ensures in
    λ f L.
    let S = c.settle.ensures.settled _ (laid-verdict L _ l (omega arith)) in
    led-left L _ l _ _ _ _ _ _ c.settle.ensures.offered _ S _ e (omega arith)

pub returns-in_err-v-clause-left : goal.returns-in_err-v-clause-left
returns-in_err-v-clause-left c =
    let e = err_from_is_err_and c.from_residual.result c.from_residual.ensures.1 in
    rw (e.1, e.2)
    (λ f L. led-left L _ c.requires.0 _ _ _ _ _ _ refl (stops (values_of c.in_err-v.field-0.0)) (refused-settled _ _ _ _ _ _ _ _) _ c.in_err-v.ensures (omega arith))
