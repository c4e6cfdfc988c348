-- `Filling::complete_at` meets its contract. Assumes nothing.
use Rattle.std.proofs.Common.{arith, ◌&&◌, ◌≡◌, refl, ap₂, ◌∙◌, eqb, eq-eqb, ne_eqb}
use Rattle.std.proofs.lemmas.Result.{err_from_is_err_and}
use Rattle.block.proofs.ListLaws.{and_then, and-else}
use Rattle.statetable.specs.Verdict.{stops}
use Rattle.statetable.specs.Refusals.{values_of}
use Rattle.statetable.proofs.LaidRows.{laid-verdict, refused-settled, completed-left}
use Rattle.statetable.proofs.fill.Filling.complete_at.Goals as goal
use Rattle.statetable.proofs.fill.Filling.complete_at.Goals.{then-p-start, else-p-start}

pub reduce_cell-requires : goal.reduce_cell-requires
reduce_cell-requires c = let l = c.args.grammar.placed.prods-most in omega (arith, c.requires.0)

pub settle-requires : goal.settle-requires
settle-requires c =
    let L = c.requires.2.1 in
    (_, laid-verdict L _ c.requires.1 (omega arith))

pub returns-in_err-v-clause-left : goal.returns-in_err-v-clause-left
returns-in_err-v-clause-left c =
    let A = c.args in
    let l = c.requires.1 in
    let j = c.if-p-start in
    let a : j.accepts ≡ (eqb A.p c.start-start.result && eqb A.t c.end-end.result) =
    elim c.if-p-start.branch [ then-p-start w ↦ and_then _ _ _ (eq-eqb _ _ w.if-p-start.true) w.accepts-is | else-p-start w ↦ and-else _ _ _ (ne_eqb _ _ w.if-p-start.false) w.accepts-is ] in
    let d = a ∙ ap₂ (λ y z. eqb A.p y && eqb A.t z) c.start-start.ensures c.end-end.ensures in
    let e = err_from_is_err_and c.from_residual.result c.from_residual.ensures.1 in
    rw (e.1, e.2)
    (λ f L. completed-left L _ l _ _ _ _ _ _ refl (stops (values_of c.in_err-v.field-0.0)) (refused-settled _ _ _ _ _ _ _ _) _ c.requires.0 _ d c.in_err-v.ensures (omega arith))

pub returns-clause-left : goal.returns-clause-left
returns-clause-left c =
    let A = c.args in
    let l = c.requires.1 in
    let j = c.if-p-start in
    let a : j.accepts ≡ (eqb A.p c.start-start.result && eqb A.t c.end-end.result) =
    elim c.if-p-start.branch [ then-p-start w ↦ and_then _ _ _ (eq-eqb _ _ w.if-p-start.true) w.accepts-is | else-p-start w ↦ and-else _ _ _ (ne_eqb _ _ w.if-p-start.false) w.accepts-is ] in
    let d = a ∙ ap₂ (λ y z. eqb A.p y && eqb A.t z) c.start-start.ensures c.end-end.ensures in
    λ f L.
    let S = c.settle.ensures.settled _ (laid-verdict L _ l (omega arith)) in
    completed-left L _ l _ _ _ _ _ _ c.settle.ensures.offered _ S _ c.requires.0 _ d c.in_ok-v.ensures (omega arith)
