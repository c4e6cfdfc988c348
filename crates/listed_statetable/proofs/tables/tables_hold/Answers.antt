-- `tables_hold` compares the tables, the marks and the lists. Assumes nothing.
use mathlib.Core.Path.{refl}
use Rattle.words.proofs.Answers.{fails}
use Rattle.listed_statetable.proofs.PartLists.{tables-first, tables-second, tables-by}
use Rattle.listed_statetable.proofs.tables.tables_hold.Goals as goal

pub returns-then-not-three_begin : goal.returns-then-not-three_begin
returns-then-not-three_begin c =
    let a = c.args in
    fails _ c.three_begin.ensures c.if-not-three_begin.true
    (tables-first a.expected.now _ _ a.actions.now a.gotos.now a.offers.now a.shifts.now a.cores.now a.only.now a.rr.now a.sr.now refl refl)

pub returns-then-not-three_begin-2 : goal.returns-then-not-three_begin-2
returns-then-not-three_begin-2 c =
    let a = c.args in
    let n = c.behind_three-marks in
    fails _ c.three_begin-2.ensures c.if-not-three_begin-2.true
    (tables-second a.expected.now n.result.now _ a.actions.now a.gotos.now a.offers.now a.shifts.now a.cores.now a.only.now a.rr.now a.sr.now n.ensures refl)

pub returns : goal.returns
returns c =
    let a = c.args in
    let n = c.behind_three-marks in
    let l = c.behind_three in
    tables-by a.expected.now n.result.now l.result.now a.actions.now a.gotos.now a.offers.now a.shifts.now a.cores.now a.only.now a.rr.now a.sr.now n.ensures l.ensures
    (c.three_begin.ensures.0 (c.if-not-three_begin.false)) (c.three_begin-2.ensures.0 (c.if-not-three_begin-2.false))
    c.lists_hold.ensures
