-- `action_is` compares what the word of the action tells. Assumes nothing.
use mathlib.Core.Bool.{true}
use mathlib.Core.Logic.{◌↔◌}
use mathlib.Core.Path.{◌≡◌, sym, subst}
use Rattle.std.specs.Prelude.{Ok}
use Rattle.listed_statetable.specs.Queries.{ActsTold}
use Rattle.listed_statetable.proofs.Cells.{told-error, told-shift, told-reduce, told-accept}
use Rattle.listed_statetable.proofs.queries.action_is.Goals as goal

pub returns-in-Error : goal.returns-in-Error
returns-in-Error c =
    let a = c.args in
    let i = c.in-Error in
    subst (λ x. (c.is_pair.result ≡ true) ↔ ActsTold (Ok x) a.number a.word) (sym i.is) (told-error a.number a.word c.is_pair.ensures)

pub returns-in-Shift : goal.returns-in-Shift
returns-in-Shift c =
    let a = c.args in
    let i = c.in-Shift in
    subst (λ x. (c.is_coded.result ≡ true) ↔ ActsTold (Ok x) a.number a.word) (sym i.is) (told-shift a.number a.word i.s c.is_coded.ensures)

pub returns-in-Reduce : goal.returns-in-Reduce
returns-in-Reduce c =
    let a = c.args in
    let i = c.in-Reduce in
    subst (λ x. (c.is_coded-in-Reduce.result ≡ true) ↔ ActsTold (Ok x) a.number a.word) (sym i.is) (told-reduce a.number a.word i.p c.is_coded-in-Reduce.ensures)

pub returns-in-Accept : goal.returns-in-Accept
returns-in-Accept c =
    let a = c.args in
    let i = c.in-Accept in
    subst (λ x. (c.is_pair-in-Accept.result ≡ true) ↔ ActsTold (Ok x) a.number a.word) (sym i.is) (told-accept a.number a.word c.is_pair-in-Accept.ensures)
