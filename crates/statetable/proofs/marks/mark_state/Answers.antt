-- `marks::mark_state` meets its contract. Assumes nothing.
use Rattle.std.proofs.Common.{sum, not, ◌&&◌, sym, ap, ap₂, ◌∙◌, arith, length, eq-eqb, ne_eqb}
use Rattle.std.specs.List.{list_any}
use Rattle.statetable.specs.Marks.{moves_on}
use Rattle.statetable.proofs.CoreMarks.{core-sum, only_is}
use Rattle.statetable.proofs.marks.mark_state.Goals as goal
use Rattle.statetable.proofs.marks.mark_state.Goals.{then-ones-eq1, else-ones-eq1}

pub ones-requires : goal.ones-requires
ones-requires c =
    let few = c.requires.few in
    omega (arith, ap sum c.mark_cores.ensures, core-sum (length c.args.cores.now) c.args.cells.now)

pub returns-clause-only : goal.returns-clause-only
returns-clause-only c =
    let cells = c.args.cells.now in
    let n = c.ones.result in
    c.from.ensures
    ∙ only_is (length c.args.cores.now) cells c.mark_cores.new.cores c.mark_cores.ensures n c.ones.ensures c.if-ones-eq1.from
    (elim c.if-ones-eq1.branch [
      | then-ones-eq1 w ↦ w.from-is ∙ ap₂ (λ s t. s && not t) (sym (eq-eqb n 1 w.if-ones-eq1.true)) w.moves_on.ensures
      | else-ones-eq1 w ↦ w.from-is ∙ ne_eqb n 1 w.if-ones-eq1.false ∙ sym (ap (λ s. s && not (list_any moves_on cells)) (ne_eqb n 1 w.if-ones-eq1.false))
    ])
