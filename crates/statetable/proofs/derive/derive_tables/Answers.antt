-- `derive::derive_tables` meets its contract. Assumes nothing.
use Rattle.std.proofs.Common.{refl, sym, ◌∙◌, ◌*◌}
use Rattle.block.specs.Block.{tokens}
use Rattle.statetable.proofs.Fronts.{front_length, shifts_fit, cells-length, gotos-asked, marks-asked, derived}
use Rattle.statetable.proofs.derive.derive_tables.Goals as goal

pub copy_gotos-requires : goal.copy_gotos-requires
copy_gotos-requires c =
    let t = c.tokens in
    let r = c.rules in
    let d = c.clear_derived in
    (c.requires.0, gotos-asked c.requires.2 t.result t.ensures r.result r.ensures _ refl d.new.gotos d.ensures.gotos)

pub slice_bounds-mark_shifts-end : goal.slice_bounds-mark_shifts-end
slice_bounds-mark_shifts-end c =
    let t = c.tokens in
    sym (cells-length c.requires.2 t.result t.ensures _ refl _ refl)

pub mark_shifts-requires : goal.mark_shifts-requires
mark_shifts-requires c =
    let a = c.args in
    let t = c.tokens in
    let H = c.requires.2 in
    let d = c.clear_derived in
    cells-length H t.result t.ensures _ refl _ refl
    ∙ sym (front_length (a.most * tokens a.grammar.words.now) (a.states * t.result) a.shifts.now d.new.shifts d.ensures.shifts H.shifts-room (shifts_fit H t.result t.ensures _ refl _ refl))

pub mark_states-requires : goal.mark_states-requires
mark_states-requires c =
    let t = c.tokens in
    let p = c.productions in
    let d = c.clear_derived in
    (c.requires.1, marks-asked c.requires.2 t.result t.ensures _ refl p.result p.ensures d.new.cores d.ensures.cores d.new.only d.ensures.only)

pub returns : goal.returns
returns c =
    let t = c.tokens in
    let r = c.rules in
    let p = c.productions in
    let d = c.clear_derived in
    let g = c.copy_gotos in
    let s = c.mark_shifts in
    let m = c.mark_states in
    λ ss rs H.
    let F = marks-asked H t.result t.ensures r.result r.ensures p.result p.ensures d.new.cores d.ensures.cores d.new.only d.ensures.only in
    derived H t.result t.ensures r.result r.ensures p.result p.ensures d.new.gotos d.new.shifts d.new.cores d.new.only d.ensures.gotos d.ensures.shifts d.ensures.cores d.ensures.only
    g.new.gotos s.new.shifts m.new.cores m.new.only g.auto.gotos s.auto.shifts m.auto.cores m.auto.only
    (g.ensures ss (gotos-asked H t.result t.ensures r.result r.ensures p.result p.ensures d.new.gotos d.ensures.gotos)) s.ensures (m.ensures.cores rs F) (m.ensures.only rs F)
