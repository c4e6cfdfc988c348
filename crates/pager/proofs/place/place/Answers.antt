-- `place` meets its contract: an equal state, a union, or a new state. Assumes nothing.
use Rattle.std.proofs.Common.{suc, ◌∙◌}
use Rattle.pager.proofs.ByIndex.{none-left}
use Rattle.pager.proofs.Putting.{equal-sought, weak-sought, weak-here, put-equal, put-weak, put-new}
use Rattle.pager.proofs.place.place.Goals as goal

pub returns-in-Some : goal.returns-in-Some
returns-in-Some c = λ v R. let h = c.in-Some in put-equal R h.to (h.ensures c.args.room v R ∙ equal-sought (suc v.symbol) v.kernel v.states)

pub join_state-requires : goal.join_state-requires
join_state-requires c =
    let a = c.args in
    let v = c.requires.0 in
    let R = c.requires.1 in
    let h = c.in-Some-find_state in
    let w = weak-here R h.to (h.ensures a.room v R ∙ weak-sought (suc v.symbol) v.kernel v.states) in
    (a.room, a.count, a.made, v, R, w.0, w.1)

pub returns-in-Some-find_state : goal.returns-in-Some-find_state
returns-in-Some-find_state c =
    λ v R.
    let a = c.args in
    let e = c.find_state in
    let h = c.in-Some-find_state in
    let q = h.ensures a.room v R ∙ weak-sought (suc v.symbol) v.kernel v.states in
    let w = weak-here R h.to q in
    put-weak R (none-left e.result (e.ensures a.room v R ∙ equal-sought (suc v.symbol) v.kernel v.states) c.in_default.not-Some) h.to q _ _
    (c.join_state.ensures a.room a.count a.made v R w.0 w.1)

pub returns : goal.returns
returns c =
    λ v R.
    let a = c.args in
    let e = c.find_state in
    let f = c.find_state-2 in
    let d = c.add_state in
    put-new R (none-left e.result (e.ensures a.room v R ∙ equal-sought (suc v.symbol) v.kernel v.states) c.in_default.not-Some)
    (none-left f.result (f.ensures a.room v R ∙ weak-sought (suc v.symbol) v.kernel v.states) c.in_default-find_state.not-Some) d.result _ _ _ (d.ensures v R)
