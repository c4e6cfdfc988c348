-- `call::finish` meets its contract. Assumes nothing.
use Rattle.pager.proofs.CallParts.{stop-long, stop-finished, whole, go-built, go-finished}
use Rattle.pager.proofs.call.finish.Goals as goal

pub clear_room-requires : goal.clear_room-requires
clear_room-requires c =
    let w = c.in-Err in
    stop-long c.requires.0 c.requires.1 w.refusal w.is

pub returns-in-Err : goal.returns-in-Err
returns-in-Err c =
    let w = c.in-Err in
    let e = c.clear_room.ensures in
    λ v U. stop-finished v U w.refusal w.is _ _ _ _ e.items e.spans e.edges e.marks

pub collect_states-kept-requires : goal.collect_states-kept-requires
collect_states-kept-requires c =
    let w = c.in-Ok in
    (whole c.requires.0 c.requires.1 w.count w.is, go-built c.requires.0 c.requires.1 w.count w.is)

pub returns-in-Ok : goal.returns-in-Ok
returns-in-Ok c =
    let w = c.in-Ok in
    λ v U. go-finished v U w.count w.is _ _ _ _ _ (c.collect_states-kept.ensures (whole v U w.count w.is) (go-built v U w.count w.is))
