-- `lent_holds` parts the lengths from what is expected. Assumes nothing.
use mathlib.Core.Bool.{true}
use mathlib.Core.Logic.{◌↔◌}
use mathlib.Core.Path.{◌≡◌, subst}
use Prim.Native.Nat.{◌≤◌}
use native.Mathlib.Omega.{arith}
use Rattle.listed_block.specs.Rooms.{ROOM}
use Rattle.listed_pager.specs.Work.{work_of}
use Rattle.listed_statetable.specs.Builds.{BuildSeen, lent_all_for}
use lib.ListN.{take}
use Rattle.listed_statetable.proofs.Tails.{from}
use Rattle.listed_statetable.proofs.BuildCases.{lent_by}
use Rattle.listed_statetable.proofs.builds.lent_holds.Goals as goal

pub returns : goal.returns
returns c =
    let w = c.work_of-work in
    let a = c.args in
    let f = c.in-Ok.ensures in
    let room : (work_of a.block.now a.named.states).closed ≤ ROOM = subst (λ x. x.closed ≤ ROOM) w.ensures c.if-work-gt-ROOM.false in
    lent_by a.block.now a.named a.fill a.rest.now (omega (arith, f.0)) c.if-rest-lt-LENGTHS.false room
    (subst (λ x. (c.built_holds.result ≡ true) ↔ BuildSeen a.block.now a.named x (lent_all_for (work_of a.block.now a.named.states) x (take 11 a.rest.now)) (from 11 a.rest.now)) f.1 c.built_holds.ensures)
