-- `join_state` meets its contract, by whether the state grew. Assumes nothing.
use Rattle.std.proofs.Common.{arith}
use Rattle.pager.proofs.Putting.{states-room, join-room, joined-grew, joined_same}
use Rattle.pager.proofs.place.join_state.Goals as goal

pub bounds-spans-s : goal.bounds-spans-s
bounds-spans-s c = omega (arith, states-room c.requires.4 c.args.s c.requires.5)

pub merge-requires : goal.merge-requires
merge-requires c = join-room c.requires.4 c.args.s c.requires.5 c.requires.6

pub bounds-marks-s : goal.bounds-marks-s
bounds-marks-s c = omega (arith, states-room c.requires.4 c.args.s c.requires.5)

pub returns-then-merge : goal.returns-then-merge
returns-then-merge c =
    λ room count made v R l e.
    let m = c.merge in
    joined-grew R c.args.s l e m.new.items m.result m.ensures c.if-merge.true

pub returns-else-merge : goal.returns-else-merge
returns-else-merge c =
    λ room count made v R l e.
    let m = c.merge in
    joined_same R c.args.s l e m.new.items m.result m.ensures c.if-merge.false
