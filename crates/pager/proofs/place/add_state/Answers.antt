-- `add_state` meets its contract: refused for states, refused for items, or one state more. Assumes nothing.
use Rattle.std.proofs.Common.{arith, length-set}
use Rattle.pager.proofs.Putting.{roomy, add-full, add-over, add_done}
use Rattle.pager.proofs.place.add_state.Goals as goal

pub returns-then-room-s : goal.returns-then-room-s
returns-then-room-s c = λ v R. add-full R c.if-room-s.true

pub returns-then-room-row : goal.returns-then-room-row
returns-then-room-row c = λ v R. add-over R (omega arith) c.if-room-row.true

pub bounds-spans-s : goal.bounds-spans-s
bounds-spans-s c = let r = roomy c.requires.1 in omega arith

pub bounds-spans-s-2 : goal.bounds-spans-s-2
bounds-spans-s-2 c = let r = roomy c.requires.1 in simp length-set (omega arith)

pub bounds-marks-s : goal.bounds-marks-s
bounds-marks-s c = let r = roomy c.requires.1 in omega arith

pub bounds-marks-s-2 : goal.bounds-marks-s-2
bounds-marks-s-2 c = let r = roomy c.requires.1 in simp length-set (omega arith)

pub copy_rows-requires : goal.copy_rows-requires
copy_rows-requires c = let r = roomy c.requires.1 in omega arith

pub returns : goal.returns
returns c =
    λ v R.
    let w = c.copy_rows in
    add_done R (omega arith) (omega arith) w.new.items w.ensures
