-- `call::room_short` meets its contract. Assumes nothing.
use Rattle.std.proofs.Common.{ap, ◌∙◌, ℕ, ◌*◌, ltb}
use Rattle.block.specs.Limits.{ITEM}
use Rattle.pager.specs.Call.{room_short}
use Rattle.pager.proofs.CallLaws.{here, past, next, last}
use Rattle.pager.proofs.call.room_short.Goals as goal

pub returns-then-room-lt1 : goal.returns-then-room-lt1
unfolding room_short
returns-then-room-lt1 c = here _ _ _ c.if-room-lt1.true

pub returns-then-room-gt-STATES : goal.returns-then-room-gt-STATES
unfolding room_short
returns-then-room-gt-STATES c = past _ _ _ (here _ _ _ c.if-room-gt-STATES.true)

pub returns-then-room-lt1-2 : goal.returns-then-room-lt1-2
unfolding room_short
returns-then-room-lt1-2 c = past _ _ _ (past _ _ _ (here _ _ _ c.if-room-lt1-2.true))

pub returns-then-room-gt-ITEMS : goal.returns-then-room-gt-ITEMS
unfolding room_short
returns-then-room-gt-ITEMS c = past _ _ _ (past _ _ _ (past _ _ _ (here _ _ _ c.if-room-gt-ITEMS.true)))

pub returns-then-items-room : goal.returns-then-items-room
unfolding room_short
returns-then-items-room c = past _ _ _ (past _ _ _ (past _ _ _ (past _ _ _ (here _ _ _ c.if-items-room.true))))

pub returns-then-spans-room : goal.returns-then-spans-room
unfolding room_short
returns-then-spans-room c = past _ _ _ (past _ _ _ (past _ _ _ (past _ _ _ (past _ _ _ (here _ _ _ c.if-spans-room.true)))))

pub returns-then-edges-room : goal.returns-then-edges-room
unfolding room_short
returns-then-edges-room c =
    past _ _ _ (past _ _ _ (past _ _ _ (past _ _ _ (past _ _ _ (past _ _ _ (here _ _ _ (rw (c.rules.ensures, c.tokens.ensures) at c.if-edges-room.true)))))))

pub returns-then-marks-room : goal.returns-then-marks-room
unfolding room_short
returns-then-marks-room c = past _ _ _ (past _ _ _ (past _ _ _ (past _ _ _ (past _ _ _ (past _ _ _ (past _ _ _ (here _ _ _ c.if-marks-room.true)))))))

pub returns-then-closed-symbols : goal.returns-then-closed-symbols
unfolding room_short
returns-then-closed-symbols c =
    past _ _ _ (past _ _ _ (past _ _ _ (past _ _ _ (past _ _ _ (past _ _ _ (past _ _ _ (past _ _ _ (here _ _ _ (rw (c.symbols.ensures, c.productions.ensures) at c.if-closed-symbols.true)))))))))

pub returns : goal.returns
unfolding room_short
returns c =
    ap (λ (y : ℕ). ltb c.args.kernel (ITEM * y)) c.symbols-2.ensures
    ∙ next _ _ _ _ c.if-room-lt1.false
    (next _ _ _ _ c.if-room-gt-STATES.false
    (next _ _ _ _ c.if-room-lt1-2.false
    (next _ _ _ _ c.if-room-gt-ITEMS.false
    (next _ _ _ _ c.if-items-room.false
    (next _ _ _ _ c.if-spans-room.false
    (next _ _ _ _ (rw (c.rules.ensures, c.tokens.ensures) at c.if-edges-room.false)
    (next _ _ _ _ c.if-marks-room.false
    (next _ _ _ _ (rw (c.symbols.ensures, c.productions.ensures) at c.if-closed-symbols.false)
    (last _ _)))))))))
