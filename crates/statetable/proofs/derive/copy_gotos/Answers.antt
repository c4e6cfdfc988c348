-- `derive::copy_gotos` meets its contract. Assumes nothing.
use Rattle.std.proofs.Common.{arith, length}
use Rattle.statetable.proofs.Copying.{CopyRooms, copying-start, copying-next, copying-done, copied-rooms}
use Rattle.statetable.proofs.derive.copy_gotos.Goals as goal

pub loop-s-init : goal.loop-s-init
loop-s-init c = λ ss H. copying-start H

pub slice_bounds-copy_from_slice-end-in-loop-s : goal.slice_bounds-copy_from_slice-end-in-loop-s
slice_bounds-copy_from_slice-end-in-loop-s c =
    let l = c.loop-s in
    let r = c.rules-rules in
    let t = c.tokens in
    let safe : CopyRooms r.result t.result l.s (length c.args.edges.now) (length l.gotos) =
    copied-rooms c.requires.1 l.s l.gotos (l.invariant c.requires.0 c.requires.1) r.result r.ensures t.result t.ensures c.loop-s-test.true l.auto.gotos in
    omega arith

pub loop-s-preserved : goal.loop-s-preserved
loop-s-preserved c =
    let l = c.loop-s in
    let r = c.rules-rules in
    let t = c.tokens in
    let m = c.copy_from_slice in
    λ ss H. copying-next H l.s l.gotos (l.invariant ss H) r.result r.ensures t.result t.ensures c.loop-s-test.true m.new.self m.ensures.after

pub returns : goal.returns
returns c =
    let l = c.loop-s in
    λ ss H. copying-done H l.s l.gotos (l.invariant ss H) c.loop-s-test.false
