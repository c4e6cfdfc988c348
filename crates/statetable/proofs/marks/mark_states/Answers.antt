-- `marks::mark_states` meets its contract. Assumes nothing.
use Rattle.std.proofs.Common.{arith, length}
use Rattle.statetable.proofs.Marking.{MarkRooms, marking-start, marking-next, marking-done, marked-inside, marked-clear, marked-few, marked-rooms}
use Rattle.statetable.proofs.marks.mark_states.Goals as goal

pub loop-s-init : goal.loop-s-init
loop-s-init c = λ rs H. marking-start H

pub slice_bounds-mark_state-end : goal.slice_bounds-mark_state-end
slice_bounds-mark_state-end c =
    let l = c.loop-s in
    let t = c.tokens-tokens in
    let p = c.productions-prods in
    let safe : MarkRooms t.result p.result l.s (length c.args.actions.now) (length l.cores) (length l.only) =
    marked-rooms c.requires.1 l.s l.cores l.only (l.invariant c.requires.0 c.requires.1) t.result t.ensures p.result p.ensures c.loop-s-test.true l.auto.cores l.auto.only in
    omega arith

pub mark_state-requires : goal.mark_state-requires
mark_state-requires c =
    let H = c.requires.1 in
    let l = c.loop-s in
    let t = c.tokens-tokens in
    let p = c.productions-prods in
    let M = l.invariant c.requires.0 H in
    let k = c.loop-s-test.true in
    record {
      inside = marked-inside H l.s l.cores l.only M t.result t.ensures p.result p.ensures k;
      clear = marked-clear H l.s l.cores l.only M t.result t.ensures p.result p.ensures k;
      few = marked-few H l.s l.cores l.only M t.result t.ensures p.result p.ensures k;
    }

pub loop-s-preserved : goal.loop-s-preserved
loop-s-preserved c =
    let l = c.loop-s in
    let t = c.tokens-tokens in
    let p = c.productions-prods in
    let m = c.mark_state in
    λ rs H.
    marking-next H l.s l.cores l.only (l.invariant rs H) t.result t.ensures p.result p.ensures c.loop-s-test.true m.new.cores m.result m.ensures.cores m.ensures.only l.auto.only

pub returns : goal.returns
returns c =
    let l = c.loop-s in
    record {
      cores = λ rs H. (marking-done H l.s l.cores l.only (l.invariant rs H) c.loop-s-test.false l.auto.only).0;
      only = λ rs H. (marking-done H l.s l.cores l.only (l.invariant rs H) c.loop-s-test.false l.auto.only).1;
    }
