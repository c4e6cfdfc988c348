-- `find_state` meets its contract: no state up to s is what is sought. Assumes nothing.
use Rattle.std.proofs.Common.{◌∙◌, suc, arith, below_more}
use Rattle.pager.specs.Graph.{nowhere}
use Rattle.pager.specs.Held.{sought}
use Rattle.pager.proofs.ByIndex.{some-here, none-here}
use Rattle.pager.proofs.Putting.{below, marks-room, scan-room, test-other, test-is, states-is}
use Rattle.pager.proofs.place.find_state.Goals as goal
use Rattle.pager.proofs.place.find_state.Goals.{else-marks-s-via-then-marks-s+else-takes, else-marks-s-via-else-marks-s}

pub bounds-marks-s : goal.bounds-marks-s
bounds-marks-s g c =
    let l = c.loop-s in
    omega (arith, marks-room c.requires.2 l.s c.loop-s-test.true)

pub kernel_of-requires : goal.kernel_of-requires
kernel_of-requires g c = scan-room c.requires.2 c.loop-s.s c.loop-s-test.true

pub returns-then-takes : goal.returns-then-takes
returns-then-takes g c =
    λ room v R.
    let l = c.loop-s in
    let k = c.kernel_of in
    let t = c.takes in
    let h = below R l.s c.loop-s-test.true in
    some-here (sought g.P.Placing.takes (suc v.symbol) v.kernel) nowhere v.states l.s h
    (test-is R g.P.Placing.takes l.s h c.if-marks-s.true k.result.now k.ensures t.result t.ensures ∙ c.if-takes.true)
    (l.invariant room v R)

pub loop-s-preserved : goal.loop-s-preserved
loop-s-preserved g c =
    λ room v R.
    let l = c.loop-s in
    let h = below R l.s c.loop-s-test.true in
    below_more _ _ (l.invariant room v R)
    (elim c.else-marks-s.branch [ else-marks-s-via-then-marks-s+else-takes w ↦ test-is R g.P.Placing.takes l.s h w.if-marks-s.true w.kernel_of.result.now w.kernel_of.ensures w.takes.result w.takes.ensures ∙ w.if-takes.false | else-marks-s-via-else-marks-s w ↦ test-other R g.P.Placing.takes l.s h w.if-marks-s.false ])

pub returns : goal.returns
returns g c =
    λ room v R.
    let l = c.loop-s in
    none-here (sought g.P.Placing.takes (suc v.symbol) v.kernel) nowhere v.states l.s (omega (arith, states-is R, c.loop-s-test.false)) (l.invariant room v R)
