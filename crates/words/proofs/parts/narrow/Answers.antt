-- `narrow` puts word after word. Assumes nothing.
use Rattle.std.proofs.Common.{sym, ◌∙◌, arith}
use lib.ListN.{length-set}
use Rattle.words.proofs.PartLaws.{narrow-done, narrow-full, narrow_wide, narrow-more}
use Rattle.words.proofs.parts.narrow.Goals as goal

pub returns-then-out-i-clause-put : goal.returns-then-out-i-clause-put
returns-then-out-i-clause-put c =
    let l = c.loop-i in
    sym (l.invariant.0 ∙ narrow-full c.args.words.now l.i l.out (omega arith) (omega arith))

pub returns-in_default-clause-put : goal.returns-in_default-clause-put
returns-in_default-clause-put c =
    let l = c.loop-i in
    sym (l.invariant.0 ∙ narrow_wide c.args.words.now l.i l.out (omega arith) (omega arith) (omega (arith, c.in_default.ensures)))

pub loop-i-preserved : goal.loop-i-preserved
loop-i-preserved c =
    let l = c.loop-i in
    let e = c.in-Ok.ensures in
    rw (e.1) (l.invariant.0 ∙ narrow-more c.args.words.now l.i l.out (omega arith) (omega arith) e.0, simp length-set (omega arith))

pub returns-clause-put : goal.returns-clause-put
returns-clause-put c =
    let l = c.loop-i in
    sym (l.invariant.0 ∙ narrow-done c.args.words.now l.i l.out (omega arith))
