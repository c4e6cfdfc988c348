-- The first i contexts are joined. Assumes nothing.
use Rattle.std.proofs.Common.{sym, subst, ◌+◌, ◌<◌, arith, length, take}
use Rattle.pager.specs.Weak.{union}
use Rattle.pager.specs.RowWords.{RowsAt}
use Rattle.pager.proofs.RowTests.{rows-length}
use Rattle.pager.proofs.Joining.{merge_none, merge-all, merge_step, merge-told}
use Rattle.pager.proofs.kernels.merge.Goals as goal

pub loop-i-init : goal.loop-i-init
loop-i-init c = λ before K behind L W U e. merge_none L W

pub loop-i-preserved : goal.loop-i-preserved
loop-i-preserved c =
    λ before K behind L W U e.
    let l = c.loop-i in
    let a = c.args in
    let h = l.invariant before K behind L W U e in
    let k : l.i < length L = omega (arith, rows-length U, c.loop-i-test.true) in (
      subst (λ ws. RowsAt a.at before (union K (take (l.i + 1) L)) behind ws) (sym c.store.ensures)
          (merge_step a.at before K behind L a.b.now W.sets U e l.i k _ h.0 _ _ _ c.load-old.ensures c.load.ensures c.join-new.ensures.words),
      merge-told a.at before K behind L a.b.now W.sets U e l.i k _ h.0 _ _ _ c.load-old.ensures c.load.ensures c.join-new.ensures.words l.grew c.ne-grew.result h.1
          c.ne-grew.ensures,
    )

pub returns : goal.returns
returns c = λ before K behind L W U e. merge-all K L c.loop-i.i U (omega arith) (c.loop-i.invariant before K behind L W U e)
