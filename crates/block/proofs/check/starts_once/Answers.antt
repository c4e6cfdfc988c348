-- `check::starts_once` meets its contract. Assumes nothing.
use Rattle.std.proofs.Common.{inl, inr, refl, arith}
use Rattle.block.specs.Block.{prods}
use Rattle.block.specs.Refusal.{start_again}
use Rattle.block.proofs.ListLaws.{left-all, left-stops, left-on, left-over}
use Rattle.block.proofs.Says.{says-true, says-false}
use Rattle.block.proofs.Rows.{again-says}
use Rattle.block.proofs.check.starts_once.Goals as goal

pub loop-q-init : goal.loop-q-init
loop-q-init c = let b = c.args.words.now in left-all (start_again b) (prods b)

pub returns-then-q-start : goal.returns-then-q-start
returns-then-q-start c =
    let b = c.args.words.now in
    let q = c.loop-q.q in
    rw (left-stops (start_again b) (prods b) q _ c.loop-q.invariant (omega arith) (says-true (again-says b q) (c.if-words-q.true, c.if-q-start.true))) refl

pub loop-q-preserved : goal.loop-q-preserved
loop-q-preserved c =
    let b = c.args.words.now in
    let q = c.loop-q.q in
    left-on (start_again b) (prods b) q _ c.loop-q.invariant (omega arith)
    (says-false (again-says b q) (λ h. elim c.else-words-q.either [ inl e ↦ h.1 e.1 | inr d ↦ d h.0 ]))

pub returns : goal.returns
returns c =
    let b = c.args.words.now in
    rw (left-over (start_again b) (prods b) c.loop-q.q _ c.loop-q.invariant (omega arith)) refl
