-- `moves::reduce_step` meets its contract. Assumes nothing.
use Rattle.std.proofs.Common.{ap, ◌∙◌, ℕ, ◌-◌, ◌+◌, ◌*◌, get_or, arith}
use borrow.Rule.Slice.PartMut.{same_len_mid}
use Rattle.block.specs.Block.{rules}
use Rattle.machine.proofs.Standing.{height-fits}
use Rattle.machine.proofs.Reduces.{reducible, below-known, reduce-shallow, reduce-nowhere, reduce-full-output, reduce-full-stack, reduce-goes}
use Rattle.machine.proofs.Clearing.{filled}
use Rattle.machine.proofs.moves.reduce_step.Goals as goal

pub returns-then-h-n : goal.returns-then-h-n
returns-then-h-n c =
    let n = c.length-n.result in
    λ input old d R.
    let q = reducible c.args.p R.good _ c.productions.ensures _ c.start.ensures c.if-productions-p.false c.if-p-start.false _ c.length-n.ensures in
    reduce-shallow c.args.p n q d R c.if-h-n.true

pub goto-requires-clause-state : goal.goto-requires-clause-state
goto-requires-clause-state c =
    let n = c.length-n.result in
    let R = c.requires.3 in
    let q = reducible c.args.p R.good _ c.productions.ensures _ c.start.ensures c.if-productions-p.false c.if-p-start.false _ c.length-n.ensures in
    below-known c.args.p n q c.requires.2 R c.if-h-n.false

pub returns-in_default : goal.returns-in_default
returns-in_default c =
    let t = c.args.tables in
    let n = c.length-n.result in
    let read = ap (λ (r : ℕ). get_or t.gotos.now (get_or c.args.stack.now (c.args.run.height - n - 1) 0 * rules t.grammar.words.now + r) 0) c.rule.ensures in
    λ input old d R.
    let q = reducible c.args.p R.good _ c.productions.ensures _ c.start.ensures c.if-productions-p.false c.if-p-start.false _ c.length-n.ensures in
    reduce-nowhere c.args.p n q d R c.if-h-n.false _ read (λ e z. c.in_default.not-Some e (c.goto.ensures ∙ z))

pub returns-then-output-k : goal.returns-then-output-k
returns-then-output-k c =
    let t = c.args.tables in
    let n = c.length-n.result in
    let read = ap (λ (r : ℕ). get_or t.gotos.now (get_or c.args.stack.now (c.args.run.height - n - 1) 0 * rules t.grammar.words.now + r) 0) c.rule.ensures in
    λ input old d R.
    let q = reducible c.args.p R.good _ c.productions.ensures _ c.start.ensures c.if-productions-p.false c.if-p-start.false _ c.length-n.ensures in
    reduce-full-output c.args.p n q d R c.if-h-n.false _ read c.in-Some.to c.in-Some.ensures c.if-output-k.true

pub returns-then-stack-left : goal.returns-then-stack-left
returns-then-stack-left c =
    let t = c.args.tables in
    let n = c.length-n.result in
    let read = ap (λ (r : ℕ). get_or t.gotos.now (get_or c.args.stack.now (c.args.run.height - n - 1) 0 * rules t.grammar.words.now + r) 0) c.rule.ensures in
    λ input old d R.
    let q = reducible c.args.p R.good _ c.productions.ensures _ c.start.ensures c.if-productions-p.false c.if-p-start.false _ c.length-n.ensures in
    reduce-full-stack c.args.p n q d R c.if-h-n.false _ read c.in-Some.to c.in-Some.ensures (omega arith) c.if-stack-left.true

pub returns : goal.returns
returns c =
    let t = c.args.tables in
    let n = c.length-n.result in
    let read = ap (λ (r : ℕ). get_or t.gotos.now (get_or c.args.stack.now (c.args.run.height - n - 1) 0 * rules t.grammar.words.now + r) 0) c.rule.ensures in
    λ input old d R.
    let q = reducible c.args.p R.good _ c.productions.ensures _ c.start.ensures c.if-productions-p.false c.if-p-start.false _ c.length-n.ensures in
    reduce-goes c.args.p n q d R c.if-h-n.false _ read c.in-Some.to c.in-Some.ensures c.if-output-k.false c.if-stack-left.false _
    (filled (c.args.run.height - n) c.args.run.height c.args.stack.now _ (omega arith) (height-fits R) (c.fill.ensures.after (λ y e. e)))
    (same_len_mid (c.args.run.height - n) (c.args.run.height - (c.args.run.height - n)) c.args.stack.now _ c.fill.auto.self)
