-- `settle` meets its contract: the laws of proofs/Work/Turns. Assumes nothing.
use Rattle.std.proofs.Common.{true, ◌≡◌, ◌<◌, sym, arith}
use Rattle.block.specs.Block.{prods}
use Rattle.block.proofs.Good.{placed}
use Rattle.itemset.specs.Work.{todo_of}
use Rattle.itemset.proofs.Work.Turns.{next-found, next-none, turn-item, turn-work, turn-less}
use Rattle.itemset.proofs.closure.Closure.settle.Goals as goal
use Rattle.itemset.proofs.closure.Closure.settle.Goals.{In-Some}

-- the production found is one of the grammar, and has to be looked at
found : (c : In-Some) → (c.in-Some.p < prods c.args.firsts.now.grammar.words.now) × (todo_of c.loop-p.self c.in-Some.p ≡ true)
found c =
    let l = c.loop-p in
    let e = c.productions-prods.ensures in
    let m = (placed c.args.firsts.now.grammar.good).prods-most in
    let N = next-found l.self (l.invariant _ c.requires.1).size c.productions-prods.result (omega (arith, e, m)) c.in-Some.p (sym c.in-Some.ensures) in
    (omega (arith, e, N.0), N.1)

pub next-requires : goal.next-requires
next-requires c = omega (arith, c.productions-prods.ensures, (placed c.args.firsts.now.grammar.good).prods-most)

pub hand_on-requires : goal.hand_on-requires
hand_on-requires c = turn-item c.args.firsts.now.grammar.words.now c.args.firsts.now.grammar.good c.in-Some.p (found (goal.at.hand_on-requires c).In-Some).0

pub loop-p-smaller : goal.loop-p-smaller
loop-p-smaller c =
    let S = c.requires.1 in
    let l = c.loop-p in
    let N = found (goal.at.loop-p-smaller c).In-Some in
    turn-less c.args.firsts.now.grammar.words.now c.args.firsts.now.grammar.good c.in-Some.p N.0 _ _ l.self (l.invariant _ S) N.1 c.hand_on.new.self c.hand_on.ensures

pub loop-p-preserved : goal.loop-p-preserved
loop-p-preserved c =
    let l = c.loop-p in
    let N = found (goal.at.loop-p-preserved c).In-Some in
    λ K S. turn-work c.args.firsts.now.grammar.words.now c.args.firsts.now.grammar.good c.in-Some.p N.0 _ _ l.self (l.invariant K S) N.1 c.hand_on.new.self c.hand_on.ensures

pub returns-clause-none : goal.returns-clause-none
returns-clause-none c =
    let l = c.loop-p in
    let e = c.productions-prods.ensures in
    let m = (placed c.args.firsts.now.grammar.good).prods-most in
    λ q k. next-none l.self (l.invariant _ c.requires.1).size c.productions-prods.result (omega (arith, e, m)) (sym c.in_default.ensures) q (omega (arith, e, k))
