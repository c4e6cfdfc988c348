-- `close` meets its contract: the laws of proofs/Work/Closes. Assumes nothing.
use Rattle.block.proofs.Good.{placed}
use Rattle.itemset.proofs.Work.Steps.{start-work}
use Rattle.itemset.proofs.Work.Closes.{closure-seed, closure-lay, closure-wrote}
use Rattle.itemset.proofs.closure.close.Goals as goal

pub seed-requires : goal.seed-requires
seed-requires c = let C = c.requires in (C.0, closure-seed C.1 _ (start-work _ _ C.0 (placed C.1.kernel.good).prods-most c.empty.result c.empty.ensures.words))

pub settle-requires : goal.settle-requires
settle-requires c =
    let C = c.requires in
    let Z = start-work _ _ C.0 (placed C.1.kernel.good).prods-most c.empty.result c.empty.ensures.words in
    (C.0, c.seed.ensures C.0 (closure-seed C.1 _ Z))

pub lay-requires : goal.lay-requires
lay-requires c =
    let C = c.requires in
    let Z = start-work _ _ C.0 (placed C.1.kernel.good).prods-most c.empty.result c.empty.ensures.words in
    (C.0, closure-lay C.1 c.settle.new.self (c.settle.ensures.work C.0 (c.seed.ensures C.0 (closure-seed C.1 _ Z))))

pub returns : goal.returns
returns c =
    λ K C.
    let s = c.settle in
    let Z = start-work _ _ K (placed C.kernel.good).prods-most c.empty.result c.empty.ensures.words in
    let T = s.ensures.work K (c.seed.ensures K (closure-seed C _ Z)) in
    closure-wrote C s.new.self T s.ensures.none _ _ (c.lay.ensures K (closure-lay C s.new.self T))
