-- `seed` meets its contract: the laws of proofs/Work/Seeding. Assumes nothing.
use Rattle.std.proofs.Common.{List}
use Rattle.block.specs.Block.{prods}
use Rattle.block.specs.First.{firsts_of}
use Rattle.itemset.specs.Rows.{Row}
use Rattle.itemset.specs.Work.{Working, ForSeed}
use Rattle.itemset.proofs.closure.Closure.seed.Given as goal

abbrev pub invariant-loop-row : goal.invariant-loop-row
invariant-loop-row l =
    let b = l.firsts.grammar.words.now in
    (K : List Row) → ForSeed b l.kernel K l.initial.self → Working b (firsts_of b) K l.row-index (prods b) l.self
