-- `lay` meets its contract: of the laid rows, those from production p and row k on are still to be written. Assumes nothing.
use Rattle.std.proofs.Common.{List, ◌≡◌, ◌+◌, ◌-◌, length, drop}
use Rattle.block.specs.Block as header
use Rattle.itemset.specs.Rows.{Row}
use Rattle.itemset.specs.Lay.{marks_of, contexts_of, lay_from, lay_of}
use Rattle.itemset.specs.Lent.{ForLay}
use Rattle.itemset.proofs.Writing.{Writing}
use Rattle.itemset.proofs.Laid.{Cursors}
use Rattle.itemset.proofs.lay.lay.Given as goal

abbrev pub invariant-loop-p : goal.invariant-loop-p
invariant-loop-p l =
    Cursors l.grammar.words.now l.kernel l.prods l.n l.p l.k × (length l.out ≡ length l.initial.out)
    × ((K : List Row) → ForLay l.grammar.words.now l.kernel l.initial.out (contexts_of l.closure) K
    → Writing (lay_of l.grammar.words.now (marks_of l.closure) (contexts_of l.closure) K) (lay_from (marks_of l.closure) (contexts_of l.closure) (header.prods l.grammar.words.now) l.p (drop l.k K)) l.rows l.initial.out l.out)

abbrev pub decreases-loop-p : goal.decreases-loop-p
decreases-loop-p l = l.prods + l.n - (l.p + l.k)
