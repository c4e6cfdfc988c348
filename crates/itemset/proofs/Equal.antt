-- Equal kernels have equal rows: proved. Assumes nothing.
use Rattle.itemset.specs.Equal.{Equal}
use Rattle.itemset.proofs.RowLaws.{rows-equal}
use Rattle.itemset.proofs.Words.{words-injective}

pub equal : Equal
equal = record { rows = rows-equal; words = words-injective }
