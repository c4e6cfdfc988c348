-- `full` looks at word after word. Assumes nothing.
use Rattle.std.proofs.Common.{◌≡◌, map, take, replicate}
use Rattle.listed_pager.proofs.work.full.Given as goal

abbrev pub invariant-loop-word : goal.invariant-loop-word
invariant-loop-word g l = map g.T.Word.number (take l.word-index l.words) ≡ replicate l.word-index l.all
