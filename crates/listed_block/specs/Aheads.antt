-- What is ahead in the rules, as the list of FIRST sets tells it. Assumes nothing.
use Rattle.std.specs.Prelude.{List, [], ◌∷◌, ◌++◌, map, ℕ}
use Rattle.block.specs.declared.lookahead.Lookahead.{Lookahead}
use Rattle.listed_block.specs.Cases.{mark_of}

abbrev pub marks_of : List Lookahead → List ℕ
marks_of = map (λ a. mark_of a.null)

-- the words of the sets, one behind the other
abbrev pub words_of : List Lookahead → List ℕ
words_of [] = []
words_of (a ∷ l) = a.set.words ++ words_of l
