-- What the code of rule 4 answers: what is behind a dot, and the symbols sighted. Assumes nothing.
use Rattle.std.specs.Prelude.{Bool, false, Option, Some, None, List, [], ◌∷◌, ◌++◌, ◌≡◌, ℕ, ◌+◌, ◌-◌, ◌*◌, eqb, length, replicate}
use Rattle.block.specs.Limits.{RULES, TOKENS}
use Rattle.itemset.specs.declared.goto.Sights.{Sights}

-- most symbols
abbrev pub SIGHTS : ℕ
SIGHTS = RULES + TOKENS

-- above the number of every symbol
abbrev pub NUMBERS : ℕ
NUMBERS = 2 * SIGHTS

-- the symbol in front of a rest, if one is there
abbrev pub after_of : List ℕ → Option ℕ
after_of [] = None
after_of (x ∷ w) = Some x

abbrev pub is_next : List ℕ → ℕ → Bool
is_next [] x = false
is_next (y ∷ w) x = eqb y x

-- the symbols xs, and zeros behind them
pub record SightsAre (r : Sights) (xs : List ℕ) : Type 0 where
  pub count : r.count ≡ length xs
  pub symbols : r.symbols ≡ xs ++ replicate (SIGHTS - length xs) 0
