-- What owning a token set tells of its words: from a parameter's `.good` or a result's `.ok`. Assumes nothing.
use mathlib.Core.List.{List, [], ◌∷◌}
use Prim.Native.Nat.{ℕ, zero, suc}
use native.Mathlib.Omega.{arith}
use mir.Val.{Val}
use denote.Array.{each}
use denote.Shadow.{shadow}
use denote.Struct.Declared.{row}
use denote.Struct.Field.{u64-field, array_field}
use Rattle.block.specs.Limits.{WORDS}
use Rattle.block.specs.declared.set.TokenSet.{TokenSet}
use Rattle.block.specs.Sets.{Words, Fits}
use Rattle.block.specs.contracts.set.TokenSet.{the_type}

words-below : (xs : List ℕ) (us : List Val) → shadow (each ℕ u64-field.row.own_val xs us) → Words xs
words-below [] us s i = omega arith
words-below (x ∷ xs) [] s i = absurd s
words-below (x ∷ xs) (u ∷ us) s zero = s.0.1
words-below (x ∷ xs) (u ∷ us) s (suc i) = words-below xs us s.1 i

-- a field of n words: of field number j of a struct `.good .0` is given as `.good .0 .1 .1`, `.1` j times, `.0`
pub words-good : (n : ℕ) (xs : List ℕ) (vs : List Val) → shadow ((array_field u64-field n).row.own_val xs vs) → Fits n xs
words-good n xs vs s = (s.1.0.1, words-below xs s.0 s.1.1)

-- a token set as a whole
pub set-good : (x : TokenSet) (vs : List Val) → shadow ((row the_type).own_val x vs) → Fits WORDS x.words
set-good x vs s = words-good WORDS x.words s.0.0 s.1.1.0
