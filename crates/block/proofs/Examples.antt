-- The definitions of the checks and of the two queries, computed on small blocks. Assumes nothing.
use mathlib.Core.List.{List, [], ◌∷◌, ◌++◌, map}
use mathlib.Core.Path.{◌≡◌, refl}
use Prim.Native.Nat.{ℕ}
use Rattle.block.specs.Lists.{any, upto, from}
use Rattle.block.specs.Block.{body_of}
use Rattle.block.specs.Refusal.{short_block, too_large, misplaced, lengths, good_production, bad_production, start_again, bad_start, good_symbol, bad_symbol, good_prec, bad_precedence, first_fault, refusal_of, body_refusal, body_part}

-- document 01's G1, with its header and each of its parts open to change
abbrev block : List ℕ → List ℕ → List ℕ → List ℕ → List ℕ
block h ps ss ts = h ++ ps ++ ss ++ ts

abbrev header : List ℕ
header = 2 ∷ 2 ∷ 2 ∷ 2 ∷ 1 ∷ 0 ∷ 9 ∷ 17 ∷ 19 ∷ []

abbrev two : List ℕ
two = 0 ∷ 0 ∷ 1 ∷ 0 ∷ 1 ∷ 1 ∷ 1 ∷ 0 ∷ []

abbrev g1 : List ℕ
g1 = block header two (2 ∷ 1 ∷ []) (0 ∷ 0 ∷ [])

abbrev samples : List (List ℕ × ℕ)
samples =
    (g1, 0)
    ∷ ([], 1)
    ∷ (2 ∷ 2 ∷ 2 ∷ 2 ∷ 1 ∷ 0 ∷ 9 ∷ 17 ∷ [], 1)
    ∷ (block header two (2 ∷ 1 ∷ []) (0 ∷ []), 1)
    ∷ (g1 ++ (0 ∷ []), 1)
    ∷ (block (2 ∷ 2 ∷ 2 ∷ 2 ∷ 1 ∷ 0 ∷ 9 ∷ 18 ∷ 19 ∷ []) two (2 ∷ 1 ∷ []) (0 ∷ 0 ∷ []), 1)
    ∷ (block (257 ∷ 2 ∷ 2 ∷ 2 ∷ 1 ∷ 0 ∷ 9 ∷ 17 ∷ 19 ∷ []) two (2 ∷ 1 ∷ []) (0 ∷ 0 ∷ []), 2)
    ∷ (block (2 ∷ 2 ∷ 2 ∷ 4294967295 ∷ 1 ∷ 0 ∷ 9 ∷ 17 ∷ 19 ∷ []) two (2 ∷ 1 ∷ []) (0 ∷ 0 ∷ []), 2)
    ∷ (block header (2 ∷ 0 ∷ 1 ∷ 0 ∷ 1 ∷ 1 ∷ 1 ∷ 0 ∷ []) (2 ∷ 1 ∷ []) (0 ∷ 0 ∷ []), 3)
    ∷ (block header (0 ∷ 0 ∷ 1 ∷ 0 ∷ 1 ∷ 0 ∷ 1 ∷ 0 ∷ []) (2 ∷ 1 ∷ []) (0 ∷ 0 ∷ []), 3)
    ∷ (block header (0 ∷ 0 ∷ 1 ∷ 0 ∷ 1 ∷ 1 ∷ 0 ∷ 0 ∷ []) (2 ∷ 1 ∷ []) (0 ∷ 0 ∷ []), 3)
    ∷ (block (2 ∷ 2 ∷ 2 ∷ 2 ∷ 2 ∷ 0 ∷ 9 ∷ 17 ∷ 19 ∷ []) two (2 ∷ 1 ∷ []) (0 ∷ 0 ∷ []), 4)
    ∷ (block (2 ∷ 2 ∷ 2 ∷ 2 ∷ 1 ∷ 1 ∷ 9 ∷ 17 ∷ 19 ∷ []) (0 ∷ 0 ∷ 1 ∷ 0 ∷ 0 ∷ 1 ∷ 1 ∷ 0 ∷ []) (1 ∷ 2 ∷ []) (0 ∷ 0 ∷ []), 4)
    ∷ (block header two (1 ∷ 1 ∷ []) (0 ∷ 0 ∷ []), 4)
    ∷ (block header two (4 ∷ 1 ∷ []) (0 ∷ 0 ∷ []), 5)
    ∷ (block header two (0 ∷ 1 ∷ []) (0 ∷ 0 ∷ []), 5)
    ∷ (block header two (2 ∷ 3 ∷ []) (0 ∷ 0 ∷ []), 5)
    ∷ (block header (0 ∷ 0 ∷ 1 ∷ 4 ∷ 1 ∷ 1 ∷ 1 ∷ 0 ∷ []) (2 ∷ 1 ∷ []) (0 ∷ 0 ∷ []), 6)
    ∷ (block header two (2 ∷ 1 ∷ []) (0 ∷ 262145 ∷ []), 6)
    ∷ (block header two (2 ∷ 1 ∷ []) (1 ∷ 262143 ∷ []), 0)
    ∷ []

refusals : map (λ c. refusal_of c.0) samples ≡ map (λ c. c.1) samples
unfolding any upto from short_block too_large misplaced lengths good_production bad_production start_again bad_start good_symbol bad_symbol good_prec bad_precedence first_fault refusal_of
refusals = refl

bodies : map (body_part g1) (0 ∷ 1 ∷ 2 ∷ []) ≡ (2 ∷ []) ∷ (1 ∷ []) ∷ [] ∷ []
unfolding any upto from short_block too_large misplaced lengths good_production bad_production start_again bad_start good_symbol bad_symbol good_prec bad_precedence first_fault refusal_of body_of body_refusal body_part
bodies = refl

whys : map (body_refusal g1) (0 ∷ 1 ∷ 2 ∷ []) ≡ 0 ∷ 0 ∷ 18 ∷ []
unfolding any upto from short_block too_large misplaced lengths good_production bad_production start_again bad_start good_symbol bad_symbol good_prec bad_precedence first_fault refusal_of body_refusal
whys = refl
