-- Rule 1 on three small blocks, by computation. Assumes nothing.
use mathlib.Core.Bool.{true, false}
use mathlib.Core.List.{List, [], ◌∷◌, map}
use mathlib.Core.Path.{◌≡◌, refl}
use Prim.Native.Nat.{ℕ}
use Rattle.block.specs.Lists.{any, change, same, settle, from, upto}
use Rattle.block.specs.Block.{body_of}
use Rattle.block.specs.Refusal.{short_block, too_large, misplaced, lengths, good_production, bad_production, start_again, bad_start, good_symbol, bad_symbol, good_prec, bad_precedence, first_fault, refusal_of}
use Rattle.block.specs.Sets.{empty, with, join}
use Rattle.block.specs.First.{Ahead, ahead, behind, either, ahead_same, ahead_sym, ahead_of, add_prod, firsts_of}

-- document 01's G1: 0 → 1, 1 → a
abbrev g1 : List ℕ
g1 = 2 ∷ 2 ∷ 2 ∷ 2 ∷ 1 ∷ 0 ∷ 9 ∷ 17 ∷ 19 ∷ 0 ∷ 0 ∷ 1 ∷ 0 ∷ 1 ∷ 1 ∷ 1 ∷ 0 ∷ 2 ∷ 1 ∷ 0 ∷ 0 ∷ []

-- an empty body: 0 → 1, 1 → 2 2, 1 → 2 b, 2 → , 2 → a
abbrev hollow : List ℕ
hollow =
    3 ∷ 3 ∷ 5 ∷ 6 ∷ 2 ∷ 0 ∷ 9 ∷ 29 ∷ 35 ∷ 0 ∷ 0 ∷ 1 ∷ 0 ∷ 1 ∷ 1 ∷ 2 ∷ 0 ∷ 1 ∷ 3 ∷ 2 ∷ 0 ∷ 2 ∷ 5 ∷ 0 ∷ 0 ∷ 2 ∷ 5 ∷ 1 ∷ 0 ∷ 2 ∷ 4 ∷ 4 ∷ 4 ∷ 3 ∷ 1 ∷ 0 ∷ 0 ∷ 0 ∷ []

-- a rule without production: 0 → 1, 1 → 2 a, 1 → b
abbrev barren : List ℕ
barren = 3 ∷ 3 ∷ 3 ∷ 4 ∷ 2 ∷ 0 ∷ 9 ∷ 21 ∷ 25 ∷ 0 ∷ 0 ∷ 1 ∷ 0 ∷ 1 ∷ 1 ∷ 2 ∷ 0 ∷ 1 ∷ 3 ∷ 1 ∷ 0 ∷ 2 ∷ 4 ∷ 1 ∷ 3 ∷ 0 ∷ 0 ∷ 0 ∷ []

-- the blocks, each with what its rules have ahead
abbrev samples : List (List ℕ × List Ahead)
samples =
    (g1, ahead false (with empty 0) ∷ ahead false (with empty 0) ∷ [])
    ∷ (hollow, ahead true (with (with empty 0) 1) ∷ ahead true (with (with empty 0) 1) ∷ ahead true (with empty 0) ∷ [])
    ∷ (barren, ahead false (with empty 1) ∷ ahead false (with empty 1) ∷ ahead false empty ∷ [])
    ∷ []

pub samples-good : map (λ c. refusal_of c.0) samples ≡ 0 ∷ 0 ∷ 0 ∷ []
unfolding any from upto short_block too_large misplaced lengths good_production bad_production start_again bad_start good_symbol bad_symbol good_prec bad_precedence first_fault refusal_of
samples-good = refl

pub samples-first : map (λ c. firsts_of c.0) samples ≡ map (λ c. c.1) samples
unfolding change same settle from upto body_of empty with join behind either ahead_same ahead_sym ahead_of add_prod firsts_of
samples-first = refl

-- a rest: b behind two rules that may be empty
pub sample-rest : ahead_of (firsts_of hollow) (4 ∷ 4 ∷ 3 ∷ []) ≡ ahead false (with (with empty 0) 1)
unfolding change same settle from upto body_of empty with join behind either ahead_same ahead_sym ahead_of add_prod firsts_of
sample-rest = refl
