-- Zeroed rooms are what `build_graph` asks for: of every good block, and of one that is written out. Assumes nothing.
use mathlib.Core.List.{List, [], ◌∷◌, ◌++◌}
use mathlib.Core.Path.{refl}
use Prim.Native.Nat.{ℕ, ◌+◌, ◌*◌, ◌≤◌}
use native.Mathlib.Omega.{arith}
use lib.ListN.{replicate, length-replicate}
use Rattle.block.specs.Limits.{ITEM}
use Rattle.block.specs.Block.{tokens, rules, prods, symbols}
use Rattle.block.specs.Lists.{any, upto, from}
use Rattle.block.specs.Refusal.{short_block, too_large, misplaced, lengths, good_production, bad_production, start_again, bad_start, good_symbol, bad_symbol, good_prec, bad_precedence, first_fault, refusal_of, Good}
use Rattle.pager.specs.Held.{Behind, Fair, limits_of}
use Rattle.pager.specs.Building.{Cleared}
use Rattle.pager.specs.declared.room.Room.{Room}

pub zeros-cleared : (b : List ℕ) (room : Room) (z : Behind) → Good b → Fair (limits_of room) → 1 ≤ room.states → 1 ≤ room.items
    → Cleared b room (replicate (ITEM * room.items) 0 ++ z.items) (replicate (2 * room.states) 0 ++ z.spans)
    (replicate (room.states * (rules b + tokens b)) 0 ++ z.edges) (replicate (2 * room.states) 0 ++ z.marks)
    (replicate (ITEM * (symbols b + prods b)) 0) (replicate (ITEM * symbols b) 0) z
zeros-cleared b room z g f s i =
    record {
      good = g;
      fair = f;
      some-states = s;
      some-items = i;
      items-is = refl;
      spans-is = refl;
      edges-is = refl;
      marks-is = refl;
      room-closed = omega (arith, length-replicate {A = ℕ} (ITEM * (symbols b + prods b)) 0);
      room-kernel = omega (arith, length-replicate {A = ℕ} (ITEM * symbols b) 0);
    }

-- document 01's G1, with room for 4 states and 4 items
abbrev g1 : List ℕ
g1 = 2 ∷ 2 ∷ 2 ∷ 2 ∷ 1 ∷ 0 ∷ 9 ∷ 17 ∷ 19 ∷ 0 ∷ 0 ∷ 1 ∷ 0 ∷ 1 ∷ 1 ∷ 1 ∷ 0 ∷ 2 ∷ 1 ∷ 0 ∷ 0 ∷ []

abbrev four : Room
four = record { states = 4; items = 4 }

abbrev nothing : Behind
nothing = record { items = []; spans = []; edges = []; marks = [] }

good-g1 : Good g1
unfolding any from upto short_block too_large misplaced lengths good_production bad_production start_again bad_start good_symbol bad_symbol good_prec bad_precedence first_fault refusal_of
good-g1 = record { unrefused = refl }

pub g1-cleared : (z : Behind) × Cleared g1 four (replicate (ITEM * 4) 0 ++ []) (replicate 8 0 ++ []) (replicate 16 0 ++ []) (replicate 8 0 ++ [])
    (replicate (ITEM * 4) 0) (replicate (ITEM * 2) 0) z
g1-cleared = (nothing, zeros-cleared g1 four nothing good-g1 (record { states = omega arith; items = omega arith }) (omega arith) (omega arith))
