-- What `place` requires can be met: G1 of document 01 with its start state, and the goto kernel of token 0. Assumes nothing.
use mathlib.Core.List.{List, [], ◌∷◌, ◌++◌}
use mathlib.Core.Logic.{inl, inr}
use mathlib.Core.Path.{◌≡◌, refl, sym, subst}
use Prim.Native.Nat.{ℕ}
use native.Mathlib.Omega.{arith}
use lib.ListN.{replicate}
use Rattle.block.specs.Limits.{WORDS, ITEM}
use Rattle.block.specs.Sets.{empty, with}
use Rattle.block.proofs.SetLaws.{empty-fits, with-fits}
use Rattle.itemset.specs.Rows.{Row, row, words_of, Item}
use Rattle.pager.specs.Lists.{find, each, is, refused}
use Rattle.pager.specs.Place.{items, new, is_equal, is_weak, add_state, place_of}
use Rattle.pager.specs.Graph.{start_state}
use Rattle.pager.specs.Memory.{pad, item_words, spans_from, edge_words, mark_words}
use Rattle.pager.specs.Growing.{Arriving}
use Rattle.pager.specs.Held.{View, Ready, limits_of, count_of}
use Rattle.pager.specs.declared.room.Room.{Room}
use Rattle.pager.proofs.Growing.{growing-start}

abbrev g1 : List ℕ
g1 = 2 ∷ 2 ∷ 2 ∷ 2 ∷ 1 ∷ 0 ∷ 9 ∷ 17 ∷ 19 ∷ 0 ∷ 0 ∷ 1 ∷ 0 ∷ 1 ∷ 1 ∷ 1 ∷ 0 ∷ 2 ∷ 1 ∷ 0 ∷ 0 ∷ []

-- production 1 with its dot behind token 0, which is symbol 1
abbrev kernel : List Row
kernel = row 129 (with empty 1) ∷ []

abbrev room : Room
room = record { states = 2; items = 2 }

abbrev view : View
view =
    record {
      block = g1;
      states = start_state g1 ∷ [];
      edges = 0 ∷ 0 ∷ 0 ∷ 0 ∷ 0 ∷ 0 ∷ 0 ∷ 0 ∷ 7 ∷ [];
      behind = record { items = 7 ∷ []; spans = 7 ∷ []; edges = 7 ∷ []; marks = 7 ∷ [] };
      kernel = kernel;
      symbol = 1;
    }

item-129 : (k : ℕ) → k ≡ 129 → Item g1 k
item-129 k e = subst (Item g1) (sym e) (record { prod = omega arith; dot = omega arith })

arriving : Arriving g1 1 kernel
arriving =
    record {
      rows =
          record {
            ascend = (omega arith, tt);
            sets = (with-fits WORDS empty 1 empty-fits, tt);
            items = λ k m. elim m [ inl e ↦ item-129 k e | inr z ↦ absurd z ];
          };
      some = omega arith;
      dots = λ k m. elim m [ inl e ↦ omega arith | inr z ↦ absurd z ];
      known = omega arith;
    }

pub sample-ready : Ready room (count_of (start_state g1 ∷ [])) 2 (129 ∷ with empty 1)
    (0 ∷ with empty 1 ++ replicate ITEM 0 ++ (7 ∷ [])) (0 ∷ 1 ∷ 0 ∷ 0 ∷ 7 ∷ []) (0 ∷ 1 ∷ 0 ∷ 0 ∷ 7 ∷ []) view
unfolding pad item_words spans_from edge_words mark_words each words_of start_state new with empty
sample-ready =
    record {
      fair = record { states = omega arith; items = omega arith };
      held =
          record {
            growing = growing-start g1 (limits_of room) (omega arith) (omega arith) (omega arith);
            items-is = refl;
            spans-is = refl;
            edges-is = refl;
            marks-is = refl;
          };
      arriving = arriving;
      words = refl;
      symbol = refl;
      counts = refl;
    }

-- and it becomes state 1; with room for one state, or for one item, it is refused
pub sample-placed : place_of g1 (limits_of room) (start_state g1 ∷ []) 1 kernel ≡ is (1, start_state g1 ∷ new g1 2 kernel ∷ [])
unfolding place_of add_state find is_equal is_weak start_state new items
sample-placed = refl

pub sample-states : place_of g1 (record { states = 1; items = 2 }) (start_state g1 ∷ []) 1 kernel ≡ refused (8 ∷ [])
unfolding place_of add_state find is_equal is_weak start_state new items
sample-states = refl

pub sample-items : place_of g1 (record { states = 2; items = 1 }) (start_state g1 ∷ []) 1 kernel ≡ refused (9 ∷ [])
unfolding place_of add_state find is_equal is_weak start_state new items
sample-items = refl
