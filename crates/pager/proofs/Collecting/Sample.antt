-- What `collect_states` requires can be met: G1 of document 01 with its start state. And what collection does with three states. Assumes nothing.
use mathlib.Core.Bool.{true}
use mathlib.Core.List.{List, [], ◌∷◌, ◌++◌}
use mathlib.Core.Path.{◌≡◌, refl}
use Prim.Native.Nat.{ℕ}
use native.Mathlib.Omega.{arith}
use lib.ListN.{replicate}
use Rattle.block.specs.Limits.{ITEM}
use Rattle.block.specs.Lists.{same, settle}
use Rattle.block.specs.Sets.{empty, with}
use Rattle.itemset.specs.Rows.{words_of}
use Rattle.pager.specs.Lists.{each}
use Rattle.pager.specs.Place.{State, Limits, new}
use Rattle.pager.specs.Graph.{start_state}
use Rattle.pager.specs.Collect.{mark_to, spread, reach_of, rank, renumber, kept, collect_of}
use Rattle.pager.specs.Memory.{pad, item_words, spans_from, edge_words, mark_words}
use Rattle.pager.specs.Held.{count_of}
use Rattle.pager.specs.CollectWhole.{Whole, Built}
use Rattle.pager.proofs.Growing.{growing-start}

abbrev g1 : List ℕ
g1 = 2 ∷ 2 ∷ 2 ∷ 2 ∷ 1 ∷ 0 ∷ 9 ∷ 17 ∷ 19 ∷ 0 ∷ 0 ∷ 1 ∷ 0 ∷ 1 ∷ 1 ∷ 1 ∷ 0 ∷ 2 ∷ 1 ∷ 0 ∷ 0 ∷ []

abbrev limits : Limits
limits = record { states = 2; items = 2 }

abbrev whole : Whole
whole =
    record {
      limits = limits;
      block = g1;
      states = start_state g1 ∷ [];
      behind = record { items = 7 ∷ []; spans = 7 ∷ []; edges = 7 ∷ []; marks = 7 ∷ [] };
    }

pub sample-built : Built (count_of (start_state g1 ∷ [])) 4 (0 ∷ with empty 1 ++ replicate ITEM 0 ++ (7 ∷ [])) (0 ∷ 1 ∷ 0 ∷ 0 ∷ 7 ∷ [])
    (0 ∷ 0 ∷ 0 ∷ 0 ∷ 0 ∷ 0 ∷ 0 ∷ 0 ∷ 7 ∷ []) (0 ∷ 1 ∷ 0 ∷ 0 ∷ 7 ∷ []) whole
unfolding pad item_words spans_from edge_words mark_words each words_of start_state new with empty
sample-built =
    record {
      fair = record { states = omega arith; items = omega arith };
      held =
          record {
            growing = growing-start g1 limits (omega arith) (omega arith) (omega arith);
            items-is = refl;
            spans-is = refl;
            edges-is = refl;
            marks-is = refl;
          };
      counts-are = refl;
      width_is = refl;
    }

-- state 0 has an edge to state 2, and state 1 one to state 0: state 1 is not kept, and state 2 becomes state 1
abbrev state : ℕ → List ℕ → State
state made edges = record { made = made; rows = []; edges = edges; closed = true }

pub sample-collected : collect_of (state 0 (0 ∷ 3 ∷ []) ∷ state 2 (1 ∷ 0 ∷ []) ∷ state 3 (3 ∷ 1 ∷ []) ∷ [])
    ≡ state 0 (0 ∷ 2 ∷ []) ∷ state 3 (2 ∷ 1 ∷ []) ∷ []
unfolding collect_of reach_of settle same spread mark_to kept renumber rank
sample-collected = refl
