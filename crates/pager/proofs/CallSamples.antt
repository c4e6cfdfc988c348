-- The call's definitions computed on document 01's G1: room and buffers that just fit, each one short, and too few states or items.
-- Assumes nothing.
use mathlib.Core.List.{List, [], ◌∷◌, ◌++◌, map}
use mathlib.Core.Path.{◌≡◌, refl}
use Prim.Native.Nat.{ℕ}
use lib.ListN.{replicate}
use Rattle.block.specs.Lists.{any, keep, change, same, settle, from, upto}
use Rattle.block.specs.Block.{body_of, prods_of}
use Rattle.block.specs.Sets.{bit, mem, empty, with, join, meets, seek, next_of, members}
use Rattle.block.specs.First.{behind, either, ahead_same, ahead_sym, ahead_of, add_prod, firsts_of}
use Rattle.block.specs.Refusal.{short_block, too_large, misplaced, lengths, good_production, bad_production, start_again, bad_start, good_symbol, bad_symbol, good_prec, bad_precedence, first_fault, refusal_of}
use Rattle.itemset.specs.Rows.{words_of, same_row}
use Rattle.itemset.specs.Close.{put, rest_of, handed, opening, give, close_of}
use Rattle.itemset.specs.Goto.{sight, sights_of, move, goto_of, gotos_of}
use Rattle.pager.specs.Lists.{is, refused, all, pairwise, find, each, walk}
use Rattle.pager.specs.Weak.{item_same, contexts, apart, compatible, union}
use Rattle.pager.specs.Place.{items, new, take_in, is_equal, is_weak, add_state, place_of}
use Rattle.pager.specs.Graph.{edge_at, edge_to, mark, place_edge, close_state, next_state, grow, start_state, graph_of}
use Rattle.pager.specs.Collect.{mark_to, spread, reach_of, rank, renumber, kept, collect_of}
use Rattle.pager.specs.Memory.{pad, item_words, spans_from, edge_words}
use Rattle.pager.specs.Call.{Buffers, lent, named, counted, some_less, room_short, turned_away, graph_call, leaves}

abbrev g1 : List ℕ
g1 = 2 ∷ 2 ∷ 2 ∷ 2 ∷ 1 ∷ 0 ∷ 9 ∷ 17 ∷ 19 ∷ 0 ∷ 0 ∷ 1 ∷ 0 ∷ 1 ∷ 1 ∷ 1 ∷ 0 ∷ 2 ∷ 1 ∷ 0 ∷ 0 ∷ []

-- buffers of so many words, each of them 7
abbrev sized : ℕ → ℕ → ℕ → ℕ → ℕ → ℕ → Buffers
sized i s e m c k = lent (replicate i 7) (replicate s 7) (replicate e 7) (replicate m 7) (replicate c 7) (replicate k 7)

-- S = 3 and I = 3 need just these
abbrev fit : Buffers
fit = sized 15 6 12 6 20 10

shorts : map (turned_away g1 (named 3 3))
    (fit
    ∷ sized 14 6 12 6 20 10
    ∷ sized 15 5 12 6 20 10
    ∷ sized 15 6 11 6 20 10
    ∷ sized 15 6 12 5 20 10
    ∷ sized 15 6 12 6 19 10
    ∷ sized 15 6 12 6 20 9
    ∷ [])
    ≡ 0 ∷ 7 ∷ 7 ∷ 7 ∷ 7 ∷ 7 ∷ 7 ∷ []
unfolding any upto from short_block too_large misplaced lengths good_production bad_production start_again bad_start good_symbol bad_symbol good_prec bad_precedence first_fault refusal_of some_less room_short turned_away
shorts = refl

-- S or I is 0; a bad block goes before
ranges : turned_away g1 (named 0 3) fit ∷ turned_away g1 (named 3 0) fit ∷ turned_away [] (named 0 0) fit ∷ [] ≡ 7 ∷ 7 ∷ 1 ∷ []
unfolding any upto from short_block too_large misplaced lengths good_production bad_production start_again bad_start good_symbol bad_symbol good_prec bad_precedence first_fault refusal_of some_less room_short turned_away
ranges = refl

-- three states are kept; two are too few, and two items
graphs : counted (graph_call g1 (named 3 3) fit) ∷ counted (graph_call g1 (named 2 3) fit) ∷ counted (graph_call g1 (named 3 2) fit) ∷ []
    ≡ is (record { states = 3; items = 3; before = 3 }) ∷ refused (8 ∷ []) ∷ refused (9 ∷ []) ∷ []
unfolding any keep change same settle from upto body_of prods_of bit mem empty with join meets seek next_of members behind either ahead_same ahead_sym ahead_of add_prod firsts_of short_block too_large misplaced lengths good_production bad_production start_again bad_start good_symbol bad_symbol good_prec bad_precedence first_fault refusal_of words_of same_row put rest_of handed opening give close_of sight sights_of move goto_of gotos_of all pairwise find each walk item_same contexts apart compatible union items new take_in is_equal is_weak add_state place_of edge_at edge_to mark place_edge close_state next_state grow start_state graph_of mark_to spread reach_of rank renumber kept collect_of some_less room_short turned_away graph_call
graphs = refl

-- and the buffers, with a word behind each named part
held : leaves g1 (named 3 3) (sized 16 7 13 7 21 11)
    ≡ lent (0 ∷ 2 ∷ 0 ∷ 0 ∷ 0 ∷ 1 ∷ 2 ∷ 0 ∷ 0 ∷ 0 ∷ 129 ∷ 2 ∷ 0 ∷ 0 ∷ 0 ∷ 7 ∷ []) (0 ∷ 1 ∷ 1 ∷ 1 ∷ 2 ∷ 1 ∷ 7 ∷ [])
    (0 ∷ 2 ∷ 3 ∷ 0 ∷ 0 ∷ 0 ∷ 0 ∷ 0 ∷ 0 ∷ 0 ∷ 0 ∷ 0 ∷ 7 ∷ []) (replicate 6 0 ++ (7 ∷ [])) (replicate 20 0 ++ (7 ∷ [])) (replicate 10 0 ++ (7 ∷ []))
unfolding any keep change same settle from upto body_of prods_of bit mem empty with join meets seek next_of members behind either ahead_same ahead_sym ahead_of add_prod firsts_of short_block too_large misplaced lengths good_production bad_production start_again bad_start good_symbol bad_symbol good_prec bad_precedence first_fault refusal_of words_of same_row put rest_of handed opening give close_of sight sights_of move goto_of gotos_of all pairwise find each walk item_same contexts apart compatible union items new take_in is_equal is_weak add_state place_of edge_at edge_to mark place_edge close_state next_state grow start_state graph_of mark_to spread reach_of rank renumber kept collect_of pad item_words spans_from edge_words some_less room_short turned_away leaves
held = refl

cleared : leaves g1 (named 2 3) (sized 16 5 9 5 21 11)
    ≡ lent (replicate 15 0 ++ (7 ∷ [])) (replicate 4 0 ++ (7 ∷ [])) (replicate 8 0 ++ (7 ∷ [])) (replicate 4 0 ++ (7 ∷ [])) (replicate 20 0 ++ (7 ∷ []))
    (replicate 10 0 ++ (7 ∷ []))
unfolding any keep change same settle from upto body_of prods_of bit mem empty with join meets seek next_of members behind either ahead_same ahead_sym ahead_of add_prod firsts_of short_block too_large misplaced lengths good_production bad_production start_again bad_start good_symbol bad_symbol good_prec bad_precedence first_fault refusal_of words_of same_row put rest_of handed opening give close_of sight sights_of move goto_of gotos_of all pairwise find each walk item_same contexts apart compatible union items new take_in is_equal is_weak add_state place_of edge_at edge_to mark place_edge close_state next_state grow start_state graph_of mark_to spread reach_of rank renumber kept collect_of pad item_words spans_from edge_words some_less room_short turned_away leaves
cleared = refl
