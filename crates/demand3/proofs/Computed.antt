-- The samples' statement, proved by computing the definitions. Assumes nothing.
use mathlib.Core.Path.{refl}
use Rattle.block.specs.Lists.{any, keep, change, same, settle, from, upto}
use Rattle.block.specs.Block.{body_of, prods_of}
use Rattle.block.specs.Sets.{bit, mem, empty, with, join, meets, members}
use Rattle.block.specs.First.{behind, either, ahead_same, ahead_sym, ahead_of, add_prod, firsts_of}
use Rattle.block.specs.Refusal.{short_block, too_large, misplaced, lengths, good_production, bad_production, start_again, bad_start, good_symbol, bad_symbol, good_prec, bad_precedence, first_fault, refusal_of}
use Rattle.itemset.specs.Rows.{words_of, same_row}
use Rattle.itemset.specs.Close.{put, rest_of, handed, opening, give, close_of}
use Rattle.itemset.specs.Goto.{sight, sights_of, move, goto_of, gotos_of}
use Rattle.pager.specs.Lists.{all, pairwise, find, each, walk}
use Rattle.pager.specs.Weak.{item_same, contexts, apart, compatible, union}
use Rattle.pager.specs.Place.{items, new, take_in, is_equal, is_weak, add_state, place_of}
use Rattle.pager.specs.Graph.{edge_at, edge_to, mark, place_edge, close_state, next_state, grow, start_state, graph_of}
use Rattle.pager.specs.Collect.{mark_to, spread, reach_of, rank, renumber, kept, collect_of}
use Rattle.pager.specs.Memory.{pad, item_words, spans_from, edge_words}
use Rattle.pager.specs.Call as graph
use Rattle.statetable.specs.Cell.{decode, encode}
use Rattle.statetable.specs.Verdict.{resolve}
use Rattle.statetable.specs.Events.{of_row, of_edges, events_of}
use Rattle.statetable.specs.Cells as cells
use Rattle.statetable.specs.Marks.{core_marks, reduce_only}
use Rattle.statetable.specs.Build as build
use Rattle.machine.specs.Call as machine
use Rattle.demand3.specs.SampleList.{ClaimSamples}

pub all-samples : ClaimSamples
unfolding any keep change same settle from upto body_of prods_of bit mem empty with join meets members behind either ahead_same ahead_sym ahead_of add_prod firsts_of short_block too_large misplaced lengths good_production bad_production start_again bad_start good_symbol bad_symbol good_prec bad_precedence first_fault refusal_of words_of same_row put rest_of handed opening give close_of sight sights_of move goto_of gotos_of all pairwise find each walk item_same contexts apart compatible union items new take_in is_equal is_weak add_state place_of edge_at edge_to mark place_edge close_state next_state grow start_state graph_of mark_to spread reach_of rank renumber kept collect_of pad item_words spans_from edge_words graph.some_less graph.room_short decode encode resolve of_row of_edges events_of cells.settle cells.fill cells.fill_state cells.fill_next cells.cells_of core_marks reduce_only build.tables_short build.turned_away build.build_of build.build_call build.leaves machine.room_short machine.turned_away machine.bad_token machine.machine_of machine.run_call
all-samples = refl
