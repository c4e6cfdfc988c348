-- A state is closed, on the buffers. Assumes nothing.
use mathlib.Core.List.{List}
use Rattle.std.specs.Prelude.{Result}
use mathlib.Core.Path.{◌≡◌, refl, ◌∙◌}
use Prim.Native.Nat.{ℕ, ◌+◌, ◌*◌, ◌<◌, ◌≤◌}
use native.Mathlib.Omega.{arith}
use lib.ListN.{length, get_or, take, drop, set}
use Rattle.block.specs.Limits.{ITEM, PRODS, SYMBOLS}
use Rattle.block.specs.Lists.{change}
use Rattle.block.specs.Block.{prods, symbols}
use Rattle.block.specs.First.{firsts_of}
use Rattle.block.proofs.ListLaws.{change-size}
use Rattle.block.proofs.Good.{placed}
use Rattle.itemset.specs.Rows.{Row, Rows}
use Rattle.itemset.specs.Close.{close_of}
use Rattle.itemset.specs.Goto.{gotos_of}
use Rattle.itemset.specs.Lent.{ForClosure, Wrote}
use Rattle.itemset.proofs.Bounds.{rows_few}
use Rattle.itemset.proofs.Fuel.{close-rows}
use Rattle.itemset.proofs.GoodReady.{good-ready}
use Rattle.pager.specs.Lists.{walk}
use Rattle.pager.specs.Place.{State}
use Rattle.pager.specs.Graph.{nowhere, mark, place_edge, close_state}
use Rattle.pager.specs.Held.{Behind, limits_of}
use Rattle.pager.specs.Building.{Scratch, BuiltBy, Site, ForGotos, ForState}
use Rattle.pager.specs.declared.room.Room.{Room}
use Rattle.pager.specs.declared.room.Count.{Count}
use Rattle.pager.specs.declared.refusal.GraphRefusal.{GraphRefusal}
use Rattle.pager.proofs.Held.{marks-long, kernel-room, kernel-words}
use Rattle.pager.proofs.Drawn.{held-mark, same_count}
use Rattle.pager.proofs.Rooms.{wrote-front, wrote-scratch}

module _ {b : List ℕ} {room : Room} {count : Count} {n : ℕ} {closed kernel items spans edges marks : List ℕ} {ss : List State} {z : Behind}
    (S : ForState b room count n closed kernel items spans edges marks ss z) where
  abbrev K : List Row
  K = (get_or ss n nowhere).rows

  abbrev C : List Row
  C = close_of b (firsts_of b) K

  abbrev pub marked : Site
  marked = record { states = change mark n ss; behind = z; kernel = K }

  pub mark-inside : 2 * n + 1 < length marks
  mark-inside = let f = S.held.growing.few in omega (arith, S.there, marks-long S.held)

  pub rows_inside : (2 * n + 1 < length spans) × (ITEM * get_or spans (2 * n) 0 + ITEM * get_or spans (2 * n + 1) 0 ≤ length items)
  rows_inside = kernel-room S.held n S.there

  kernel-rows : Rows b K
  kernel-rows = (S.held.growing.state n S.there).rows

  closure-rows : Rows b C
  closure-rows = close-rows b (firsts_of b) (good-ready S.good) K kernel-rows

  few : length C ≤ symbols b + prods b
  few = rows_few b (firsts_of b) (good-ready S.good) C closure-rows

  pub for-closure : (ws : List ℕ) → ws ≡ take (ITEM * get_or spans (2 * n + 1) 0) (drop (ITEM * get_or spans (2 * n) 0) items)
      → ForClosure b ws closed K
  for-closure ws e =
      record {
        kernel = record { good = S.good; rows = kernel-rows; words = e ∙ (kernel-words S.held n S.there).words };
        room = S.room-closed;
      }

  module _ (k : ℕ) (closed' : List ℕ) (W : Wrote C k closed closed') where
    pub closed-few : k ≤ SYMBOLS + PRODS
    closed-few = let p = placed S.good in let a = p.symbols-most in let c = p.prods-most in omega (arith, few, W.count)

    pub closed-scratch : Scratch (ITEM * (symbols b + prods b)) closed closed'
    closed-scratch = wrote-scratch W closure-rows.sets (symbols b + prods b) few S.room-closed

    pub closed-fits : ITEM * k ≤ length closed'
    closed-fits = omega (arith, few, W.count, S.room-closed, closed-scratch.size)

    as_many : (st : State) → length (mark st).rows ≡ length st.rows
    unfolding mark
    as_many st = refl

    pub for-gotos : ForGotos b room count n (take (ITEM * k) closed') kernel items spans edges (set marks (2 * n + 1) 0) marked
    for-gotos =
        record {
          good = S.good;
          fair = S.fair;
          held = held-mark S.held n S.there;
          counts = S.counts ∙ same_count mark as_many n ss;
          there = omega (arith, S.there, change-size mark n ss);
          rows = kernel-rows;
          words = wrote-front W closure-rows.sets;
          space = S.room-kernel;
        }

  pub closes : (r : Result Count GraphRefusal) (i' s' e' m' : List ℕ) → BuiltBy (walk (place_edge b (limits_of room) n) (change mark n ss) (gotos_of b C)) b room r i' s' e' m' z
      → BuiltBy (close_state b (firsts_of b) (limits_of room) ss n) b room r i' s' e' m' z
  unfolding close_state
  closes r i' s' e' m' B = B
