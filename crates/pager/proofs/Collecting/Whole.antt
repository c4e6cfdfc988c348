-- Collection on the whole buffers: the parts that hold the states are taken out, and put back. Assumes nothing.
use mathlib.Core.List.{List, [], ◌++◌}
use mathlib.Core.Path.{◌≡◌, sym, ap, ◌∙◌}
use Prim.Native.Nat.{ℕ, ◌+◌, ◌*◌, ◌≤◌}
use native.Mathlib.Nat.{mul-le-mul_right}
use native.Mathlib.Omega.{arith}
use lib.ListN.{length, take, drop}
use lib.Seq.{length-take-le}
use Rattle.block.specs.Limits.{ITEM}
use Rattle.block.specs.Block.{tokens, rules}
use Rattle.pager.specs.Place.{State, Limits, items}
use Rattle.pager.specs.Collect.{collect_of}
use Rattle.pager.specs.Memory.{item_words, spans_from, edge_words, mark_words}
use Rattle.pager.specs.Growing.{Growing}
use Rattle.pager.specs.Collecting.{Shaped, Parts, Left}
use Rattle.pager.specs.CollectWhole.{Whole, Built, Collected}
use Rattle.pager.specs.declared.room.Count.{Count}
use Rattle.pager.proofs.Collecting.Clear.{clear-zeros}
use Rattle.pager.proofs.Collecting.Prefix.{prefix-in, prefix-is, prefix_back}
use Rattle.pager.proofs.Ranks.{rule-7}
use Rattle.pager.proofs.Collected.{growing-edges, growing-collected}
use Rattle.pager.proofs.Memory.{items-length, spans-length, marks-length, growing-sets}
use Rattle.pager.proofs.Collecting.StateWords.{edges-length}

shaped : {b : List ℕ} {m : Limits} {ss : List State} → Growing b m ss → (w : ℕ) → w ≡ rules b + tokens b → Shaped w ss
shaped {b} {m} {ss} G w e = record { some = G.first; wide = λ n l. (G.state n l).width ∙ sym e; low = (growing-edges b m ss G).low }

-- where the parts end
pub record Sizes (cs : Count) (width : ℕ) (its spans edges marks : List ℕ) : Type 0 where
  pub items-in : ITEM * cs.items ≤ length its
  pub spans-in : 2 * cs.states ≤ length spans
  pub edges-in : cs.states * width ≤ length edges
  pub marks-in : 2 * cs.states ≤ length marks

module _ {cs : Count} {width : ℕ} {its spans edges marks : List ℕ} (v : Whole) (H : Built cs width its spans edges marks v) where
  abbrev ss : List State
  ss = v.states

  abbrev m : Limits
  m = v.limits

  abbrev rr : List State
  rr = collect_of ss

  abbrev w : ℕ
  w = rules v.block + tokens v.block

  G : Growing v.block m ss
  G = H.held.growing

  S : Shaped width ss
  S = shaped G width H.width_is

  states-are : cs.states ≡ length ss
  states-are = ap (λ c. c.states) H.counts-are

  items-are : cs.items ≡ items ss
  items-are = ap (λ c. c.items) H.counts-are

  items-k : length (item_words ss) ≡ ITEM * cs.items
  items-k = omega (arith, items-length ss (growing-sets G), items-are)

  spans-k : length (spans_from 0 ss) ≡ 2 * cs.states
  spans-k = omega (arith, spans-length 0 ss, states-are)

  edges-k : length (edge_words ss) ≡ cs.states * width
  edges-k = edges-length S ∙ ap (λ n. n * width) (sym states-are)

  marks-k : length (mark_words ss) ≡ 2 * cs.states
  marks-k = omega (arith, marks-length ss, states-are)

  pub built-sizes : Sizes cs width its spans edges marks
  built-sizes =
      record {
        items-in = prefix-in (ITEM * m.items) (ITEM * cs.items) (item_words ss) v.behind.items its H.held.items-is items-k;
        spans-in = prefix-in (2 * m.states) (2 * cs.states) (spans_from 0 ss) v.behind.spans spans H.held.spans-is spans-k;
        edges-in = prefix-in (m.states * w) (cs.states * width) (edge_words ss) v.behind.edges edges H.held.edges-is edges-k;
        marks-in = prefix-in (2 * m.states) (2 * cs.states) (mark_words ss) v.behind.marks marks H.held.marks-is marks-k;
      }

  marks-part : length (take (2 * cs.states) marks) ≡ 2 * length ss
  marks-part = omega (arith, length-take-le (2 * cs.states) marks built-sizes.marks-in, states-are)

  pub built-parts : Parts width ss (take (ITEM * cs.items) its) (take (2 * cs.states) spans) (take (cs.states * width) edges) (take (2 * cs.states) marks)
  built-parts =
      record {
        few = let h = G.few in let f = H.fair.states in omega arith;
        item-part =
            record {
              sets = growing-sets G;
              items-is = prefix-is (ITEM * m.items) (ITEM * cs.items) (item_words ss) v.behind.items its H.held.items-is items-k;
              spans-is = prefix-is (2 * m.states) (2 * cs.states) (spans_from 0 ss) v.behind.spans spans H.held.spans-is spans-k;
              marks-long = marks-part;
            };
        edge-part =
            record {
              shaped = S;
              edges-is = prefix-is (m.states * w) (cs.states * width) (edge_words ss) v.behind.edges edges H.held.edges-is edges-k;
              marks-long = marks-part;
            };
      }

  -- what is left is no more
  H' : Growing v.block m rr
  H' = growing-collected v.block m ss G

  T : Shaped width rr
  T = shaped H' width H.width_is

  fewer : length rr ≤ length ss
  fewer = (rule-7 ss (growing-edges v.block m ss G)).few

  items-fewer : length (item_words rr) ≤ ITEM * cs.items
  items-fewer = omega (arith, items-length rr (growing-sets H'), items-are, (rule-7 ss (growing-edges v.block m ss G)).fit)

  spans-fewer : length (spans_from 0 rr) ≤ 2 * cs.states
  spans-fewer = omega (arith, spans-length 0 rr, states-are, fewer)

  edges-fewer : length (edge_words rr) ≤ cs.states * width
  edges-fewer = omega (arith, edges-length T, edges-length S, edges-k, mul-le-mul_right {m = length rr} {n = length ss} width fewer)

  edges_fit : cs.states * width ≤ m.states * w
  edges_fit =
      rw (← H.width_is, states-are) (mul-le-mul_right {m = length ss} {n = m.states} width G.few)

  module _ {r : Count} {its' spans' edges' marks' : List ℕ}
      (L : Left rr (take (ITEM * cs.items) its) (take (2 * cs.states) spans) (take (cs.states * width) edges) (take (2 * cs.states) marks) r its' spans'
      edges' marks') where
    pub collected : Collected r (its' ++ drop (ITEM * cs.items) its) (spans' ++ drop (2 * cs.states) spans) (edges' ++ drop (cs.states * width) edges)
        (marks' ++ drop (2 * cs.states) marks) v
    collected =
        record {
          answer = L.items_left.answer;
          items-are =
              prefix_back (ITEM * m.items) (ITEM * cs.items) (item_words ss) v.behind.items its H.held.items-is items-k
              (omega (arith, items-are, G.fit)) (item_words rr) its' items-fewer L.items_left.items-are;
          spans-are =
              prefix_back (2 * m.states) (2 * cs.states) (spans_from 0 ss) v.behind.spans spans H.held.spans-is spans-k
              (omega (arith, states-are, G.few)) (spans_from 0 rr) spans' spans-fewer L.items_left.spans-are;
          edges_are =
              prefix_back (m.states * w) (cs.states * width) (edge_words ss) v.behind.edges edges H.held.edges-is edges-k edges_fit
              (edge_words rr) edges' edges-fewer L.edges_are;
          marks-are =
              prefix_back (2 * m.states) (2 * cs.states) (mark_words ss) v.behind.marks marks H.held.marks-is marks-k
              (omega (arith, states-are, G.few)) [] marks' (omega arith) L.marks-are
              ∙ ap (λ l. l ++ v.behind.marks) (clear-zeros (2 * m.states) []);
        }
