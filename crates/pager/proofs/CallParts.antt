-- What `make` and `finish` leave, from what the calls in them leave. Assumes nothing.
use mathlib.Core.List.{List, [], ◌∷◌, ◌++◌}
use Rattle.std.specs.Prelude.{Result, Ok, Err}
use mathlib.Core.Path.{◌≡◌, refl, sym, ap, ◌∙◌, subst}
use Prim.Native.Nat.{ℕ, ◌+◌, ◌*◌, ◌≤◌}
use lib.ListN.{length, replicate}
use Rattle.block.specs.Limits.{ITEM}
use Rattle.block.specs.Block.{tokens, rules}
use Rattle.pager.specs.Lists.{Answer, is, refused}
use Rattle.pager.specs.Place.{State, items}
use Rattle.pager.specs.Collect.{collect_of}
use Rattle.pager.specs.Memory.{item_words, spans_from, edge_words}
use Rattle.pager.specs.Held.{Behind, Held, limits_of, count_of, number_of}
use Rattle.pager.specs.Building.{Scratch, Cleared, BuiltBy}
use Rattle.pager.specs.CollectWhole as collect
use Rattle.pager.specs.Call.{Buffers, item_part, span_part, edge_part, counted, zeroed, output}
use Rattle.pager.specs.CallSteps.{Roomy, behind_of, Outcome, Unfinished, Finished}
use Rattle.pager.specs.declared.room.Room.{Room}
use Rattle.pager.specs.declared.room.Count.{Count}
use Rattle.pager.specs.declared.refusal.GraphRefusal.{GraphRefusal}
use Rattle.pager.proofs.CallLaws.{items-clear, spans-clear, edges-clear, marks-clear}

-- ---- make
pub cleared : {b : List ℕ} {room : Room} {l : Buffers} → Roomy b room l → (w : ℕ) → w ≡ rules b + tokens b → (i s e k : List ℕ)
    → i ≡ zeroed (ITEM * room.items) l.items → s ≡ zeroed (2 * room.states) l.spans → e ≡ zeroed (room.states * w) l.edges
    → k ≡ zeroed (2 * room.states) l.marks
    → Cleared b room i s e k l.closed l.kernel (behind_of b (limits_of room) l.items l.spans l.edges l.marks)
cleared {room = room} {l = l} R w q i s e k pi ps pe pk =
    record {
      good = R.good;
      fair = R.fair;
      some-states = R.some-states;
      some-items = R.some-items;
      items-is = pi;
      spans-is = ps;
      edges-is = pe ∙ ap (λ (n : ℕ). zeroed (room.states * n) l.edges) q;
      marks-is = pk;
      room-closed = R.closed;
      room-kernel = R.kernel;
    }

-- room that was used as it liked is zero again
pub scratched : (n k : ℕ) (before mid after : List ℕ) → k ≡ n → Scratch n before mid → after ≡ zeroed k mid → after ≡ zeroed n before
scratched n k before mid after q S e =
    e ∙ ap (λ (j : ℕ). zeroed j mid) q ∙ ap (λ (x : List ℕ). replicate n 0 ++ x) S.behind

-- ---- finish
-- where it stopped, some states are held, and this is the refusal
abbrev Stop : List ℕ → Behind → Room → GraphRefusal → List ℕ → List ℕ → List ℕ → List ℕ → Answer (List State) → Type 0
Stop b z room y i s e k a = (ss : List State) × Held b (limits_of room) ss z i s e k × (a ≡ refused (number_of y ∷ []))

-- where it did not, the states are those of the graph
abbrev Go : List ℕ → Behind → Room → Count → List ℕ → List ℕ → List ℕ → List ℕ → Answer (List State) → Type 0
Go b z room made i s e k a = (ss : List State) × Held b (limits_of room) ss z i s e k × (made ≡ count_of ss) × (a ≡ is ss)

module _ (room : Room) (i s e k : List ℕ) (b : List ℕ) (z : Behind) where
  stop-of : (y : GraphRefusal) (a : Answer (List State)) → BuiltBy a b room (Err y) i s e k z → Stop b z room y i s e k a
  stop-of y (is ss) B = absurd B
  stop-of y (refused why) B = (B.states, B.held, ap refused B.is)

  go-of : (made : Count) (a : Answer (List State)) → BuiltBy a b room (Ok made) i s e k z → Go b z room made i s e k a
  go-of made (is ss) B = (ss, B.held, B.counts, refl)
  go-of made (refused why) B = absurd B

module _ {room : Room} {width : ℕ} {r : Result Count GraphRefusal} {i s e k : List ℕ} where
  module _ (v : Outcome) (U : Unfinished room width r i s e k v) where
    module _ (y : GraphRefusal) (q : r ≡ Err y) where
      stop : Stop v.block v.behind room y i s e k v.graph
      stop = stop-of room i s e k v.block v.behind y v.graph (subst (λ (x : Result Count GraphRefusal). BuiltBy v.graph v.block room x i s e k v.behind) q U.built)

      pub stop-long : (ITEM * room.items ≤ length i) × (2 * room.states ≤ length s) × (room.states * width ≤ length e) × (2 * room.states ≤ length k)
      stop-long =
          let H = stop.1 in (
            (items-clear H).0,
            (spans-clear H).0,
            subst (λ (w : ℕ). room.states * w ≤ length e) (sym U.width_is) (edges-clear H).0,
            (marks-clear H).0,
          )

      pub stop-finished : (i' s' e' k' : List ℕ) → i' ≡ zeroed (ITEM * room.items) i → s' ≡ zeroed (2 * room.states) s → e' ≡ zeroed (room.states * width) e
          → k' ≡ zeroed (2 * room.states) k → Finished room (Err y) i' s' e' k' v
      stop-finished i' s' e' k' pi ps pe pk =
          let H = stop.1 in
          let a : v.graph ≡ refused (number_of y ∷ []) = stop.2 in
          record {
            answer = ap counted (sym a);
            items-are = pi ∙ (items-clear H).1 ∙ ap (λ (x : Answer (List State)). output x (item_part (limits_of room)) item_words ++ v.behind.items) (sym a);
            spans-are = ps ∙ (spans-clear H).1 ∙ ap (λ (x : Answer (List State)). output x (span_part (limits_of room)) (spans_from 0) ++ v.behind.spans) (sym a);
            edges_are =
                pe ∙ ap (λ (w : ℕ). zeroed (room.states * w) e) U.width_is ∙ (edges-clear H).1
                ∙ ap (λ (x : Answer (List State)). output x (edge_part v.block (limits_of room)) edge_words ++ v.behind.edges) (sym a);
            marks-are = pk ∙ (marks-clear H).1;
          }

    module _ (made : Count) (q : r ≡ Ok made) where
      go : Go v.block v.behind room made i s e k v.graph
      go = go-of room i s e k v.block v.behind made v.graph (subst (λ (x : Result Count GraphRefusal). BuiltBy v.graph v.block room x i s e k v.behind) q U.built)

      pub whole : collect.Whole
      whole = record { limits = limits_of room; block = v.block; states = go.0; behind = v.behind }

      pub go-built : collect.Built made width i s e k whole
      unfolding whole
      go-built = record { fair = U.fair; held = go.1; counts-are = go.2; width_is = U.width_is }

      pub go-finished : (p : Count) (i' s' e' k' : List ℕ) → collect.Collected p i' s' e' k' whole
          → Finished room (Ok (record { states = p.states; items = p.items; before = made.states })) i' s' e' k' v
      unfolding whole
      go-finished p i' s' e' k' C =
          let a : v.graph ≡ is go.0 = go.3 in
          record {
            answer =
                ap (λ (c : Count). is (record { states = c.states; items = c.items; before = made.states })) C.answer
                ∙ ap (λ (c : Count). is (record { states = length (collect_of go.0); items = items (collect_of go.0); before = c.states })) go.2
                ∙ ap counted (sym a);
            items-are = C.items-are ∙ ap (λ (x : Answer (List State)). output x (item_part (limits_of room)) item_words ++ v.behind.items) (sym a);
            spans-are = C.spans-are ∙ ap (λ (x : Answer (List State)). output x (span_part (limits_of room)) (spans_from 0) ++ v.behind.spans) (sym a);
            edges_are = C.edges_are ∙ ap (λ (x : Answer (List State)). output x (edge_part v.block (limits_of room)) edge_words ++ v.behind.edges) (sym a);
            marks-are = C.marks-are;
          }
