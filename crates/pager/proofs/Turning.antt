-- The rounds that build the graph, on the buffers. Assumes nothing.
use mathlib.Core.List.{List, [], ◌∷◌}
use mathlib.Core.Option.{none, some}
use Rattle.std.specs.Prelude.{Ok, Err, Some, None}
use mathlib.Core.Path.{◌≡◌, refl, sym, ap, ◌∙◌, subst}
use Prim.Native.Nat.{ℕ, zero, suc, ◌+◌, ◌-◌, ◌*◌, ◌^◌, ◌<◌, ◌≤◌}
use native.Mathlib.Omega.{arith}
use lib.ListN.{length}
use Rattle.block.specs.Limits.{WORDS, ITEM}
use Rattle.block.specs.Block.{prods, symbols}
use Rattle.block.specs.Refusal.{Good}
use Rattle.block.specs.First.{Ahead, firsts_of}
use Rattle.itemset.proofs.GoodReady.{good-ready}
use Rattle.pager.specs.Lists.{Answer, is, refused}
use Rattle.pager.specs.Place.{State, Limits}
use Rattle.pager.specs.Graph.{close_state, next_state, grow, start_state, graph_of}
use Rattle.pager.specs.Given.{Given}
use Rattle.pager.specs.Growing.{Growing}
use Rattle.pager.specs.Held.{Behind, Fair, limits_of, as_option}
use Rattle.pager.specs.Building.{Counted, BuiltBy, Marks, ForState}
use Rattle.pager.specs.declared.room.Room.{Room}
use Rattle.pager.specs.declared.room.Count.{Count}
use Rattle.pager.specs.declared.refusal.GraphRefusal.{GraphRefusal}
use Rattle.pager.proofs.Walks.{given_both}
use Rattle.pager.proofs.ByIndex.{some-is, none-is}
use Rattle.pager.proofs.Places.{Unclosed, Next, next-right}
use Rattle.pager.proofs.Growing.{Onward, growing-close}
use Rattle.pager.proofs.GraphFuel.{phi, phi-most, close-phi, grow-closed}
use Rattle.pager.proofs.Held.{marks-long}
use Rattle.pager.proofs.Measured.{phi_of, phi-read}

-- the measure that every round raises stays below this
abbrev pub most_of : Room → ℕ
most_of room = 3 * room.states + 2 * room.items * (WORDS * 2 ^ 64 + 1)

-- what is left to be done
unfoldable pub left_of : Room → Count → List ℕ → List ℕ → ℕ
left_of room count items marks = suc (most_of room) - phi_of count items marks

module _ (b : List ℕ) (room : Room) where
  abbrev F : List Ahead
  F = firsts_of b

  abbrev m : Limits
  m = limits_of room

  -- states that the graph goes on from, the state `last` closed last
  pub record Run (last : ℕ) (count : Count) (items spans edges marks : List ℕ) (z : Behind) : Type 0 where
    pub states : List State
    pub counted : Counted b room states count items spans edges marks z
    pub fuel : ℕ
    pub is-graph : graph_of b F m ≡ grow b F m fuel last states
    pub enough : most_of room ≤ fuel + phi states
    pub low : last < length states

  pub run-start : {count : Count} {items spans edges marks : List ℕ} {z : Behind} → Counted b room (start_state b ∷ []) count items spans edges marks z
      → Run 0 count items spans edges marks z
  unfolding graph_of
  run-start B = record { states = start_state b ∷ []; counted = B; fuel = most_of room; is-graph = refl; enough = omega arith; low = omega arith }

  module _ {last : ℕ} {count : Count} {items spans edges marks : List ℕ} {z : Behind} (R : Run last count items spans edges marks z) where
    pub next-size : count.states ≡ length R.states
    next-size = ap (λ (r : Count). r.states) R.counted.counts

    pub next-needs : (2 * count.states ≤ length marks) × (last < count.states)
    next-needs = let f = R.counted.held.growing.few in let l = R.low in (omega (arith, next-size, marks-long R.counted.held), omega (arith, next-size))

    pub next_marks : Marks (2 * room.states) R.states z.marks marks
    next_marks = record { few = (let f = R.counted.held.growing.few in omega arith); is = R.counted.held.marks-is }

    -- ---- no state is left to be closed
    grown : (k : ℕ) → next_state last R.states ≡ none → grow b F m k last R.states ≡ is R.states
    unfolding grow
    grown zero e = refl
    grown (suc k) e = ap (λ o. elim o as (λ x. Answer (List State)) [ none ↦ is R.states | some n ↦ elim (close_state b F m R.states n) [ is rr ↦ grow b F m k n rr | refused y ↦ refused y ] ]) e

    pub run-done : None ≡ as_option (next_state last R.states) → BuiltBy (graph_of b F m) b room (Ok count) items spans edges marks z
    run-done e =
        subst (λ a. BuiltBy a b room (Ok count) items spans edges marks z)
        (sym (R.is-graph ∙ grown R.fuel (none-is (next_state last R.states) e))) R.counted

    -- ---- state s is closed next
    module _ (s : ℕ) (q : Some s ≡ as_option (next_state last R.states)) where
      picked : next_state last R.states ≡ some s
      picked = some-is s (next_state last R.states) q

      unclosed : Unclosed R.states s
      unclosed = subst (λ o. Next R.states o) picked (next-right last R.states)

      module _ (good : Good b) where
        pub for-state : (fair : Fair m) (closed kernel : List ℕ)
            → ITEM * (symbols b + prods b) ≤ length closed → ITEM * symbols b ≤ length kernel
            → ForState b room count s closed kernel items spans edges marks R.states z
        for-state fair closed kernel c k =
            record {
              good = good;
              fair = fair;
              held = R.counted.held;
              counts = R.counted.counts;
              there = unclosed.0;
              room-closed = c;
              room-kernel = k;
            }

        -- what the round gives: more states, and a higher measure
        higher : Given (close_state b F m R.states s) (λ rr. (Growing b m rr × (phi R.states < phi rr)) × Onward b m R.states rr)
        higher =
            given_both (λ rr. Growing b m rr × (phi R.states < phi rr)) (Onward b m R.states) (close_state b F m R.states s)
            (close-phi b m F (good-ready good) R.states s R.counted.held.growing unclosed)
            (growing-close b m F (good-ready good) R.states s R.counted.held.growing unclosed.0)

        abbrev after : ℕ → Answer (List State) → Answer (List State)
        after k o = elim o [ is rr ↦ grow b F m k s rr | refused y ↦ refused y ]

        one-round : (k : ℕ) → most_of room ≤ k + phi R.states
            → (j : ℕ) × (k ≡ suc j) × (grow b F m k last R.states ≡ after j (close_state b F m R.states s))
        unfolding grow
        one-round zero e = absurd (grow-closed b m F (good-ready good) zero last R.states R.counted.held.growing e s unclosed)
        one-round (suc k) e = (k, refl, ap (λ o. elim o as (λ x. Answer (List State)) [ none ↦ is R.states | some n ↦ elim (close_state b F m R.states n) [ is rr ↦ grow b F m k n rr | refused y ↦ refused y ] ]) picked)

        module _ (r : Count) (i' s' e' m' : List ℕ) (B : BuiltBy (close_state b F m R.states s) b room (Ok r) i' s' e' m' z) where
          pub run-next : Run s r i' s' e' m' z
          run-next = go (close_state b F m R.states s) B higher (one-round R.fuel R.enough)
            where
              go : (o : Answer (List State)) → BuiltBy o b room (Ok r) i' s' e' m' z
                  → Given o (λ rr. (Growing b m rr × (phi R.states < phi rr)) × Onward b m R.states rr)
                  → ((j : ℕ) × (R.fuel ≡ suc j) × (grow b F m R.fuel last R.states ≡ after j o)) → Run s r i' s' e' m' z
              go (is rr) B h (j, f, g) =
                  record {
                    states = rr;
                    counted = B;
                    fuel = j;
                    is-graph = R.is-graph ∙ g;
                    enough = (let a = h.0.1 in let c = R.enough in omega arith);
                    low = (let a = h.1.1.more in let c = unclosed.0 in omega arith);
                  }
              go (refused why) B h w = absurd B

          pub run-less : left_of room r i' m' < left_of room count items marks
          unfolding left_of
          run-less =
              let before : left_of room count items marks ≡ suc (most_of room) - phi R.states =
              ap (λ (k : ℕ). suc (most_of room) - k) (phi-read R.counted.held count R.counted.counts) in
              let top = phi-most b m F (good-ready good) R.states R.counted.held.growing in
              go (close_state b F m R.states s) B higher before top
            where
              go : (o : Answer (List State)) → BuiltBy o b room (Ok r) i' s' e' m' z
                  → Given o (λ rr. (Growing b m rr × (phi R.states < phi rr)) × Onward b m R.states rr)
                  → left_of room count items marks ≡ suc (most_of room) - phi R.states → phi R.states ≤ most_of room
                  → left_of room r i' m' < left_of room count items marks
              go (is rr) B h e t =
                  let a : left_of room r i' m' ≡ suc (most_of room) - phi rr = ap (λ (k : ℕ). suc (most_of room) - k) (phi-read B.held r B.counts) in
                  let u = h.0.1 in
                  let v = phi-most b m F (good-ready good) rr B.held.growing in
                  omega arith
              go (refused why) B h e t = absurd B

        -- a refusal ends it
        pub run-refused : (y : GraphRefusal) (i' s' e' m' : List ℕ) → BuiltBy (close_state b F m R.states s) b room (Err y) i' s' e' m' z
            → BuiltBy (graph_of b F m) b room (Err y) i' s' e' m' z
        run-refused y i' s' e' m' B = go (close_state b F m R.states s) B (one-round R.fuel R.enough)
          where
            go : (o : Answer (List State)) → BuiltBy o b room (Err y) i' s' e' m' z
                → ((j : ℕ) × (R.fuel ≡ suc j) × (grow b F m R.fuel last R.states ≡ after j o)) → BuiltBy (graph_of b F m) b room (Err y) i' s' e' m' z
            go (is rr) B w = absurd B
            go (refused why) B (j, f, g) = subst (λ o. BuiltBy o b room (Err y) i' s' e' m' z) (sym (R.is-graph ∙ g)) B
