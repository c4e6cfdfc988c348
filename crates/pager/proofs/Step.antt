-- A goto kernel is placed and its edge drawn, on the buffers. Assumes nothing.
use mathlib.Core.List.{List}
use Rattle.std.specs.Prelude.{Ok, Err}
use mathlib.Core.Path.{◌≡◌, refl, sym, ap, ◌∙◌, subst}
use Prim.Native.Nat.{ℕ, suc, ◌+◌, ◌*◌, ◌%◌, ◌^◌, ◌<◌, ◌≤◌}
use native.Mathlib.Omega.{arith}
use native.Mathlib.Decide.{ℕ_discrete}
use lib.ListN.{length, take, set}
use Rattle.block.specs.Limits.{ITEM, RULES, TOKENS, SYMBOLS}
use Rattle.block.specs.Lists.{change}
use Rattle.block.specs.Block.{tokens, rules, symbols}
use Rattle.block.specs.First.{firsts_of}
use Rattle.block.proofs.Good.{placed}
use Rattle.itemset.specs.Rows.{Row}
use Rattle.itemset.specs.Close.{close_of}
use Rattle.itemset.specs.Goto.{goto_of}
use Rattle.itemset.specs.Rule4.{Rule4}
use Rattle.itemset.specs.Lent as lent
use Rattle.itemset.proofs.Fuel.{close-rows}
use Rattle.itemset.proofs.GoodReady.{good-ready}
use Rattle.itemset.proofs.Rule4.{rule-4}
use Rattle.pager.specs.Lists.{Answer, is, refused}
use Rattle.pager.specs.Place.{State, place_of}
use Rattle.pager.specs.Graph.{edge_at, edge_to, place_edge}
use Rattle.pager.specs.Growing.{Arriving, Growing, Grows}
use Rattle.pager.specs.Given.{Given}
use Rattle.pager.specs.Held as held
use Rattle.pager.specs.Held.{STATES, View, Came, Full, PutBy, PutIn, limits_of}
use Rattle.pager.specs.Building.{Scratch, Counted, BuiltBy, Site, ForGotos, ForGoto}
use Rattle.pager.specs.declared.room.Room.{Room}
use Rattle.pager.specs.declared.room.Count.{Count}
use Rattle.pager.specs.declared.place.Put.{Put}
use Rattle.pager.specs.declared.refusal.GraphRefusal.{GraphRefusal}
use Rattle.pager.proofs.Growing.{arriving, growing-place}
use Rattle.pager.proofs.Drawn.{edge-inside, held-edge, same_count}
use Rattle.pager.proofs.Rooms.{wrote-front, wrote-scratch}

-- ---- the closed rows of a kernel
module _ {b : List ℕ} {room : Room} {count : Count} {n : ℕ} {closed kernel items spans edges marks : List ℕ} {s : Site}
    (G : ForGotos b room count n closed kernel items spans edges marks s) where
  abbrev rows_of : List Row
  rows_of = close_of b (firsts_of b) s.kernel

  pub closed-rows : lent.RowsIn b closed rows_of
  closed-rows = record { good = G.good; rows = close-rows b (firsts_of b) (good-ready G.good) s.kernel G.rows; words = G.words }

  pub for-goto : lent.ForGoto b closed kernel rows_of
  for-goto = record { closed = closed-rows; room = G.space }

  pub rule4 : Rule4 b (firsts_of b) s.kernel
  rule4 = rule-4 b (firsts_of b) (good-ready G.good) s.kernel G.rows

-- ---- one symbol
module _ {b : List ℕ} {room : Room} {count : Count} {n x : ℕ} {closed kernel items spans edges marks : List ℕ} {s : Site}
    (G : ForGoto b room count n x closed kernel items spans edges marks s) where
  abbrev goto : List Row
  goto = goto_of b (close_of b (firsts_of b) s.kernel) x

  abbrev pub view_of : View
  view_of = record { block = b; states = s.states; edges = edges; behind = s.behind; kernel = goto; symbol = x }

  comes : Arriving b x goto
  comes = arriving b (firsts_of b) (good-ready G.gotos.good) s.kernel G.gotos.rows x G.sighted

  pub symbol-small : x < 2 * (RULES + TOKENS)
  symbol-small =
      let w = (rule4 G.gotos).sights.within x G.sighted in
      elim (ℕ_discrete (x % 2) 0) [
        | yes e ↦ let a = w.rule e in omega arith
        | no d ↦ let a = w.token (omega arith) in omega arith
      ]

  few : length goto ≤ symbols b
  few = ((rule4 G.gotos).moves x).few

  module _ (k : ℕ) (kernel' : List ℕ) (W : lent.Wrote goto k kernel kernel') where
    pub goto-few : k ≤ SYMBOLS
    goto-few = let h = (placed G.gotos.good).symbols-most in omega (arith, few, W.count)

    pub goto-scratch : Scratch (ITEM * symbols b) kernel kernel'
    goto-scratch = wrote-scratch W comes.rows.sets (symbols b) few G.gotos.space

    pub goto-fits : ITEM * k ≤ length kernel'
    goto-fits = omega (arith, few, W.count, G.gotos.space, goto-scratch.size)

    pub place-ready : (made : ℕ) → made ≡ suc x → held.Ready room count made (take (ITEM * k) kernel') items spans marks view_of
    place-ready made e =
        record {
          fair = G.gotos.fair;
          held = G.gotos.held;
          arriving = comes;
          words = wrote-front W comes.rows.sets;
          symbol = e;
          counts = G.gotos.counts;
        }

  -- ---- what `place` answers
  abbrev Onto : ℕ × List State → Type 0
  Onto p = Growing b (limits_of room) p.1 × (p.0 < length p.1) × Grows s.states p.1

  onto : Given (place_of b (limits_of room) s.states x goto) Onto
  onto = growing-place b (limits_of room) x goto s.states G.gotos.held.growing comes

  abbrev w : ℕ
  w = rules b + tokens b

  rows-as-many : (t : ℕ) (st : State) → length (edge_to b x t st).rows ≡ length st.rows
  unfolding edge_to
  rows-as-many t st = refl

  module _ (r : Put) (i' s' m' : List ℕ) (P : PutIn room (Ok r) i' s' m' view_of) where
    pub draw-needs : (n < STATES) × (r.to < STATES) × (x < 2 ^ 32) × (n * w + edge_at b x < length edges)
    draw-needs =
        let H = G.gotos.held in
        let f = G.gotos.fair.states in
        let g = H.growing.few in (
          omega (arith, G.gotos.there),
          low (place_of b (limits_of room) s.states x goto) P onto,
          omega (arith, symbol-small),
          edge-inside H n G.gotos.there x comes.known,
        )
      where
        low : (o : Answer (ℕ × List State)) → PutBy o room (Ok r) i' s' m' view_of → Given o Onto → r.to < STATES
        low (is p) C O = let a = C.to in let c = O.1 in let d = O.0.few in let f = G.gotos.fair.states in omega arith
        low (refused why) F O = absurd F

    was-drawn : (e' : List ℕ) → e' ≡ set edges (n * w + edge_at b x) (suc r.to) → (p : ℕ × List State) → Came room p.0 p.1 r i' s' m' view_of → Onto p
        → Counted b room (change (edge_to b x p.0) n p.1) r.count i' s' e' m' s.behind
    was-drawn e' q p C O =
        let l : n < length p.1 = (let g = O.2.more in omega (arith, G.gotos.there)) in
        record {
          counts = C.counts ∙ same_count (edge_to b x p.0) (rows-as-many p.0) n p.1;
          held =
              subst (λ (v : List ℕ). held.Held b (limits_of room) (change (edge_to b x p.0) n p.1) s.behind i' s' v m')
              (sym (q ∙ ap (λ (t : ℕ). set edges (n * w + edge_at b x) (suc t)) C.to)) (held-edge C.held n l x comes.known p.0 O.1);
        }

    pub drawn : (e' : List ℕ) → e' ≡ set edges (n * w + edge_at b x) (suc r.to)
        → BuiltBy (place_edge b (limits_of room) n s.states (x, goto)) b room (Ok r.count) i' s' e' m' s.behind
    unfolding place_edge
    drawn e' q = go (place_of b (limits_of room) s.states x goto) P onto
      where
        go : (o : Answer (ℕ × List State)) → PutBy o room (Ok r) i' s' m' view_of → Given o Onto
            → BuiltBy (elim o [ is p ↦ is (change (edge_to b x p.0) n p.1) | refused y ↦ refused y ]) b room (Ok r.count) i' s' e' m' s.behind
        go (is p) C O = was-drawn e' q p C O
        go (refused why) F O = absurd F

  pub not-drawn : (e : GraphRefusal) (i' s' m' : List ℕ) → PutIn room (Err e) i' s' m' view_of
      → BuiltBy (place_edge b (limits_of room) n s.states (x, goto)) b room (Err e) i' s' edges m' s.behind
  unfolding place_edge
  not-drawn e i' s' m' P = go (place_of b (limits_of room) s.states x goto) P
    where
      go : (o : Answer (ℕ × List State)) → PutBy o room (Err e) i' s' m' view_of
          → BuiltBy (elim o [ is p ↦ is (change (edge_to b x p.0) n p.1) | refused y ↦ refused y ]) b room (Err e) i' s' edges m' s.behind
      go (is p) C = absurd C
      go (refused why) F = record { is = F.is; states = s.states; held = F.held }
