-- The steps of `tabulate` put together: what filling leaves is what deriving asks, and all outputs are zero after a stop. Assumes nothing.
use mathlib.Core.List.{List, [], ◌++◌, append_assoc}
use mathlib.Core.Path.{◌≡◌, refl, sym, ap, ◌∙◌}
use Prim.Native.Nat.{ℕ, ◌-◌, ◌*◌}
use native.Mathlib.Omega.{arith}
use lib.ListN.{length, drop, replicate}
use Rattle.std.specs.Prelude.{Result, Ok, Err}
use Rattle.block.specs.Block.{tokens, rules, prods}
use Rattle.pager.specs.Lists.{each, Answer, is, refused}
use Rattle.pager.specs.Place.{State}
use Rattle.pager.specs.Memory.{pad, edge_words}
use Rattle.pager.specs.Call.{item_part, span_part, edge_part, zeroed}
use Rattle.pager.proofs.Beginning.{pad-none}
use Rattle.statetable.specs.Cells.{Rows}
use Rattle.statetable.specs.ForTables.{flat, TableRows, ForTables, TallyBy, TablesFilled, ForDerived, Derived}
use Rattle.statetable.specs.Build.{limits_of, caps_of}
use Rattle.statetable.specs.BuildSteps.{ForTabulate, kept_or, Tabulated}
use Rattle.statetable.specs.declared.records.Tally.{Tally}
use Rattle.statetable.specs.declared.refusal.BuildRefusal.{BuildRefusal}
use Rattle.statetable.specs.declared.call.Named.{Named}

-- the states and the rows that gotos and marks are derived from: none after a stop
abbrev states_of : Answer Rows → List State → List State
states_of (is d) ss = ss
states_of (refused why) ss = []

abbrev rows_of : Answer Rows → List (List ℕ)
rows_of (is d) = d.cells
rows_of (refused why) = []

-- so many states are derived from: none after a stop
abbrev pub filled_by : Result Tally BuildRefusal → ℕ → ℕ
filled_by (Ok t) states = states
filled_by (Err e) states = 0

-- the graph's parts are zero after a stop, else they stay
abbrev pub stays_by : Result Tally BuildRefusal → ℕ → List ℕ → List ℕ
stays_by (Ok t) n before = before
stays_by (Err e) n before = zeroed n before

-- ---- lists
-- nothing, and what stood behind
none_left : (n : ℕ) (before after : List ℕ) → after ≡ pad n [] ++ drop n before → after ≡ zeroed n before
none_left n before after e = e ∙ ap (λ (t : List ℕ). t ++ drop n before) (sym (pad-none n))

pad-behind : (n : ℕ) (ws z : List ℕ) → pad n ws ++ z ≡ ws ++ (replicate (n - length ws) 0 ++ z)
unfolding pad
pad-behind n ws z = append_assoc ws (replicate (n - length ws) 0) z

-- clearing by what the filling tells is clearing by the answer
cleared_by : (a : Answer Rows) (r : Result Tally BuildRefusal) → TallyBy a r → (n : ℕ) (before : List ℕ) → stays_by r n before ≡ kept_or a n before
cleared_by (is d) (Ok t) T n before = refl
cleared_by (is d) (Err e) T n before = absurd T
cleared_by (refused why) (Ok t) T n before = absurd T
cleared_by (refused why) (Err e) T n before = refl

no_rows : {b : List ℕ} {n : ℕ} → n ≡ 0 → TableRows b n []
no_rows e = record { number = sym e; width = λ i l. absurd (omega arith); actions = λ i l. absurd (omega arith) }

module _ {b : List ℕ} {n : Named} {states : ℕ} {items spans edges closed actions gotos offered shifts cores only rr sr : List ℕ} {ss : List State}
    (F : ForTabulate b n states items spans edges closed actions gotos offered shifts cores only rr sr ss) where
  -- ---- before filling
  pub to_fill : ForTables b (caps_of n) n.states states items spans edges closed actions offered rr sr ss
  to_fill =
      record {
        good = F.good;
        graph = F.graph;
        number = F.number;
        fit = F.fit;
        fair = F.states-fair;
        rr-fair = F.rr-fair;
        sr-fair = F.sr-fair;
        closed-room = F.closed-room;
        actions-room = F.actions-room;
        offered-room = F.offered-room;
        rr-room = F.rr-room;
        sr-room = F.sr-room;
      }

  -- ---- before deriving
  to-derive : (a : Answer Rows) (r : Result Tally BuildRefusal) (actions' offered' rr' sr' : List ℕ)
      → TablesFilled a b (caps_of n) n.states states r actions offered rr sr actions' offered' rr' sr'
      → ForDerived b n.states (filled_by r states) edges actions' gotos shifts cores only (states_of a ss) (rows_of a)
  unfolding each edge_words
  to-derive (is d) (Ok t) actions' offered' rr' sr' T =
      record {
        good = F.good;
        number = F.number;
        fit = F.fit;
        fair = F.states-fair;
        widths = λ i l. (F.graph.fillable i (let q = F.number in omega arith)).width;
        edges-behind = F.graph.edges-behind;
        edges_are = F.graph.edges_are;
        rows = T.rows;
        actions-behind = replicate (n.states * tokens b - length (flat d.cells)) 0 ++ drop (n.states * tokens b) actions;
        actions-are = T.actions-are ∙ pad-behind (n.states * tokens b) (flat d.cells) (drop (n.states * tokens b) actions);
        gotos-room = F.gotos-room;
        shifts-room = F.shifts-room;
        cores-room = F.cores-room;
        only-room = F.only-room;
      }
  to-derive (is d) (Err e) actions' offered' rr' sr' T = absurd T.tally
  to-derive (refused why) (Ok t) actions' offered' rr' sr' T = absurd T.tally
  to-derive (refused why) (Err e) actions' offered' rr' sr' T =
      record {
        good = F.good;
        number = refl;
        fit = omega arith;
        fair = F.states-fair;
        widths = λ i l. absurd (omega arith);
        edges-behind = edges;
        edges_are = refl;
        rows = no_rows refl;
        actions-behind = actions';
        actions-are = refl;
        gotos-room = F.gotos-room;
        shifts-room = F.shifts-room;
        cores-room = F.cores-room;
        only-room = F.only-room;
      }

  -- ---- at the end
  put-together : (a : Answer Rows) (r : Result Tally BuildRefusal) (items' spans' edges' actions' gotos' offered' shifts' cores' only' rr' sr' : List ℕ)
      → TablesFilled a b (caps_of n) n.states states r actions offered rr sr actions' offered' rr' sr'
      → Derived b n.states (states_of a ss) (rows_of a) gotos shifts cores only gotos' shifts' cores' only'
      → items' ≡ stays_by r (item_part (limits_of n)) items
      → spans' ≡ stays_by r (span_part (limits_of n)) spans
      → edges' ≡ stays_by r (edge_part b (limits_of n)) edges
      → Tabulated a b n ss r items spans edges actions gotos offered shifts cores only rr sr items' spans' edges' actions' gotos' offered' shifts' cores' only' rr' sr'
  unfolding each
  put-together (is d) r items' spans' edges' actions' gotos' offered' shifts' cores' only' rr' sr' T D i s e =
      record {
        tally = T.tally;
        items-are = i ∙ cleared_by (is d) r T.tally (item_part (limits_of n)) items;
        spans-are = s ∙ cleared_by (is d) r T.tally (span_part (limits_of n)) spans;
        edges_are = e ∙ cleared_by (is d) r T.tally (edge_part b (limits_of n)) edges;
        actions-are = T.actions-are;
        gotos-are = D.gotos-are;
        offered-are = T.offered-are;
        shifts-are = D.shifts-are;
        cores-are = D.cores-are;
        only-are = D.only-are;
        rr-are = T.rr-are;
        sr-are = T.sr-are;
      }
  put-together (refused why) r items' spans' edges' actions' gotos' offered' shifts' cores' only' rr' sr' T D i s e =
      record {
        tally = T.tally;
        items-are = i ∙ cleared_by (refused why) r T.tally (item_part (limits_of n)) items;
        spans-are = s ∙ cleared_by (refused why) r T.tally (span_part (limits_of n)) spans;
        edges_are = e ∙ cleared_by (refused why) r T.tally (edge_part b (limits_of n)) edges;
        actions-are = T.actions-are;
        gotos-are = none_left (n.states * rules b) gotos gotos' D.gotos-are;
        offered-are = T.offered-are;
        shifts-are = none_left (n.states * tokens b) shifts shifts' D.shifts-are;
        cores-are = none_left (n.states * prods b) cores cores' D.cores-are;
        only-are = none_left n.states only only' D.only-are;
        rr-are = T.rr-are;
        sr-are = T.sr-are;
      }

  -- what the filling left, and what it told
  module _ (a : Answer Rows) (r : Result Tally BuildRefusal) (actions' offered' rr' sr' : List ℕ)
      (T : TablesFilled a b (caps_of n) n.states states r actions offered rr sr actions' offered' rr' sr') where
    pub derivable : (ss' : List State) × (rs : List (List ℕ)) × ForDerived b n.states (filled_by r states) edges actions' gotos shifts cores only ss' rs
    derivable = (states_of a ss, rows_of a, to-derive a r actions' offered' rr' sr' T)

    pub tabulated : (items' spans' edges' gotos' shifts' cores' only' : List ℕ)
        → ((ss' : List State) (rs : List (List ℕ)) → ForDerived b n.states (filled_by r states) edges actions' gotos shifts cores only ss' rs
        → Derived b n.states ss' rs gotos shifts cores only gotos' shifts' cores' only')
        → items' ≡ stays_by r (item_part (limits_of n)) items
        → spans' ≡ stays_by r (span_part (limits_of n)) spans
        → edges' ≡ stays_by r (edge_part b (limits_of n)) edges
        → Tabulated a b n ss r items spans edges actions gotos offered shifts cores only rr sr items' spans' edges' actions' gotos' offered' shifts' cores' only' rr' sr'
    tabulated items' spans' edges' gotos' shifts' cores' only' D i s e =
        put-together a r items' spans' edges' actions' gotos' offered' shifts' cores' only' rr' sr' T
        (D (states_of a ss) (rows_of a) (to-derive a r actions' offered' rr' sr' T)) i s e
