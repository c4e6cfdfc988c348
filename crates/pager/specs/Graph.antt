-- Rules 3 and 4: which state is closed next, its gotos placed in order, and the graph before collection. Assumes nothing.
use Rattle.std.specs.Prelude.{true, not, cond, List, [], ◌∷◌, ℕ, zero, suc, ◌+◌, ◌*◌, ◌/◌, ◌%◌, ◌^◌, eqb, get_or, set, drop}
use Rattle.std.proofs.Math.Option.{Option, none, some}
use Rattle.block.specs.Limits.{DOTS, WORDS}
use Rattle.block.specs.Lists.{change}
use Rattle.block.specs.Block.{rules, end_token_of, start_prod}
use Rattle.block.specs.Sets.{empty, with}
use Rattle.block.specs.First.{Ahead}
use Rattle.itemset.specs.Rows.{Row, row}
use Rattle.itemset.specs.Close.{close_of}
use Rattle.itemset.specs.Goto.{gotos_of}
use Rattle.pager.specs.Lists.{find, Answer, is, refused, walk}
use Rattle.pager.specs.Place.{State, Limits, new, place_of}

-- where the edge on symbol x stands in a state: rules before tokens
unfoldable pub edge_at : List ℕ → ℕ → ℕ
edge_at b x = cond (eqb (x % 2) 0) (x / 2) (rules b + x / 2)

unfoldable pub edge_to : List ℕ → ℕ → ℕ → State → State
edge_to b x t st = record { made = st.made; rows = st.rows; edges = set st.edges (edge_at b x) (suc t); closed = st.closed }

unfoldable pub mark : State → State
mark st = record { made = st.made; rows = st.rows; edges = st.edges; closed = true }

-- the goto kernel of state n on a symbol is placed, and the edge drawn
unfoldable pub place_edge : List ℕ → Limits → ℕ → List State → ℕ × List Row → Answer (List State)
place_edge b m n ss g =
    elim (place_of b m ss g.0 g.1) [
      | is p ↦ is (change (edge_to b g.0 p.0) n p.1)
      | refused e ↦ refused e
    ]

abbrev pub nowhere : State
nowhere = record { made = 0; rows = []; edges = []; closed = true }

-- state n is closed: its goto kernels, all worked out before, are placed in order
unfoldable pub close_state : List ℕ → List Ahead → Limits → List State → ℕ → Answer (List State)
close_state b F m ss n = walk (place_edge b m n) (change mark n ss) (gotos_of b (close_of b F (get_or ss n nowhere).rows))

-- the lowest unclosed state after the last one closed, else the lowest
unfoldable pub next_state : ℕ → List State → Option ℕ
next_state last ss =
    elim (find (λ st. not st.closed) (suc last) (drop (suc last) ss)) [
      | some n ↦ some n
      | none ↦ find (λ st. not st.closed) 0 ss
    ]

unfoldable pub grow : List ℕ → List Ahead → Limits → ℕ → ℕ → List State → Answer (List State)
grow b F m zero last ss = is ss
grow b F m (suc k) last ss =
    elim (next_state last ss) [
      | none ↦ is ss
      | some n ↦ elim (close_state b F m ss n) [ is ss' ↦ grow b F m k n ss' | refused e ↦ refused e ]
    ]

-- the start production, dot 0, with the end token
unfoldable pub start_state : List ℕ → State
start_state b = new b 0 (row (DOTS * start_prod b) (with empty (end_token_of b)) ∷ [])

-- The fuel is never used up (proofs/GraphFuel).
unfoldable pub graph_of : List ℕ → List Ahead → Limits → Answer (List State)
graph_of b F m = grow b F m (3 * m.states + 2 * m.items * (WORDS * 2 ^ 64 + 1)) 0 (start_state b ∷ [])
