-- What it is for an automaton to be CHECKED (request C-23): conditions on each state, in the request's order. Assumes nothing.
use Rattle.std.specs.Prelude.{◌≢◌, ◌≡◌, ℕ, ◌<◌, zero}
use Rattle.knuth.specs.Grammar.{Grammar, rule, Sym, Item}
use Rattle.knuth.specs.Kernel.{Kernel, ◌≈◌}
use Rattle.knuth.specs.Canonical.{start-kernel}
use Rattle.knuth.specs.Tables.{Action}
use Rattle.knuth.specs.Automaton.{Automaton, Calls, Before, Edged, NoOtherEdge}

-- its kernel holds valid items with tokens below T (that no item stands twice is asked of rows; a kernel is a map)
pub record ItemsValid (G : Grammar) (K : Kernel) : Type 0 where
  pub item : (p d : ℕ) → K.has p d → Item G p d
  pub token : (p d t : ℕ) → K.tok p d t → t < G.tokens

-- the start production has no other context token than the end
abbrev pub StartToken : Grammar → Kernel → Type 0
StartToken G K = (d t : ℕ) → K.tok G.start d t → t ≡ G.end

-- every cell holds exactly the one action called for, or else error; the gotos are the rule edges
pub record Cells (G : Grammar) (A : Automaton) (s : ℕ) : Type 0 where
  pub cell : (t : ℕ) (a : Action) → t < G.tokens → Calls G A s t a → A.action s t ≡ a
  pub only : (t : ℕ) → t < G.tokens → A.action s t ≢ Action.error → Calls G A s t (A.action s t)
  pub goto : (r : ℕ) → r < G.rules → A.goto s r ≡ A.edge s (rule r)

-- State 0 holds the start item with the end token and nothing else; there is an edge for every symbol after a dot, and no other.
pub record CheckedState (G : Grammar) (A : Automaton) (s : ℕ) : Type 0 where
  pub items : ItemsValid G (A.kern s)
  pub zeroth : s ≡ zero → A.kern s ≈ start-kernel G
  pub start-token : StartToken G (A.kern s)
  pub edges : (X : Sym) (p d : ℕ) → Before G (A.kern s) X p d → Edged G A s X
  pub no_other : NoOtherEdge G A s
  pub cells : Cells G A s

pub record Checked (G : Grammar) (A : Automaton) : Type 0 where
  pub some-state : zero < A.states
  pub state : (s : ℕ) → s < A.states → CheckedState G A s
