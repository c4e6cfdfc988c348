-- What holds of the states while the graph is built. Assumes nothing.
use Rattle.std.specs.Prelude.{List, ◌≡◌, ℕ, suc, ◌+◌, ◌%◌, ◌≤◌, ◌<◌, length, get_or}
use Rattle.knuth.specs.Grammar.{In}
use Rattle.block.specs.Limits.{DOTS}
use Rattle.block.specs.Block.{tokens, rules}
use Rattle.block.specs.Grammar.{symbol, grammar_of}
use Rattle.itemset.specs.Rows.{Row, Present, Token, Rows}
use Rattle.pager.specs.Place.{State, Limits, items}
use Rattle.pager.specs.Graph.{start_state, nowhere}

-- of state n, among N states
pub record Standing (b : List ℕ) (N n : ℕ) (st : State) : Type 0 where
  pub rows : Rows b st.rows
  pub some : 0 < length st.rows
  -- a state past the first was made for a symbol, and no dot of it stands in front
  pub made : 0 < n → 0 < st.made
  pub dots : 0 < n → (k : ℕ) → Present k st.rows → 1 ≤ k % DOTS
  pub symbols : (x : ℕ) → st.made ≡ suc x → In (grammar_of b) (symbol x)
  -- an edge for each symbol: none, or a state
  pub width : length st.edges ≡ rules b + tokens b
  pub edge : (i : ℕ) → get_or st.edges i 0 ≤ N

-- a kernel K that is to be placed for symbol x
pub record Arriving (b : List ℕ) (x : ℕ) (K : List Row) : Type 0 where
  pub rows : Rows b K
  pub some : 0 < length K
  pub dots : (k : ℕ) → Present k K → 1 ≤ k % DOTS
  pub known : In (grammar_of b) (symbol x)

pub record Growing (b : List ℕ) (m : Limits) (ss : List State) : Type 0 where
  pub few : length ss ≤ m.states
  pub fit : items ss ≤ m.items
  -- state 0 is the start kernel, made for no symbol
  pub first : 0 < length ss
  pub start : (get_or ss 0 nowhere).rows ≡ (start_state b).rows
  pub start-made : (get_or ss 0 nowhere).made ≡ 0
  pub state : (n : ℕ) → n < length ss → Standing b (length ss) n (get_or ss n nowhere)

-- A state st has become rt: the symbol and the items are as they were, and no token is lost.
pub record Grown (st rt : State) : Type 0 where
  pub made : rt.made ≡ st.made
  pub size : length rt.rows ≡ length st.rows
  pub items : (k : ℕ) → Present k st.rows → Present k rt.rows
  pub only : (k : ℕ) → Present k rt.rows → Present k st.rows
  pub tokens : (k t : ℕ) → Token k t st.rows → Token k t rt.rows

-- The states ss have become rr: no fewer, and each grown.
pub record Grows (ss rr : List State) : Type 0 where
  pub more : length ss ≤ length rr
  pub state : (n : ℕ) → n < length ss → Grown (get_or ss n nowhere) (get_or rr n nowhere)
