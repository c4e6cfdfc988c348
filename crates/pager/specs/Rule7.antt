-- Rule 7 as a statement: collection keeps exactly the states that edges lead to from state 0, in their order, with edges to the same states.
-- Assumes nothing.
use Rattle.std.specs.Prelude.{true, false, List, map, ◌↔◌, ◌≡◌, ℕ, suc, ◌≤◌, ◌<◌, length, get_or}
use Rattle.pager.specs.Place.{State, items}
use Rattle.pager.specs.Graph.{nowhere}
use Rattle.pager.specs.Collect.{reach_of, rank, renumber, collect_of}

-- edges lead from state 0 to state n
pub data Reachable (ss : List State) : ℕ → Type 0 where
  start : Reachable ss 0
  step : {n t : ℕ} (i : ℕ) → Reachable ss n → get_or (get_or ss n nowhere).edges i 0 ≡ suc t → Reachable ss t

-- there is a state, and each edge leads to one
pub record Edges (ss : List State) : Type 0 where
  pub some : 0 < length ss
  pub low : (n i : ℕ) → get_or (get_or ss n nowhere).edges i 0 ≤ length ss

-- the number of a kept state after collection
abbrev pub number : List State → ℕ → ℕ
number ss n = rank (reach_of ss) n

-- and the state itself
abbrev pub moved : List State → State → State
moved ss st = record { made = st.made; rows = st.rows; edges = map (renumber (reach_of ss)) st.edges; closed = true }

pub record Rule7 (ss : List State) : Type 0 where
  pub marks : (n : ℕ) → (get_or (reach_of ss) n false ≡ true) ↔ Reachable ss n
  -- a reachable state is kept, at its number
  pub below : (n : ℕ) → Reachable ss n → number ss n < length (collect_of ss)
  pub there : (n : ℕ) → Reachable ss n → get_or (collect_of ss) (number ss n) nowhere ≡ moved ss (get_or ss n nowhere)
  -- the numbers ascend from 0, and there is no other state
  pub first : number ss 0 ≡ 0
  pub ascend : (m n : ℕ) → Reachable ss m → m < n → number ss m < number ss n
  pub only : (k : ℕ) → k < length (collect_of ss) → (n : ℕ) × Reachable ss n × (number ss n ≡ k)
  -- an edge leads to the state that it led to, and where there was none there is none
  pub edge : (n i t : ℕ) → Reachable ss n → get_or (get_or ss n nowhere).edges i 0 ≡ suc t
      → get_or (get_or (collect_of ss) (number ss n) nowhere).edges i 0 ≡ suc (number ss t)
  pub none : (n i : ℕ) → Reachable ss n → get_or (get_or ss n nowhere).edges i 0 ≡ 0 → get_or (get_or (collect_of ss) (number ss n) nowhere).edges i 0 ≡ 0
  -- edges lead to each state that is left
  pub reached : (k : ℕ) → k < length (collect_of ss) → Reachable (collect_of ss) k
  -- it is no more of anything
  pub few : length (collect_of ss) ≤ length ss
  pub fit : items (collect_of ss) ≤ items ss
