-- Tables: all that the machine reads, and all that lent words say. Assumes nothing.
use Rattle.std.proofs.Math.Option.{Option}
use Rattle.std.specs.Prelude.{◌≡◌, ℕ, ◌<◌}
use Rattle.knuth.specs.Grammar.{Grammar}

-- A cell of the table.
pub data Action : Type 0 where
  shift : ℕ → Action
  reduce : ℕ → Action
  accept : Action
  error : Action

-- States are the numbers below `states`. Nothing is asked of what the functions say elsewhere.
pub record Tables : Type 0 where
  pub states : ℕ
  pub action : ℕ → ℕ → Action
  pub goto : ℕ → ℕ → Option ℕ

-- As many states; and for each of them the same cell at each token, and the same goto for each rule.
pub record Agree (G : Grammar) (T T' : Tables) : Type 0 where
  pub states : T.states ≡ T'.states
  pub action : (s t : ℕ) → s < T.states → t < G.tokens → T.action s t ≡ T'.action s t
  pub goto : (s r : ℕ) → s < T.states → r < G.rules → T.goto s r ≡ T'.goto s r
