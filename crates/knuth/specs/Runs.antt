-- What is said of a run under limits that has ended. Assumes nothing.
use Rattle.std.specs.Prelude.{List, ◌++◌, ◌⊎◌, ◌≡◌, ℕ, ◌+◌, ◌≤◌}
use Rattle.knuth.specs.Grammar.{Grammar}
use Rattle.knuth.specs.Tables.{Tables}
use Rattle.knuth.specs.Machine.{Config, Reaches, next}
use Rattle.knuth.specs.Limits.{Limits, Why, outs, counted, stops, within}

-- The ends that are no refusal for room or steps.
abbrev pub Answer : Why → Type 0
Answer Why.accept = Unit {0}
Answer Why.reject = Unit {0}
Answer Why.bad = Unit {0}
Answer Why.stack-room = ⊥
Answer Why.output-room = ⊥
Answer Why.out-of-steps = ⊥

-- From c after n steps to d after m: no fewer steps, and output that only grew.
abbrev pub Onward : ℕ → Config → ℕ → Config → Type 0
Onward n c m d = (n ≤ m) × ((x : List ℕ) × (outs d ≡ outs c ++ x))

-- From c after n steps, with k left of the limit, the machine without limits gets to d; there all k were used, or the next step ends for the
-- reason y. The steps counted are m.
pub record Ran (G : Grammar) (T : Tables) (L : Limits) (k n m : ℕ) (c d : Config) (y : Why) : Type 0 where
  pub steps : ℕ
  pub runs : Reaches G T steps c d
  pub count : m ≡ counted y (n + steps)
  pub why : ((y ≡ Why.out-of-steps) × (steps ≡ k)) ⊎ (within L (next G T d) ≡ stops y)
