-- What is claimed of the call `graph` beyond its contract: wherever it gives states, they are those of rules 3 to 7; it refuses with the
-- numbers 1 to 9; its work room is bounded; and no two outcomes meet the contract. Assumes nothing.
use Rattle.std.specs.Prelude.{Result, List, [], ◌∷◌, ◌≡◌, ℕ, ◌+◌, ◌*◌, ◌≤◌}
use Rattle.block.specs.Block.{tokens, rules, prods, symbols}
use Rattle.pager.specs.Lists.{refused}
use Rattle.pager.specs.Place.{Limits}
use Rattle.pager.specs.Given.{Given}
use Rattle.pager.specs.Rules3to7.{Rules3to7}
use Rattle.pager.specs.Call.{Buffers, mark_part, closed_part, kernel_part, graph_call, counted, answer_of, leaves}
use Rattle.pager.specs.declared.call.Kept.{Kept}
use Rattle.pager.specs.declared.refusal.GraphRefusal.{GraphRefusal}

-- of any words, any named sizes, any lent buffers
abbrev pub ClaimCall : Type 1
ClaimCall = (b : List ℕ) (m : Limits) (l : Buffers) → Given (graph_call b m l) (Rules3to7 b m)

-- why is a number from lo to hi, and no more
abbrev pub Number : ℕ → ℕ → List ℕ → Type 0
Number lo hi why = (n : ℕ) × (why ≡ n ∷ []) × (lo ≤ n) × (n ≤ hi)

abbrev pub ClaimNumbers : Type 0
ClaimNumbers = (b : List ℕ) (m : Limits) (l : Buffers) (why : List ℕ) → graph_call b m l ≡ refused why → Number 1 9 why

-- work room is not above document 01's bound
abbrev pub ClaimWork : Type 0
ClaimWork =
    (b : List ℕ) (m : Limits) (n : ℕ) → n ≡ 16 * (m.states + m.items + tokens b + rules b + prods b + symbols b)
    → (mark_part m ≤ n) × (closed_part b ≤ n) × (kernel_part b ≤ n)

-- an answer and buffers that the contract allows
pub record Allowed (b : List ℕ) (m : Limits) (before : Buffers) (r : Result Kept GraphRefusal) (after : Buffers) : Type 0 where
  pub answer : answer_of r ≡ counted (graph_call b m before)
  pub buffers : after ≡ leaves b m before

abbrev pub ClaimOne : Type 0
ClaimOne =
    (b : List ℕ) (m : Limits) (before : Buffers) (r r' : Result Kept GraphRefusal) (after after' : Buffers)
    → Allowed b m before r after → Allowed b m before r' after' → (r ≡ r') × (after ≡ after')
