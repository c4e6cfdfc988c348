-- What is claimed of the call `build` beyond its contract: it refuses with the numbers 1 to 10 alone, 11 with two values, or 12 with three; and
-- no two outcomes meet the contract. Assumes nothing.
use Rattle.std.specs.Prelude.{List, [], ◌∷◌, ◌⊎◌, ◌≡◌, ℕ, Result}
use Rattle.pager.specs.Lists.{refused}
use Rattle.pager.specs.CallRules.{Number}
use Rattle.statetable.specs.Build.{Buffers, build_call, counted, answer_of, leaves}
use Rattle.statetable.specs.declared.call.Named.{Named}
use Rattle.statetable.specs.declared.call.Counts.{Counts}
use Rattle.statetable.specs.declared.refusal.BuildRefusal.{BuildRefusal}

-- 11: the reduce that was there and one more, or 0; and the production that came
abbrev pub Accepting : List ℕ → Type 0
Accepting why = (r : ℕ) × (p : ℕ) × (why ≡ 11 ∷ r ∷ p ∷ [])

-- 12: token, production, state
abbrev pub Mixed : List ℕ → Type 0
Mixed why = (t : ℕ) × (p : ℕ) × (s : ℕ) × (why ≡ 12 ∷ t ∷ p ∷ s ∷ [])

abbrev pub Numbered : List ℕ → Type 0
Numbered why = Number 1 10 why ⊎ (Accepting why ⊎ Mixed why)

abbrev pub ClaimNumbers : Type 0
ClaimNumbers = (b : List ℕ) (n : Named) (l : Buffers) (why : List ℕ) → build_call b n l ≡ refused why → Numbered why

-- an answer and buffers that the contract allows
pub record Allowed (b : List ℕ) (n : Named) (before : Buffers) (r : Result Counts BuildRefusal) (after : Buffers) : Type 0 where
  pub answer : answer_of r ≡ counted (build_call b n before)
  pub buffers : after ≡ leaves b n before

abbrev pub ClaimOne : Type 0
ClaimOne =
    (b : List ℕ) (n : Named) (before : Buffers) (r r' : Result Counts BuildRefusal) (after after' : Buffers)
    → Allowed b n before r after → Allowed b n before r' after' → (r ≡ r') × (after ≡ after')
