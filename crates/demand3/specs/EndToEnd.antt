-- Demand 3, of the code's own calls: the contracts of `build` and `run` say that they answer build_call and run_call, and leave what is said there.
-- Assumes nothing.
use Rattle.std.specs.Prelude.{List, ◌∷◌, reverse, ◌↔◌, ◌≢◌, ◌≡◌, ℕ, ◌+◌, ◌*◌, ◌≤◌, ◌<◌, suc, length, get_or}
use Rattle.knuth.specs.Derivation.{Derivation, forms}
use Rattle.knuth.specs.Canonical.{CanonicalConflict}
use Rattle.knuth.specs.Machine.{Config}
use Rattle.knuth.specs.Limits.{outs, ended, Why}
use Rattle.block.specs.Block.{tokens, rules, start_prod}
use Rattle.block.specs.Grammar.{grammar_of}
use Rattle.block.specs.First.{firsts_of}
use Rattle.pager.specs.Lists.{is}
use Rattle.pager.specs.Graph.{graph_of}
use Rattle.pager.specs.Given.{Given}
use Rattle.statetable.specs.Build.{Buffers, limits_of, turned_away, counts_of, build_call, leaves}
use Rattle.statetable.specs.Clean.{Clean, EndsClean}
use Rattle.statetable.specs.declared.call.Named.{Named}
use Rattle.machine.specs.Call.{Call, run_call}
use Rattle.machine.specs.Call as machine

-- A call of `run` on the rows that a build left for its states, wherever they stand now and whatever stands behind them, for the same block, and not turned away.
pub record OnTables (b : List ℕ) (states : ℕ) (l : Buffers) (a : Call) : Type 0 where
  pub block : a.block ≡ b
  pub number : a.states ≡ states
  pub actions : (i : ℕ) → i < states * tokens b → get_or a.actions i 0 ≡ get_or l.actions i 0
  pub gotos : (i : ℕ) → i < states * rules b → get_or a.gotos i 0 ≡ get_or l.gotos i 0
  pub room : machine.turned_away a ≡ 0

-- Enough steps and room: tokens + k + 1 of each.
abbrev pub Enough : Call → ℕ → Type 0
Enough a n = (n ≤ a.limit) × (n ≤ length a.stack) × (n ≤ length a.output)

-- What is then true of the block's grammar and of every run on the tables.
pub record Unambiguous (b : List ℕ) (states : ℕ) (l : Buffers) : Type 0 where
  -- no two rightmost derivations share a token string: the same productions, through the same forms
  pub one : (w ps qs : List ℕ) (d : Derivation (grammar_of b) ps w) (d' : Derivation (grammar_of b) qs w) → (ps ≡ qs) × (forms d ≡ forms d')
  -- each begins with the start production
  pub begins : (w ps : List ℕ) → Derivation (grammar_of b) ps w → (ρ : List ℕ) × (ps ≡ start_prod b ∷ reverse ρ)
  -- what is derivable is accepted, given enough, and the output is the derivation reversed, less its start production
  pub accepts : (a : Call) → OnTables b states l a → (ρ : List ℕ) → Derivation (grammar_of b) (start_prod b ∷ reverse ρ) a.input → Enough a (length a.input + length ρ + 1)
      → (c : Config) × (run_call a ≡ is (ended Why.accept (length a.input + length ρ + 1) c)) × (outs c ≡ ρ)
  -- what is accepted is derivable, under any limits
  pub only : (a : Call) → OnTables b states l a → (n : ℕ) (c : Config) → run_call a ≡ is (ended Why.accept n c)
      → Derivation (grammar_of b) (start_prod b ∷ reverse (outs c)) a.input × (n ≡ suc (length a.input + length (outs c)))
  -- no run meets a bad table
  pub safe : (a : Call) → OnTables b states l a → (n : ℕ) (c : Config) → run_call a ≢ is (ended Why.bad n c)

-- For every block and all sizes and limits for which `build` is not refused for room (1 to 7, 8, 9), whatever room the lists have.
pub record Demand3 (b : List ℕ) (n : Named) (l : Buffers) : Type 0 where
  pub exactly : EndsClean (build_call b n l) ↔ (¬ CanonicalConflict (grammar_of b))
  pub then : Given (build_call b n l) (λ x. Clean (counts_of x) → Unambiguous b (length x.states) (leaves b n l))

abbrev pub ClaimDemand3 : Type 0
ClaimDemand3 =
    (b : List ℕ) (n : Named) (l : Buffers) → turned_away b n l ≡ 0 → Given (graph_of b (firsts_of b) (limits_of n)) (λ ss. Demand3 b n l)
