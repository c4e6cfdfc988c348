-- A run as it lies in lent memory. Assumes nothing.
use Rattle.std.specs.Prelude.{cond, ◌≡◌, ℕ, zero, suc, ◌-◌, ◌<◌, ◌≤◌, ltb, length, take, drop, replicate, Option, Some, None}
use mathlib.Core.List.{List, ◌∷◌, ◌++◌, reverse, Memᴰ}
use Rattle.knuth.specs.Machine.{Config, at}
use Rattle.knuth.specs.Limits.{height, outs, rest-of}
use Rattle.pager.specs.Memory.{pad}

-- the states on the stack, the top one first
abbrev pub tops : Config → List ℕ
tops (at top below rest out) = top ∷ below

-- n slots: the states from the first one up, zero above them
abbrev pub slots : ℕ → Config → List ℕ
slots n c = pad n (reverse (tops c))

-- the output: the reductions, and what stood behind them in the old one
abbrev pub reductions : Config → List ℕ → List ℕ
reductions c old = outs c ++ drop (length (outs c)) old

-- stack and output hold the configuration, and what it has left to read is the end of the input
pub record Lies (states : ℕ) (input stack output old : List ℕ) (c : Config) : Type 0 where
  pub stack_is : stack ≡ slots (length stack) c
  pub stack-fits : height c ≤ length stack
  pub output-is : output ≡ reductions c old
  pub output-fits : length (outs c) ≤ length old
  pub taken : List ℕ
  pub input-is : input ≡ taken ++ rest-of c
  pub known : (s : ℕ) → Memᴰ s (tops c) → s < states

-- the slots from `from` up to `to` zero, all others unchanged
abbrev pub cleared : ℕ → ℕ → List ℕ → List ℕ
cleared from to xs = take from xs ++ (replicate (to - from) 0 ++ drop to xs)

-- the state that a goto word goes to, of n states
abbrev pub state_in : ℕ → ℕ → Option ℕ
state_in n zero = None
state_in n (suc s) = cond (ltb s n) (Some s) None
