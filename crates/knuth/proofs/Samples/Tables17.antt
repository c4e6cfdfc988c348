-- Small tables and how the machine ends on them: each clause of refusal 17 of document 01, the order of the checks, and what each end counts.
-- Assumes nothing.
use mathlib.Core.List.{List, ◌∷◌, []}
use mathlib.Core.Option.{Option, none, some}
use mathlib.Core.Path.{◌≡◌, refl}
use Prim.Native.Nat.{ℕ, zero, suc}
use Rattle.knuth.specs.Grammar.{Sym, rule, Grammar}
use Rattle.knuth.specs.Tables.{Tables, Action, shift, reduce, accept, error}
use Rattle.knuth.specs.Machine.{at}
use Rattle.knuth.specs.Limits.{Limits, machine, ended, Why}
use Rattle.knuth.proofs.Samples.G1.{G₁, lhs₁}

-- Three states; the cells of state 0 are all a, those of the others all b, and the gotos all o.
abbrev cells : Action → Action → ℕ → Action
cells a b zero = a
cells a b (suc s) = b

abbrev small : Action → Action → Option ℕ → Tables
small a b o = record { states = 3; action = λ s t. cells a b s; goto = λ s r. o }

abbrev room : Limits
room = record { steps = 9; stack = 9; output = 9 }

-- ---- refusal 17, clause by clause, each where nothing else is wrong; the steps are those done before

pub shift-to-no-state : machine G₁ (small (shift 3) error none) room (0 ∷ []) ≡ ended Why.bad 0 (at 0 [] (0 ∷ []) [])
shift-to-no-state = refl

pub shift-of-the-end : machine G₁ (small (shift 1) (shift 1) none) room (0 ∷ []) ≡ ended Why.bad 1 (at 1 (0 ∷ []) [] [])
shift-of-the-end = refl

pub accept-at-another : machine G₁ (small accept error none) room (0 ∷ []) ≡ ended Why.bad 0 (at 0 [] (0 ∷ []) [])
accept-at-another = refl

pub reduce-of-no-production : machine G₁ (small (shift 1) (reduce 2) (some 2)) room (0 ∷ []) ≡ ended Why.bad 1 (at 1 (0 ∷ []) [] [])
reduce-of-no-production = refl

pub reduce-of-the-start : machine G₁ (small (shift 1) (reduce 0) (some 2)) room (0 ∷ []) ≡ ended Why.bad 1 (at 1 (0 ∷ []) [] [])
reduce-of-the-start = refl

pub too-few-slots : machine G₁ (small (reduce 1) error (some 2)) room (0 ∷ []) ≡ ended Why.bad 0 (at 0 [] (0 ∷ []) [])
too-few-slots = refl

pub no-goto : machine G₁ (small (shift 1) (reduce 1) none) room (0 ∷ []) ≡ ended Why.bad 1 (at 1 (0 ∷ []) [] [])
no-goto = refl

pub goto-to-no-state : machine G₁ (small (shift 1) (reduce 1) (some 3)) room (0 ∷ []) ≡ ended Why.bad 1 (at 1 (0 ∷ []) [] [])
goto-to-no-state = refl

-- ---- the table is looked at before the room, the output's room before the stack's, and the step limit before all

-- A grammar with an empty production, S' → S, S → ε: a reduce by it takes an output word and a slot.
abbrev body₀ : ℕ → List Sym
body₀ zero = rule 1 ∷ []
body₀ (suc p) = []

abbrev G₀ : Grammar
G₀ = record { tokens = 1; rules = 2; prods = 2; lhs = lhs₁; body = body₀; start = 0; end = 0 }

pub table-before-room : machine G₀ (small (reduce 1) error none) (record { steps = 9; stack = 1; output = 0 }) [] ≡ ended Why.bad 0 (at 0 [] [] [])
table-before-room = refl

pub table-before-stack : machine G₁ (small (shift 3) error none) (record { steps = 9; stack = 1; output = 0 }) (0 ∷ [])
    ≡ ended Why.bad 0 (at 0 [] (0 ∷ []) [])
table-before-stack = refl

pub output-before-stack : machine G₀ (small (reduce 1) error (some 1)) (record { steps = 9; stack = 1; output = 0 }) []
    ≡ ended Why.output-room 0 (at 0 [] [] [])
output-before-stack = refl

pub stack-alone : machine G₀ (small (reduce 1) error (some 1)) (record { steps = 9; stack = 1; output = 1 }) [] ≡ ended Why.stack-room 0 (at 0 [] [] [])
stack-alone = refl

pub stack-in-a-shift : machine G₁ (small (shift 1) error none) (record { steps = 9; stack = 1; output = 0 }) (0 ∷ [])
    ≡ ended Why.stack-room 0 (at 0 [] (0 ∷ []) [])
stack-in-a-shift = refl

pub no_step : machine G₁ (small (shift 3) error none) (record { steps = 0; stack = 1; output = 0 }) (0 ∷ [])
    ≡ ended Why.out-of-steps 0 (at 0 [] (0 ∷ []) [])
no_step = refl

-- ---- an accept and an error are steps

pub accept-counted : machine G₁ (small (shift 1) accept none) room (0 ∷ []) ≡ ended Why.accept 2 (at 1 (0 ∷ []) [] [])
accept-counted = refl

pub error-counted : machine G₁ (small (shift 1) error none) room (0 ∷ 0 ∷ []) ≡ ended Why.reject 2 (at 1 (0 ∷ []) (0 ∷ []) [])
error-counted = refl
