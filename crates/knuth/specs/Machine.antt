-- The shift-reduce machine over any tables, with no limits: one step, and runs of steps. Assumes nothing.
use Rattle.std.specs.Prelude.{Bool, true, false, ◌&&◌, not, ◌≢◌, ◌≡◌, ℕ, ◌<◌, zero, suc, ltb, eqb, drop, length}
use mathlib.Core.List.{List, [], ◌∷◌, ◌++◌, Memᴰ}
use Rattle.std.proofs.Math.Option.{Option, none, some}
use Rattle.knuth.specs.Grammar.{Grammar}
use Rattle.knuth.specs.Tables.{Tables, Action}

-- The stack as its top state and the states below it, nearest first; the tokens that remain; and the reductions so far, in order.
pub data Config : Type 0 where
  at : (top : ℕ) (below : List ℕ) (rest : List ℕ) (out : List ℕ) → Config

pub data Outcome : Type 0 where
  goes : Config → Outcome
  accepted : List ℕ → Outcome
  rejected : Outcome
  bad-table : Outcome

-- The lookahead: the first token that remains, or the end token.
abbrev pub look : Grammar → List ℕ → ℕ
look G [] = G.end
look G (t ∷ v) = t

-- A test of the table: where it fails, the table is bad.
abbrev pub guard : Bool → Outcome → Outcome
guard true o = o
guard false o = bad-table

-- A shift takes the next token, and goes to a state.
abbrev pub do-shift : Tables → ℕ → ℕ → List ℕ → List ℕ → List ℕ → Outcome
do-shift T s' s st [] out = bad-table
do-shift T s' s st (t ∷ v) out = guard (ltb s' T.states) (goes (at s' (s ∷ st) v out))

-- The goto of a reduce by p, once its body's states are popped, is to a state.
abbrev pub do-goto : Tables → Option ℕ → ℕ → ℕ → List ℕ → List ℕ → List ℕ → Outcome
do-goto T none p s st rest out = bad-table
do-goto T (some s') p s st rest out = guard (ltb s' T.states) (goes (at s' (s ∷ st) rest (out ++ p ∷ [])))

-- A reduce by p, over what is left of the stack after the pops: at least the first slot.
abbrev pub do-reduce : Grammar → Tables → ℕ → List ℕ → List ℕ → List ℕ → Outcome
do-reduce G T p [] rest out = bad-table
do-reduce G T p (s ∷ st) rest out = do-goto T (T.goto s (G.lhs p)) p s st rest out

abbrev pub do-accept : List ℕ → List ℕ → Outcome
do-accept [] out = accepted out
do-accept (t ∷ v) out = bad-table

-- A reduce is by a production, and not by the start production.
abbrev pub act : Grammar → Tables → Action → ℕ → List ℕ → List ℕ → List ℕ → Outcome
act G T (Action.shift s') s st rest out = do-shift T s' s st rest out
act G T (Action.reduce p) s st rest out = guard (ltb p G.prods && not (eqb p G.start)) (do-reduce G T p (drop (length (G.body p)) (s ∷ st)) rest out)
act G T Action.accept s st rest out = do-accept rest out
act G T Action.error s st rest out = rejected

-- One step.
abbrev pub next : Grammar → Tables → Config → Outcome
next G T (at s st rest out) = act G T (T.action s (look G rest)) s st rest out

-- What check 13 leaves: tokens of the grammar, none of them the end token.
abbrev pub Input : Grammar → List ℕ → Type 0
Input G w = (t : ℕ) → Memᴰ t w → (t < G.tokens) × (t ≢ G.end)

-- `Reaches n c c'`: n steps lead from c to c'.
pub data Reaches (G : Grammar) (T : Tables) : ℕ → Config → Config → Type 0 where
  stay : {c : Config} → Reaches G T zero c c
  then : {n : ℕ} {c c' c'' : Config} → next G T c ≡ goes c' → Reaches G T n c' c'' → Reaches G T (suc n) c c''

-- `Accepts w n ρ`: on the tokens w the machine accepts in its n-th step, with the reductions ρ.
pub record Accepts (G : Grammar) (T : Tables) (w : List ℕ) (n : ℕ) (ρ : List ℕ) : Type 0 where
  pub last : Config
  pub before : ℕ
  pub count : n ≡ suc before
  pub runs : Reaches G T before (at zero [] w []) last
  pub accepts : next G T last ≡ accepted ρ
