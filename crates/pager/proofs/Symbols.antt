-- A symbol, its word, and where the edge on it stands. Assumes nothing.
use mathlib.Core.Bool.{Bool, true, false, cond}
use mathlib.Core.List.{List}
use mathlib.Core.Path.{◌≡◌, refl, ap, ◌∙◌}
use Prim.Native.Nat.{ℕ, ◌+◌, ◌*◌, ◌/◌, ◌%◌, ◌<◌}
use native.Mathlib.Omega.{arith}
use lib.Dec.{eqb}
use borrow.Author.Tests.{eq-eqb, ne_eqb}
use Rattle.knuth.specs.Grammar.{Sym, rule, token, In}
use Rattle.block.specs.Block.{rules, tokens}
use Rattle.block.specs.Grammar.{symbol, grammar_of}
use Rattle.pager.specs.Graph.{edge_at}
use Rattle.pager.specs.Automaton.{edge_of}

-- the word of a symbol
abbrev pub word : Sym → ℕ
word (rule r) = 2 * r
word (token t) = 2 * t + 1

pub symbol-word : (X : Sym) → symbol (word X) ≡ X
symbol-word (rule r) =
    ap {B = Sym} (λ c. cond c (rule (2 * r / 2)) (token (2 * r / 2))) (eq-eqb (2 * r % 2) 0 (omega arith))
    ∙ ap {B = Sym} rule (let z : 2 * r / 2 ≡ r = omega arith in z)
symbol-word (token t) =
    ap {B = Sym} (λ c. cond c (rule ((2 * t + 1) / 2)) (token ((2 * t + 1) / 2))) (ne_eqb ((2 * t + 1) % 2) 0 (λ e. omega arith))
    ∙ ap {B = Sym} token (let z : (2 * t + 1) / 2 ≡ t = omega arith in z)

-- the edge on a word stands where the edge on its symbol stands
pub edge-at : (b : List ℕ) (x : ℕ) → edge_at b x ≡ edge_of b (symbol x)
unfolding edge_at
edge-at b x = go (eqb (x % 2) 0)
  where
    go : (c : Bool) → cond c (x / 2) (rules b + x / 2) ≡ edge_of b (cond c (rule (x / 2)) (token (x / 2)))
    go true = refl
    go false = refl

-- the edges on two symbols of the grammar stand apart
pub edge-injective : (b : List ℕ) (X Y : Sym) → In (grammar_of b) X → In (grammar_of b) Y → edge_of b X ≡ edge_of b Y → X ≡ Y
edge-injective b (rule r) (rule q) h k e = ap {B = Sym} rule e
edge-injective b (rule r) (token t) h k e = absurd (omega arith)
edge-injective b (token t) (rule r) h k e = absurd (omega arith)
edge-injective b (token t) (token u) h k e = ap {B = Sym} token (let z : t ≡ u = omega arith in z)

pub edge-below : (b : List ℕ) (X : Sym) → In (grammar_of b) X → edge_of b X < rules b + tokens b
edge-below b (rule r) h = omega arith
edge-below b (token t) h = omega arith
