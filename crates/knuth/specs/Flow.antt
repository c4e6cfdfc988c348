-- Flow: by what way a token goes from an item of a kernel to an item of the closure after a word. The way speaks of no kernel. Assumes nothing.
use Rattle.std.specs.Prelude.{List, [], ◌∷◌, ℕ, ◌<◌, suc}
use Rattle.knuth.specs.Grammar.{Grammar, Sym, rule}
use Rattle.knuth.specs.First.{Nullable}
use Rattle.knuth.specs.Kernel.{Kernel}
use Rattle.knuth.specs.Closure.{After}

-- within one closure
pub data Carry (G : Grammar) (p d : ℕ) : ℕ → ℕ → Type 0 where
  stay : Carry G p d p d
  down : {q e : ℕ} (r : ℕ) {w : List Sym} → Carry G p d q e → After G q e (rule (G.lhs r)) w → r < G.prods → Nullable G w → Carry G p d r 0

-- along a word
pub data Flow (G : Grammar) : ℕ → ℕ → List Sym → ℕ → ℕ → Type 0 where
  here : {p d q e : ℕ} → Carry G p d q e → Flow G p d [] q e
  past : {p d q e r f : ℕ} {X : Sym} {w g : List Sym} → Carry G p d r f → After G r f X w → Flow G r (suc f) g q e → Flow G p d (X ∷ g) q e

-- Token t flows to (q, e) along g from an item of K that has it.
pub record Flows (G : Grammar) (K : Kernel) (g : List Sym) (q e t : ℕ) : Type 0 where
  pub prod : ℕ
  pub dot : ℕ
  pub holds : K.tok prod dot t
  pub flow : Flow G prod dot g q e
