-- Growth keeps what is said of edges, and so does an edge drawn. Assumes nothing.
use mathlib.Core.List.{List}
use mathlib.Core.Path.{◌≡◌, sym, ap, ◌∙◌, subst}
use Prim.Native.Nat.{ℕ, suc}
use native.Mathlib.Decide.{ℕ_discrete}
use native.Mathlib.Omega.{arith}
use lib.ListN.{get_or, set}
use lib.Seq.{get_or-set_other}
use Rattle.knuth.specs.Grammar.{Sym, In}
use Rattle.knuth.specs.Kernel.{◌⊆◌}
use Rattle.knuth.specs.Automaton.{Before}
use Rattle.knuth.proofs.Linear.{⊑_trans, closed-mono}
use Rattle.block.specs.Grammar.{symbol, grammar_of}
use Rattle.itemset.specs.Rows.{Row}
use Rattle.itemset.specs.Kernel.{kernel_of}
use Rattle.pager.specs.Place.{State}
use Rattle.pager.specs.Graph.{nowhere, edge_at}
use Rattle.pager.specs.Growing.{Grown, Grows}
use Rattle.pager.specs.Automaton.{edge_of}
use Rattle.pager.specs.Rules3to5.{Link, NoOther}
use Rattle.pager.proofs.Symbols.{edge-at, edge-injective}
use Rattle.pager.proofs.Grown.{grown-under, grown-back}

pub before-mono : (b : List ℕ) (K L : List Row) → kernel_of K ⊆ kernel_of L → (X : Sym) (p d : ℕ) → Before (grammar_of b) (kernel_of K) X p d
    → Before (grammar_of b) (kernel_of L) X p d
before-mono b K L h X p d B = record { closed = closed-mono (grammar_of b) h B.closed; rest = B.rest; after = B.after }

pub link-grows : (b : List ℕ) (ss rr : List State) (K : List Row) (es : List ℕ) (X : Sym) → Grows ss rr → Link b ss K es X → Link b rr K es X
link-grows b ss rr K es X g L =
    let a = g.more in
    let c = L.below in
    let h = g.state L.to c in
    record {
      to = L.to;
      is = L.is;
      below = omega arith;
      leads =
          record {
            contains = ⊑_trans L.leads.contains (grown-under (get_or ss L.to nowhere) (get_or rr L.to nowhere) h);
            only = λ p d m. L.leads.only p d (grown-back (get_or ss L.to nowhere) (get_or rr L.to nowhere) h p d m);
          };
    }

pub others-grow : (b : List ℕ) (st rt : State) → Grown st rt → rt.edges ≡ st.edges → NoOther b st.rows st.edges
    → NoOther b rt.rows rt.edges
others-grow b st rt g e N X t i h =
    let (p, d, B) = N X t i (ap (λ es. get_or es (edge_of b X) 0) (sym e) ∙ h) in
    (p, d, before-mono b st.rows rt.rows (grown-under st rt g).items X p d B)

-- an edge drawn on x, a symbol behind a dot
pub others-set : (b : List ℕ) (K : List Row) (es : List ℕ) (x t p d : ℕ) → In (grammar_of b) (symbol x)
    → Before (grammar_of b) (kernel_of K) (symbol x) p d
    → NoOther b K es → NoOther b K (set es (edge_at b x) (suc t))
others-set b K es x t p d k B N X u i h = go (ℕ_discrete (edge_of b X) (edge_at b x))
  where
    go : Dec (edge_of b X ≡ edge_at b x) → (p : ℕ) × (d : ℕ) × Before (grammar_of b) (kernel_of K) X p d
    go (yes e) = (p, d, subst (λ Y. Before (grammar_of b) (kernel_of K) Y p d) (edge-injective b (symbol x) X k i (sym (e ∙ edge-at b x))) B)
    go (no n) = N X u i (sym (get_or-set_other es (edge_at b x) (edge_of b X) (suc t) 0 n) ∙ h)
