-- Rules 3 to 5 as statements: what the states of the graph are, all of them closed. Assumes nothing.
use Rattle.std.specs.Prelude.{true, List, ◌≡◌, ℕ, suc, ◌≤◌, ◌<◌, length, get_or}
use Rattle.knuth.specs.Grammar.{Sym, Valid, In}
use Rattle.knuth.specs.Pager.{Made}
use Rattle.knuth.specs.Automaton.{Before, Target}
use Rattle.block.specs.Limits.{TOKENS}
use Rattle.block.specs.Block.{tokens}
use Rattle.block.specs.Grammar.{grammar_of}
use Rattle.block.specs.First.{Ahead}
use Rattle.itemset.specs.Rows.{Row}
use Rattle.itemset.specs.Kernel.{kernel_of}
use Rattle.itemset.specs.Ready.{Ready}
use Rattle.pager.specs.Place.{State, Limits}
use Rattle.pager.specs.Graph.{nowhere}
use Rattle.pager.specs.Automaton.{edge_of}
use Rattle.pager.specs.Growing.{Growing}

-- what is asked of a block and its FIRST sets: rule 1, a valid grammar, and tokens that fit a set
pub record Usable (b : List ℕ) (F : List Ahead) : Type 0 where
  pub ready : Ready b F
  pub valid : Valid (grammar_of b)
  pub few : tokens b ≤ TOKENS

-- each kernel is made from the start kernel
abbrev pub AllMade : List ℕ → List State → Type 1
AllMade b ss = (n : ℕ) → n < length ss → Made (grammar_of b) (kernel_of (get_or ss n nowhere).rows)

-- the edge on X, among the edges es of a state with the rows K, leads to a state that contains the goto, with the same items
pub record Link (b : List ℕ) (ss : List State) (K : List Row) (es : List ℕ) (X : Sym) : Type 0 where
  pub to : ℕ
  pub is : get_or es (edge_of b X) 0 ≡ suc to
  pub below : to < length ss
  pub leads : Target (grammar_of b) (kernel_of K) X (kernel_of (get_or ss to nowhere).rows)

-- there is an edge for each symbol behind a dot of the closure, and for no other
abbrev pub Links : List ℕ → List State → List Row → List ℕ → Type 0
Links b ss K es = (X : Sym) (p d : ℕ) → Before (grammar_of b) (kernel_of K) X p d → Link b ss K es X

abbrev pub NoOther : List ℕ → List Row → List ℕ → Type 0
NoOther b K es =
    (X : Sym) (t : ℕ) → In (grammar_of b) X → get_or es (edge_of b X) 0 ≡ suc t → (p : ℕ) × (d : ℕ) × Before (grammar_of b) (kernel_of K) X p d

-- the edges of every state, closed or not, and of every closed one
pub record Linked (b : List ℕ) (ss : List State) : Type 0 where
  pub others : (n : ℕ) → n < length ss → NoOther b (get_or ss n nowhere).rows (get_or ss n nowhere).edges
  pub links : (n : ℕ) → n < length ss → (get_or ss n nowhere).closed ≡ true → Links b ss (get_or ss n nowhere).rows (get_or ss n nowhere).edges

-- the graph at the end
pub record Graphed (b : List ℕ) (m : Limits) (ss : List State) : Type 1 where
  pub growing : Growing b m ss
  pub closed : (n : ℕ) → n < length ss → (get_or ss n nowhere).closed ≡ true
  pub made : AllMade b ss
  pub linked : Linked b ss
