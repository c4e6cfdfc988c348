-- A build that ends with no record and precedence count 0, and what is claimed of it: it comes exactly where canonical LR(1) has no conflict, and then the
-- lent tables are those of a checked automaton. Assumes nothing.
use Rattle.std.specs.Prelude.{List, ◌↔◌, ◌≡◌, ℕ, length}
use Rattle.knuth.specs.Canonical.{CanonicalConflict}
use Rattle.knuth.specs.Tables.{Agree}
use Rattle.knuth.specs.Automaton.{Automaton, tables}
use Rattle.knuth.specs.Checked.{Checked}
use Rattle.block.specs.Grammar.{grammar_of}
use Rattle.block.specs.First.{firsts_of}
use Rattle.pager.specs.Lists.{Answer, is, refused}
use Rattle.pager.specs.Graph.{graph_of}
use Rattle.pager.specs.Given.{Given}
use Rattle.statetable.specs.Read.{tables_in}
use Rattle.statetable.specs.Build.{Buffers, limits_of, turned_away, Built, counts_of, build_call, leaves}
use Rattle.statetable.specs.declared.call.Named.{Named}
use Rattle.statetable.specs.declared.call.Counts.{Counts}

-- no record in either list, and no choice made by precedence
pub record Clean (k : Counts) : Type 0 where
  pub rr : k.rr ≡ 0
  pub sr : k.sr ≡ 0
  pub count : k.count ≡ 0

-- the build ends so
abbrev pub EndsClean : Answer Built → Type 0
EndsClean (is x) = Clean (counts_of x)
EndsClean (refused why) = ⊥

-- For every block and all sizes that are not turned away (1 to 7) and whose graph fits (8, 9), whatever room the lists have.
abbrev pub ClaimClean : Type 0
ClaimClean =
    (b : List ℕ) (n : Named) (l : Buffers) → turned_away b n l ≡ 0
    → Given (graph_of b (firsts_of b) (limits_of n)) (λ ss. EndsClean (build_call b n l) ↔ (¬ CanonicalConflict (grammar_of b)))

-- What the buffers then hold, read as tables, agrees with a checked automaton.
pub record CheckedTables (b : List ℕ) (states : ℕ) (l : Buffers) : Type 1 where
  pub automaton : Automaton
  pub checked : Checked (grammar_of b) automaton
  pub agree : Agree (grammar_of b) (tables automaton) (tables_in b states l.actions l.gotos)

abbrev pub ClaimChecked : Type 1
ClaimChecked =
    (b : List ℕ) (n : Named) (l : Buffers)
    → Given (build_call b n l) (λ x. Clean (counts_of x) → CheckedTables b (length x.states) (leaves b n l))
