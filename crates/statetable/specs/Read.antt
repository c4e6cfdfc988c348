-- Lent words read as tables, whatever they are. Assumes nothing.
use Rattle.std.specs.Prelude.{List, ℕ, ◌+◌, ◌*◌, get_or}
use Rattle.knuth.specs.Tables.{Tables}
use Rattle.block.specs.Block.{tokens, rules}
use Rattle.pager.specs.Automaton.{target}
use Rattle.statetable.specs.Cell.{decode}

-- n states, the cells row by row, and the gotos row by row, each written as state + 1, 0 for none
abbrev pub tables_in : List ℕ → ℕ → List ℕ → List ℕ → Tables
tables_in b n actions gotos =
    record {
      states = n;
      action = λ s t. decode (get_or actions (s * tokens b + t) 0);
      goto = λ s r. target (get_or gotos (s * rules b + r) 0);
    }
