-- The call `graph`: when it refuses, what it answers, and what each lent buffer holds then. Assumes nothing.
use Rattle.std.specs.Prelude.{Bool, Result, Ok, Err, false, ◌||◌, cond, List, [], ◌∷◌, ◌++◌, ℕ, zero, suc, ◌+◌, ◌*◌, ltb, length, drop, replicate}
use Rattle.block.specs.Limits.{ITEM}
use Rattle.block.specs.Block.{tokens, rules, prods, symbols}
use Rattle.block.specs.Refusal.{refusal_of}
use Rattle.block.specs.First.{firsts_of}
use Rattle.pager.specs.Lists.{Answer, is, refused, unless, unchanged}
use Rattle.pager.specs.Place.{State, Limits, items}
use Rattle.pager.specs.Graph.{graph_of}
use Rattle.pager.specs.Collect.{collect_of}
use Rattle.pager.specs.Memory.{pad, item_words, spans_from, edge_words}
use Rattle.pager.specs.Held.{STATES, ITEMS, number_of}
use Rattle.pager.specs.declared.call.Kept.{Kept}
use Rattle.pager.specs.declared.refusal.GraphRefusal.{GraphRefusal}

-- ---- the lent buffers: items, spans and edges are outputs, the others work room
pub record Buffers : Type 0 where
  pub items : List ℕ
  pub spans : List ℕ
  pub edges : List ℕ
  pub marks : List ℕ
  pub closed : List ℕ
  pub kernel : List ℕ

abbrev pub lent : List ℕ → List ℕ → List ℕ → List ℕ → List ℕ → List ℕ → Buffers
lent items spans edges marks closed kernel =
    record { items = items; spans = spans; edges = edges; marks = marks; closed = closed; kernel = kernel }

-- the caller names S states and I kernel items
abbrev pub named : ℕ → ℕ → Limits
named S I = record { states = S; items = I }

-- ---- the words of each buffer that the named sizes need: its named part
abbrev pub item_part : Limits → ℕ
item_part m = ITEM * m.items

abbrev pub span_part : Limits → ℕ
span_part m = 2 * m.states

abbrev pub edge_part : List ℕ → Limits → ℕ
edge_part b m = m.states * (rules b + tokens b)

abbrev pub mark_part : Limits → ℕ
mark_part m = 2 * m.states

abbrev pub closed_part : List ℕ → ℕ
closed_part b = ITEM * (symbols b + prods b)

abbrev pub kernel_part : List ℕ → ℕ
kernel_part b = ITEM * symbols b

-- ---- 7: a named size out of range, or a lent buffer shorter than they need
-- of some pair, what there is (the first) is less than what is needed (the second)
unfoldable pub some_less : List (ℕ × ℕ) → Bool
some_less [] = false
some_less (p ∷ ps) = ltb p.0 p.1 || some_less ps

-- the buffers having so many words
unfoldable pub room_short : List ℕ → Limits → (items spans edges marks closed kernel : ℕ) → Bool
room_short b m items spans edges marks closed kernel =
    some_less
    ((m.states, 1)
    ∷ (STATES, m.states)
    ∷ (m.items, 1)
    ∷ (ITEMS, m.items)
    ∷ (items, item_part m)
    ∷ (spans, span_part m)
    ∷ (edges, edge_part b m)
    ∷ (marks, mark_part m)
    ∷ (closed, closed_part b)
    ∷ (kernel, kernel_part b)
    ∷ [])

abbrev pub is_short : List ℕ → Limits → Buffers → Bool
is_short b m l = room_short b m (length l.items) (length l.spans) (length l.edges) (length l.marks) (length l.closed) (length l.kernel)

-- the first number that is not 0
abbrev pub or_else : ℕ → ℕ → ℕ
or_else zero k = k
or_else (suc n) k = suc n

-- 1 to 7, in this order; 0 for none
unfoldable pub turned_away : List ℕ → Limits → Buffers → ℕ
turned_away b m l = or_else (refusal_of b) (cond (is_short b m l) 7 0)

-- ---- the states made, all of them before collection; or a refusal, 1 to 7 as above, then 8 or 9 as rule 5 meets them
unfoldable pub graph_call : List ℕ → Limits → Buffers → Answer (List State)
graph_call b m l = unless (turned_away b m l) (graph_of b (firsts_of b) m)

-- the states and items kept, and the state count before collection
abbrev pub kept_rows_of : List State → Kept
kept_rows_of ss = record { states = length (collect_of ss); items = items (collect_of ss); before = length ss }

abbrev pub counted : Answer (List State) → Answer Kept
counted (is ss) = is (kept_rows_of ss)
counted (refused why) = refused why

-- the values of an answer, or document 01's number of it
abbrev pub answer_of : Result Kept GraphRefusal → Answer Kept
answer_of (Ok k) = is k
answer_of (Err e) = refused (number_of e ∷ [])

-- ---- what the buffers hold at the end
-- n words zero, all behind them unchanged
abbrev pub zeroed : ℕ → List ℕ → List ℕ
zeroed n before = replicate n 0 ++ drop n before

-- the named part of an output: the words of the states kept, zero where nothing stands
abbrev pub output : Answer (List State) → ℕ → (List State → List ℕ) → List ℕ
output (is ss) n words = pad n (words (collect_of ss))
output (refused why) n words = replicate n 0

abbrev pub written : Answer (List State) → List ℕ → Limits → Buffers → Buffers
written a b m l =
    record {
      items = output a (item_part m) item_words ++ drop (item_part m) l.items;
      spans = output a (span_part m) (spans_from 0) ++ drop (span_part m) l.spans;
      edges = output a (edge_part b m) edge_words ++ drop (edge_part b m) l.edges;
      marks = zeroed (mark_part m) l.marks;
      closed = zeroed (closed_part b) l.closed;
      kernel = zeroed (kernel_part b) l.kernel;
    }

-- 1 to 7 change nothing
unfoldable pub leaves : List ℕ → Limits → Buffers → Buffers
leaves b m l = unchanged (turned_away b m l) l (written (graph_of b (firsts_of b) m) b m l)
