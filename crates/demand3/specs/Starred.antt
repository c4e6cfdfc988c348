-- What document 01's samples ask of the calls `build` and `run`, and what is seen then: what their contracts say of answer and buffers.
-- Assumes nothing.
use Rattle.std.specs.Prelude.{List, ℕ, ◌+◌, ◌*◌, length, get_or, take, replicate}
use Rattle.block.specs.Block.{tokens, rules, prods}
use Rattle.pager.specs.Lists.{Answer, is, refused}
use Rattle.pager.specs.Call as graph
use Rattle.pager.specs.Call.{item_part, span_part, edge_part, mark_part, closed_part, kernel_part}
use Rattle.statetable.specs.Limits.{RR, SR}
use Rattle.statetable.specs.Build.{Buffers, lent_all, limits_of, build_call, counted, leaves}
use Rattle.statetable.specs.declared.call.Named.{Named}
use Rattle.statetable.specs.declared.call.Counts.{Counts}
use Rattle.machine.specs.Call.{Call, called, run_call, Verdict, told, output_of}
use Rattle.machine.specs.declared.answers.Run.{Run}

-- ---- what is asked; S states, I items and a record in each list fit
pub data Ask : Type 0 where
  -- the tables of a block
  whole : (block : List ℕ) (S I : ℕ) → Ask
  -- the cell of state s and token t
  cell : (block : List ℕ) (S I s t : ℕ) → Ask
  -- kernels and edges
  states : (block : List ℕ) (S I : ℕ) → Ask
  -- how many of everything
  count : (block : List ℕ) (S I : ℕ) → Ask
  -- the machine on the tokens w with a step limit, on the tables of the block
  run : (block : List ℕ) (S I : ℕ) (w : List ℕ) (steps : ℕ) → Ask

-- ---- what is seen; each word list is a buffer's named part
pub data Seen : Type 0 where
  -- a number and its values
  refusal : (values : List ℕ) → Seen
  tables : Counts → (actions gotos : List ℕ) → Seen
  word : Counts → (action offered : ℕ) (rr sr : List ℕ) → Seen
  kernels : Counts → (items spans edges : List ℕ) → Seen
  number : Counts → Seen
  ends : Verdict → (place steps : ℕ) (output : List ℕ) → Seen

abbrev pub rooms : ℕ → ℕ → Named
rooms S I = record { states = S; items = I; rr = 1; sr = 1 }

-- ---- the call `build`, every buffer just as long as it must be, and full of sevens, so that a zero seen is one written
abbrev pub full : ℕ → List ℕ
full n = replicate n 7

abbrev pub lent : List ℕ → Named → Buffers
lent b n =
    let m = limits_of n in
    lent_all (graph.lent (full (item_part m)) (full (span_part m)) (full (edge_part b m)) (full (mark_part m)) (full (closed_part b)) (full (kernel_part b)))
    (full (n.states * tokens b)) (full (n.states * rules b)) (full (n.states * tokens b)) (full (n.states * tokens b)) (full (n.states * prods b))
    (full n.states) (full (RR * n.rr)) (full (SR * n.sr))

abbrev pub answer : List ℕ → Named → Answer Counts
answer b n = counted (build_call b n (lent b n))

abbrev pub left : List ℕ → Named → Buffers
left b n = leaves b n (lent b n)

-- ---- the call `run` on what that left
-- words of stack and of output, enough for every sample
abbrev pub SLOTS : ℕ
SLOTS = 64

abbrev pub call_of : List ℕ → Counts → Buffers → List ℕ → ℕ → Call
call_of b k l w steps = called b k.states l.actions l.gotos w steps (full SLOTS) (full SLOTS)

abbrev pub end_seen : List ℕ → Answer (Verdict × Run) → Seen
end_seen output (refused why) = refusal why
end_seen output (is (v, r)) = ends v r.at r.steps (take r.k output)

abbrev pub seen_run : Call → Seen
seen_run a = end_seen (output_of (run_call a) a.output) (told (length a.input) (run_call a))

-- ---- what is seen of an answer
abbrev pub seen_of : (Counts → Seen) → Answer Counts → Seen
seen_of f (refused why) = refusal why
seen_of f (is k) = f k

abbrev pub see : Ask → Seen
see (whole b S I) = let l = left b (rooms S I) in seen_of (λ k. tables k l.actions l.gotos) (answer b (rooms S I))
see (cell b S I s t) =
    let l = left b (rooms S I) in
    let i = s * tokens b + t in
    seen_of (λ k. word k (get_or l.actions i 0) (get_or l.offered i 0) l.rr l.sr) (answer b (rooms S I))
see (states b S I) = let l = left b (rooms S I) in seen_of (λ k. kernels k l.graph.items l.graph.spans l.graph.edges) (answer b (rooms S I))
see (count b S I) = seen_of (λ k. number k) (answer b (rooms S I))
see (run b S I w steps) = seen_of (λ k. seen_run (call_of b k (left b (rooms S I)) w steps)) (answer b (rooms S I))
