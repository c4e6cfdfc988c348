-- What `make` leaves, from what the call `graph` and the filling leave: each buffer by itself, and the answer. Assumes nothing.
use mathlib.Core.Bool.{Bool, true, false, true≢false}
use mathlib.Core.List.{List, [], ◌∷◌, ◌++◌, append_assoc, map}
use mathlib.Core.Path.{◌≡◌, refl, sym, ap, ◌∙◌, subst}
use Prim.Native.Nat.{ℕ, ◌+◌, ◌-◌, ◌*◌, ◌≤◌, ◌<◌}
use native.Mathlib.Nat.{mul-le-mul_right}
use native.Mathlib.Omega.{arith}
use lib.ListN.{length, get_or, drop, replicate, length-append, length-replicate}
use lib.Seq.{drop_at}
use Rattle.std.specs.Prelude.{Result, Ok, Err}
use Rattle.block.specs.Block.{tokens, rules, prods}
use Rattle.block.specs.First.{firsts_of}
use Rattle.pager.specs.Lists.{each, Answer, is, refused, walk}
use Rattle.pager.specs.Place.{State, Limits}
use Rattle.pager.specs.Graph.{graph_of, nowhere}
use Rattle.pager.specs.Collect.{collect_of}
use Rattle.pager.specs.Memory.{pad, item_words, spans_from, edge_words}
use Rattle.pager.specs.Given.{Given}
use Rattle.pager.specs.Growing.{Growing}
use Rattle.pager.specs.Rules3to7.{Rules3to7}
use Rattle.pager.specs.Held.{STATES, number_of}
use Rattle.pager.specs.Call as graph
use Rattle.pager.specs.Call.{lent, item_part, span_part, edge_part, closed_part, zeroed, output, kept_rows_of, graph_call}
use Rattle.pager.specs.declared.call.Kept.{Kept}
use Rattle.pager.specs.declared.refusal.GraphRefusal.{GraphRefusal}
use Rattle.pager.specs.declared.refusal.GraphRefusal.TheVariants as refusals
use Rattle.pager.proofs.Padded.{length-pad, pad-long}
use Rattle.pager.proofs.Memory.{items-length, spans-length, edges-length, growing-sets, growing-width}
use Rattle.pager.proofs.CallLaws.{call-graph, lent_is}
use Rattle.pager.proofs.CallRules.{usable}
use Rattle.pager.proofs.Collected.{rules-3-to-7}
use Rattle.statetable.specs.Limits.{RR, SR}
use Rattle.statetable.specs.Refusals.{values_of, of_graph}
use Rattle.statetable.specs.Cells.{Rows, no_rows, cells_of}
use Rattle.statetable.specs.Marks.{shift_mark, core_marks, reduce_only}
use Rattle.statetable.specs.Laid.{words_rr, words_sr}
use Rattle.statetable.specs.ForFilling.{Fillable}
use Rattle.statetable.specs.ForTables.{flat, goto_words, given, GraphIn, TallyBy}
use Rattle.statetable.specs.Build.{Buffers, lent_all, limits_of, caps_of, with_rows, then_tables, build_of, counted, answer_of, written}
use Rattle.statetable.specs.BuildSteps.{Roomy, ForTabulate, Tabulated, kept_or}
use Rattle.statetable.specs.declared.records.Caps.{Caps}
use Rattle.statetable.specs.declared.records.Tally.{Tally}
use Rattle.statetable.specs.declared.call.Named.{Named}
use Rattle.statetable.specs.declared.call.Counts.{Counts}
use Rattle.statetable.specs.declared.refusal.BuildRefusal.{BuildRefusal}
use Rattle.statetable.proofs.BuildLaws.{no-refusal, graph_long, graph-room, tables-room}

-- ---- the states that the tables are of: those kept; none where the graph was refused
abbrev pub states_of : Answer (List State) → List State
states_of (is ss) = collect_of ss
states_of (refused why) = []

-- what holds of them: they fit the named sizes, and each can be filled
record Fit (b : List ℕ) (m : Limits) (ks : List State) : Type 0 where
  few : length ks ≤ m.states
  fit : length (item_words ks) ≤ item_part m
  pairs : length (spans_from 0 ks) ≤ span_part m
  edged : length (edge_words ks) ≤ edge_part b m
  fillable : (n : ℕ) → n < length ks → Fillable b (get_or ks n nowhere)

grown-fit : {b : List ℕ} {m : Limits} {ks : List State} → m.states ≤ STATES → Growing b m ks → Fit b m ks
grown-fit {b = b} {m = m} {ks = ks} fair G =
    let few = G.few in
    record {
      few = G.few;
      fit = let h = G.fit in omega (arith, items-length ks (growing-sets G));
      pairs = omega (arith, spans-length 0 ks);
      edged = omega (arith, edges-length b ks (growing-width G), mul-le-mul_right {m = length ks} {n = m.states} (rules b + tokens b) G.few);
      fillable =
          λ n l. let S = G.state n l in
          record { rows = S.rows; width = S.width; edge = λ i. (let h = S.edge i in omega arith) };
    }

none-fit : (b : List ℕ) (m : Limits) → Fit b m []
unfolding item_words spans_from edge_words each
none-fit b m = record { few = omega arith; fit = omega arith; pairs = omega arith; edged = omega arith; fillable = λ n l. absurd (omega arith) }

states-fit : (b : List ℕ) (m : Limits) (a : Answer (List State)) → m.states ≤ STATES → Given a (Rules3to7 b m) → Fit b m (states_of a)
states-fit b m (is ss) fair G = grown-fit fair G.kept
states-fit b m (refused why) fair G = none-fit b m

-- ---- the graph's outputs are the words of these states, padded
none-padded : (n : ℕ) → replicate n 0 ≡ pad n []
unfolding pad
none-padded n = ap (λ (k : ℕ). replicate k 0) (none-less n)
  where
    none-less : (n : ℕ) → n ≡ n - 0
    none-less n = omega arith

module _ (words : List State → List ℕ) (none : words [] ≡ []) where
  output-is : (a : Answer (List State)) (n : ℕ) → output a n words ≡ pad n (words (states_of a))
  output-is (is ss) n = refl
  output-is (refused why) n = none-padded n ∙ ap (pad n) (sym none)

  -- the words stand in front, room enough
  fronted : (a : Answer (List State)) (n : ℕ) (x after : List ℕ) → after ≡ output a n words ++ drop n x
      → (after ≡ words (states_of a) ++ (replicate (n - length (words (states_of a))) 0 ++ drop n x)) × (length (words (states_of a)) ≤ n → n ≤ length after)
  unfolding pad
  fronted a n x after e =
      let q : after ≡ pad n (words (states_of a)) ++ drop n x = e ∙ ap (λ (t : List ℕ). t ++ drop n x) (output-is a n) in (
        q ∙ append_assoc (words (states_of a)) (replicate (n - length (words (states_of a))) 0) (drop n x),
        λ h. subst (λ (t : List ℕ). n ≤ length t) (sym q) (pad-long n (words (states_of a)) (drop n x) h),
      )

-- ---- no states have no rows
no_cells : (b : List ℕ) (m : Caps) → cells_of b (firsts_of b) m [] ≡ is no_rows
unfolding cells_of walk
no_cells b m = refl

module _ (b : List ℕ) (m : Caps) where
  -- an output of the graph: it stays where the filling ends, and is zero where it had to stop
  module _ (words : List State → List ℕ) (n : ℕ) (x mid after : List ℕ) where
    pub graph-buffer : (a : Answer (List State)) → mid ≡ output a n words ++ drop n x → length (words (states_of a)) ≤ n
        → after ≡ kept_or (cells_of b (firsts_of b) m (states_of a)) n mid → after ≡ given (then_tables b m a) n (λ y. words y.states) x
    graph-buffer (is ss) e h q = go (cells_of b (firsts_of b) m (collect_of ss)) q
      where
        go : (c : Answer Rows) → after ≡ kept_or c n mid → after ≡ given (with_rows (collect_of ss) (length ss) c) n (λ y. words y.states) x
        go (is d) p = p ∙ e
        go (refused why) p =
            p
            ∙ ap (λ (t : List ℕ). replicate n 0 ++ drop n t) e
            ∙ ap (λ (t : List ℕ). replicate n 0 ++ t) (drop_at (pad n (words (collect_of ss))) (drop n x) n (length-pad n (words (collect_of ss)) h))
    graph-buffer (refused why) e h q = q ∙ ap (λ (c : Answer Rows). kept_or c n mid) (no_cells b m) ∙ e

  -- a table, a mark or a list: zero where there are no states
  module _ (words : List State → Rows → List ℕ) (none : words [] no_rows ≡ []) (n : ℕ) (x after : List ℕ) where
    pub table-buffer : (a : Answer (List State)) → after ≡ given (cells_of b (firsts_of b) m (states_of a)) n (λ d. words (states_of a) d) x
        → after ≡ given (then_tables b m a) n (λ y. words y.states y.rows) x
    table-buffer (is ss) q = go (cells_of b (firsts_of b) m (collect_of ss)) q
      where
        go : (c : Answer Rows) → after ≡ given c n (λ d. words (collect_of ss) d) x
            → after ≡ given (with_rows (collect_of ss) (length ss) c) n (λ y. words y.states y.rows) x
        go (is d) p = p
        go (refused why) p = p
    table-buffer (refused why) q =
        q
        ∙ ap (λ (c : Answer Rows). given c n (λ d. words [] d) x) (no_cells b m)
        ∙ ap (λ (t : List ℕ). pad n t ++ drop n x) none
        ∙ ap (λ (t : List ℕ). t ++ drop n x) (sym (none-padded n))

-- room that was zeroed twice
pub zeroed-twice : (n : ℕ) (x mid after : List ℕ) → mid ≡ zeroed n x → after ≡ zeroed n mid → after ≡ zeroed n x
zeroed-twice n x mid after e q =
    q
    ∙ ap (λ (t : List ℕ). replicate n 0 ++ drop n t) e
    ∙ ap (λ (t : List ℕ). replicate n 0 ++ t) (drop_at (replicate n 0) (drop n x) n (length-replicate {A = ℕ} n 0))

zeroed-room : (n : ℕ) (x after : List ℕ) → after ≡ zeroed n x → n ≤ length after
zeroed-room n x after e =
    omega (arith, ap length e, length-append (replicate n 0) (drop n x), length-replicate {A = ℕ} n 0)

-- ---- the buffers, one by one
lent-all-is : {g g' : graph.Buffers} {a o f s c y r t a' o' f' s' c' y' r' t' : List ℕ} → g ≡ g' → a ≡ a' → o ≡ o' → f ≡ f' → s ≡ s' → c ≡ c' → y ≡ y' → r ≡ r' → t ≡ t'
    → lent_all g a o f s c y r t ≡ lent_all g' a' o' f' s' c' y' r' t'
lent-all-is p1 p2 p3 p4 p5 p6 p7 p8 p9 = rw (p1, p2, p3, p4, p5, p6, p7, p8, p9) refl

-- ---- the answer
abbrev is-given : Answer Kept → Bool
is-given (is k) = true
is-given (refused why) = false

abbrev kept_of : Kept → Answer Kept → Kept
kept_of d (is k) = k
kept_of d (refused why) = d

abbrev why-of : Answer Kept → List ℕ
why-of (is k) = []
why-of (refused why) = why

-- the number of states that the tables are of
abbrev pub states_in : Result Kept GraphRefusal → ℕ
states_in (Ok k) = k.states
states_in (Err e) = 0

pub states-number : (g : Result Kept GraphRefusal) (a : Answer (List State)) → graph.answer_of g ≡ graph.counted a → states_in g ≡ length (states_of a)
states-number (Ok k) (is ss) e = ap (λ (x : Answer Kept). (kept_of k x).states) e
states-number (Ok k) (refused why) e = absurd (true≢false (ap is-given e))
states-number (Err w) (is ss) e = absurd (true≢false (sym (ap is-given e)))
states-number (Err w) (refused why) e = refl

-- what the graph and the filling come to
abbrev pub ended_by : Result Kept GraphRefusal → Result Tally BuildRefusal → Result Counts BuildRefusal
ended_by (Ok k) (Ok t) = Ok (record { states = k.states; items = k.items; before = k.before; rr = t.rr; sr = t.sr; count = t.count })
ended_by (Ok k) (Err e) = Err e
ended_by (Err g) r = Err (of_graph g)

graph-values : (e : GraphRefusal) → values_of (of_graph e) ≡ number_of e ∷ []
graph-values (refusals.Block e) = refl
graph-values refusals.RoomShort = refl
graph-values refusals.StateRoom = refl
graph-values refusals.ItemRoom = refl

pub answered : (b : List ℕ) (m : Caps) (g : Result Kept GraphRefusal) (a : Answer (List State)) (r : Result Tally BuildRefusal) → graph.answer_of g ≡ graph.counted a
    → TallyBy (cells_of b (firsts_of b) m (states_of a)) r → answer_of (ended_by g r) ≡ counted (then_tables b m a)
answered b m (Ok k) (is ss) r e T = go (cells_of b (firsts_of b) m (collect_of ss)) r T
  where
    kept : k ≡ kept_rows_of ss
    kept = ap (kept_of k) e

    go : (c : Answer Rows) (r : Result Tally BuildRefusal) → TallyBy c r → answer_of (ended_by (Ok k) r) ≡ counted (with_rows (collect_of ss) (length ss) c)
    go (is d) (Ok t) p =
        ap (λ (x : Kept). answer_of (ended_by (Ok x) (Ok t))) kept ∙ ap (λ (u : Tally). answer_of (ended_by (Ok (kept_rows_of ss)) (Ok u))) p
    go (is d) (Err w) p = absurd p
    go (refused why) (Ok t) p = absurd p
    go (refused why) (Err w) p = ap {B = Answer Counts} refused (sym p)
answered b m (Ok k) (refused why) r e T = absurd (true≢false (ap is-given e))
answered b m (Err w) (is ss) r e T = absurd (true≢false (sym (ap is-given e)))
answered b m (Err w) (refused why) r e T = ap {B = Answer Counts} refused (graph-values w) ∙ ap (λ (x : Answer Kept). refused (why-of x)) e

-- ---- after the call `graph`
module _ {b : List ℕ} {n : Named} {l : Buffers} (R : Roomy b n l) where
  abbrev made : Answer (List State)
  made = graph_of b (firsts_of b) (limits_of n)

  abbrev pub states-made : List State
  states-made = states_of made

  fits : Fit b (limits_of n) states-made
  fits =
      let G = graph-room R in
      states-fit b (limits_of n) made G.fair.states (rules-3-to-7 b (firsts_of b) (usable R.good) (limits_of n) G.some-states G.some-items)

  same_graph : (made ≡ graph_call b (limits_of n) l.graph) × (graph.written made b (limits_of n) l.graph ≡ graph.leaves b (limits_of n) l.graph)
  same_graph = call-graph b (limits_of n) l.graph (no-refusal R) (graph_long R)

  module _ (g : Result Kept GraphRefusal) (i s e k c q : List ℕ) (A : graph.answer_of g ≡ graph.counted (graph_call b (limits_of n) l.graph))
      (B : lent i s e k c q ≡ graph.leaves b (limits_of n) l.graph) where
    answers : graph.answer_of g ≡ graph.counted made
    answers = A ∙ ap graph.counted (sym same_graph.0)

    buffers : lent i s e k c q ≡ graph.written made b (limits_of n) l.graph
    buffers = B ∙ sym same_graph.1

    items-made : i ≡ output made (item_part (limits_of n)) item_words ++ drop (item_part (limits_of n)) l.graph.items
    items-made = ap (λ (x : graph.Buffers). x.items) buffers

    spans-made : s ≡ output made (span_part (limits_of n)) (spans_from 0) ++ drop (span_part (limits_of n)) l.graph.spans
    spans-made = ap (λ (x : graph.Buffers). x.spans) buffers

    edges-made : e ≡ output made (edge_part b (limits_of n)) edge_words ++ drop (edge_part b (limits_of n)) l.graph.edges
    edges-made = ap (λ (x : graph.Buffers). x.edges) buffers

    closed-made : c ≡ zeroed (closed_part b) l.graph.closed
    closed-made = ap (λ (x : graph.Buffers). x.closed) buffers

    -- the graph lies in the buffers
    graph-in : GraphIn b states-made i s e
    unfolding item_words spans_from edge_words each
    graph-in =
        record {
          few = (let h = fits.few in let f = (graph-room R).fair.states in omega arith);
          fillable = fits.fillable;
          items-behind = _;
          spans-behind = _;
          edges-behind = _;
          items-are = (fronted item_words refl made (item_part (limits_of n)) l.graph.items i items-made).0;
          spans-are = (fronted (spans_from 0) refl made (span_part (limits_of n)) l.graph.spans s spans-made).0;
          edges_are = (fronted edge_words refl made (edge_part b (limits_of n)) l.graph.edges e edges-made).0;
        }

    -- what the filling asks
    pub for-tabulate : (states : ℕ) → states ≡ states_in g
        → ForTabulate b n states i s e c l.actions l.gotos l.offered l.shifts l.cores l.only l.rr l.sr states-made
    unfolding item_words spans_from edge_words each
    for-tabulate states p =
        let T = tables-room R in
        let f = (graph-room R).fair in
        let N = states-number g made answers in
        record {
          good = R.good;
          graph = graph-in;
          number = p ∙ N;
          fit = (let h = fits.few in omega (arith, p, N));
          states-fair = f.states;
          items-fair = f.items;
          rr-fair = T.rr-fair;
          sr-fair = T.sr-fair;
          items-room = (fronted item_words refl made (item_part (limits_of n)) l.graph.items i items-made).1 fits.fit;
          spans-room = (fronted (spans_from 0) refl made (span_part (limits_of n)) l.graph.spans s spans-made).1 fits.pairs;
          edges_room = (fronted edge_words refl made (edge_part b (limits_of n)) l.graph.edges e edges-made).1 fits.edged;
          closed-room = zeroed-room (closed_part b) l.graph.closed c closed-made;
          actions-room = T.actions;
          gotos-room = T.gotos;
          offered-room = T.offered;
          shifts-room = T.shifts;
          cores-room = T.cores;
          only-room = T.only;
          rr-room = T.rr;
          sr-room = T.sr;
        }

    -- ---- after the filling
    pub answer-made : (r : Result Tally BuildRefusal) → TallyBy (cells_of b (firsts_of b) (caps_of n) states-made) r
        → answer_of (ended_by g r) ≡ counted (build_of b n)
    unfolding build_of
    answer-made r T = answered b (caps_of n) g made r answers T

    pub buffers-made : (t : Result Tally BuildRefusal) (i' s' e' c' actions' gotos' offered' shifts' cores' only' rr' sr' : List ℕ)
        → Tabulated (cells_of b (firsts_of b) (caps_of n) states-made) b n states-made t i s e l.actions l.gotos l.offered l.shifts l.cores l.only l.rr l.sr i' s' e' actions' gotos' offered' shifts' cores' only' rr' sr'
        → c' ≡ zeroed (closed_part b) c
        → lent_all (lent i' s' e' k c' q) actions' gotos' offered' shifts' cores' only' rr' sr' ≡ written (build_of b n) b n l
    unfolding build_of each
    buffers-made t i' s' e' c' actions' gotos' offered' shifts' cores' only' rr' sr' T z =
        lent-all-is
        (lent_is
        (graph-buffer b (caps_of n) item_words (item_part (limits_of n)) l.graph.items i i' made items-made fits.fit T.items-are)
        (graph-buffer b (caps_of n) (spans_from 0) (span_part (limits_of n)) l.graph.spans s s' made spans-made fits.pairs T.spans-are)
        (graph-buffer b (caps_of n) edge_words (edge_part b (limits_of n)) l.graph.edges e e' made edges-made fits.edged T.edges_are)
        (ap (λ (x : graph.Buffers). x.marks) buffers)
        (zeroed-twice (closed_part b) l.graph.closed c c' closed-made z)
        (ap (λ (x : graph.Buffers). x.kernel) buffers))
        (table-buffer b (caps_of n) (λ ss d. flat d.cells) refl (n.states * tokens b) l.actions actions' made T.actions-are)
        (table-buffer b (caps_of n) (λ ss d. goto_words b ss) refl (n.states * rules b) l.gotos gotos' made T.gotos-are)
        (table-buffer b (caps_of n) (λ ss d. flat d.offered) refl (n.states * tokens b) l.offered offered' made T.offered-are)
        (table-buffer b (caps_of n) (λ ss d. map shift_mark (flat d.cells)) refl (n.states * tokens b) l.shifts shifts' made T.shifts-are)
        (table-buffer b (caps_of n) (λ ss d. each (core_marks (prods b)) d.cells) refl (n.states * prods b) l.cores cores' made T.cores-are)
        (table-buffer b (caps_of n) (λ ss d. map (reduce_only (prods b)) d.cells) refl n.states l.only only' made T.only-are)
        (table-buffer b (caps_of n) (λ ss d. each words_rr d.told.rr) refl (RR * n.rr) l.rr rr' made T.rr-are)
        (table-buffer b (caps_of n) (λ ss d. each words_sr d.told.sr) refl (SR * n.sr) l.sr sr' made T.sr-are)
