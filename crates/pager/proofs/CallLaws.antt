-- The parts of the call `graph`: tests in a row, the room that neither test refuses, what clearing leaves, and the ways out. Assumes nothing.
use mathlib.Core.Bool.{Bool, true, false, ◌||◌, or-false, cond, true≢false}
use mathlib.Core.List.{List, [], ◌∷◌, ◌++◌}
use mathlib.Core.Path.{◌≡◌, refl, sym, ap, ◌∙◌, subst}
use Prim.Native.Nat.{ℕ, zero, suc, ◌+◌, ◌*◌, ◌≤◌, ◌<◌}
use native.Mathlib.Nat.{mul-le-mul_right}
use native.Mathlib.Omega.{arith}
use borrow.Author.Tests.{ltb-false, lt-ltb, le-ltb}
use lib.Dec.{ltb}
use lib.ListN.{length, drop, replicate}
use lib.Seq.{drop_at}
use Rattle.block.specs.Limits.{TOKENS, RULES, PRODS, SYMBOLS}
use Rattle.block.specs.Block.{tokens, rules}
use Rattle.block.specs.Refusal.{refusal_of, Good}
use Rattle.block.specs.Refused.{number_of}
use Rattle.block.specs.declared.refusal.BlockRefusal.{BlockRefusal}
use Rattle.block.specs.declared.refusal.BlockRefusal.TheVariants.{BadHeader, TooLarge, BadProduction, BadStart, BadSymbol, BadPrecedence}
use Rattle.block.specs.First.{firsts_of}
use Rattle.block.proofs.Good.{placed}
use Rattle.pager.specs.Lists.{refused, unless, unchanged}
use Rattle.pager.specs.Place.{State, Limits}
use Rattle.pager.specs.Graph.{graph_of}
use Rattle.pager.specs.Memory.{pad, item_words, spans_from, edge_words, mark_words}
use Rattle.pager.specs.Held.{STATES, ITEMS, Behind, Held, limits_of}
use Rattle.pager.specs.Call.{Buffers, lent, item_part, span_part, edge_part, mark_part, closed_part, kernel_part, some_less, room_short, is_short, or_else, turned_away, graph_call, written, leaves, zeroed}
use Rattle.pager.specs.CallSteps.{Roomy}
use Rattle.pager.specs.declared.room.Room.{Room}
use Rattle.pager.proofs.Padded.{length-pad, pad-long}
use Rattle.pager.proofs.Memory.{items-length, spans-length, marks-length, edges-length, growing-sets, growing-width}

-- ---- tests in a row
module _ (a n : ℕ) (ps : List (ℕ × ℕ)) where
  pub here : a < n → true ≡ some_less ((a, n) ∷ ps)
  unfolding some_less
  here h = rw (lt-ltb a n h) refl

  pub past : true ≡ some_less ps → true ≡ some_less ((a, n) ∷ ps)
  unfolding some_less
  past e = go (ltb a n)
    where
      go : (x : Bool) → true ≡ (x || some_less ps)
      go true = refl
      go false = e

  pub next : (r : Bool) → n ≤ a → r ≡ some_less ps → r ≡ some_less ((a, n) ∷ ps)
  unfolding some_less
  next r h e = rw (le-ltb a n h) e

  -- a test that failed, and the rest of the row
  pub at_least : some_less ((a, n) ∷ ps) ≡ false → (n ≤ a) × (some_less ps ≡ false)
  unfolding some_less
  at_least e = go (ltb a n) refl e
    where
      go : (x : Bool) → ltb a n ≡ x → (x || some_less ps) ≡ false → (n ≤ a) × (some_less ps ≡ false)
      go true q f = absurd (true≢false f)
      go false q f = (ltb-false a n q, f)

-- the last test
pub last : (a n : ℕ) → ltb a n ≡ some_less ((a, n) ∷ [])
unfolding some_less
last a n = sym (or-false (ltb a n))

-- ---- neither a bad block nor 7
pub roomy : (b : List ℕ) (room : Room) (l : Buffers) → refusal_of b ≡ 0
    → is_short b (limits_of room) l ≡ false → Roomy b room l
unfolding room_short
roomy b room l g e =
    let (p1, e1) = at_least room.states 1 _ e in
    let (p2, e2) = at_least STATES room.states _ e1 in
    let (p3, e3) = at_least room.items 1 _ e2 in
    let (p4, e4) = at_least ITEMS room.items _ e3 in
    let (p5, e5) = at_least (length l.items) (item_part (limits_of room)) _ e4 in
    let (p6, e6) = at_least (length l.spans) (span_part (limits_of room)) _ e5 in
    let (p7, e7) = at_least (length l.edges) (edge_part b (limits_of room)) _ e6 in
    let (p8, e8) = at_least (length l.marks) (mark_part (limits_of room)) _ e7 in
    let (p9, e9) = at_least (length l.closed) (closed_part b) _ e8 in
    record {
      good = record { unrefused = g };
      fair = record { states = p2; items = p4 };
      some-states = p1;
      some-items = p3;
      items = p5;
      spans = p6;
      edges = p7;
      marks = p8;
      closed = p9;
      kernel = (at_least (length l.kernel) (kernel_part b) [] e9).0;
    }

-- a row of edges for each state is not too large
pub edge-part : (s w : ℕ) → s ≤ STATES → w ≤ RULES + TOKENS → s * w ≤ STATES * (RULES + TOKENS)
edge-part s w h g = let q = mul-le-mul_right {m = s} {n = STATES} w h in omega arith

-- ---- what stands behind states, when they are cleared
module _ {b : List ℕ} {m : Limits} {ss : List State} {z : Behind} {i s e k : List ℕ} (H : Held b m ss z i s e k) where
  behind : (n : ℕ) (ws t xs : List ℕ) → length ws ≤ n → xs ≡ pad n ws ++ t → (n ≤ length xs) × (zeroed n xs ≡ replicate n 0 ++ t)
  behind n ws t xs h q = (
    subst (λ (x : List ℕ). n ≤ length x) (sym q) (pad-long n ws t h),
    ap (λ (x : List ℕ). replicate n 0 ++ x) (ap (drop n) q ∙ drop_at (pad n ws) t n (length-pad n ws h)),
  )

  pub items-clear : (item_part m ≤ length i) × (zeroed (item_part m) i ≡ replicate (item_part m) 0 ++ z.items)
  items-clear =
      behind (item_part m) (item_words ss) z.items i
      (let h = H.growing.fit in omega (arith, items-length ss (growing-sets H.growing))) H.items-is

  pub spans-clear : (span_part m ≤ length s) × (zeroed (span_part m) s ≡ replicate (span_part m) 0 ++ z.spans)
  spans-clear = behind (span_part m) (spans_from 0 ss) z.spans s (let h = H.growing.few in omega (arith, spans-length 0 ss)) H.spans-is

  pub edges-clear : (edge_part b m ≤ length e) × (zeroed (edge_part b m) e ≡ replicate (edge_part b m) 0 ++ z.edges)
  edges-clear =
      behind (edge_part b m) (edge_words ss) z.edges e
      (omega (arith, edges-length b ss (growing-width H.growing), mul-le-mul_right {m = length ss} {n = m.states} (rules b + tokens b) H.growing.few))
      H.edges-is

  pub marks-clear : (mark_part m ≤ length k) × (zeroed (mark_part m) k ≡ replicate (mark_part m) 0 ++ z.marks)
  marks-clear = behind (mark_part m) (mark_words ss) z.marks k (let h = H.growing.few in omega (arith, marks-length ss)) H.marks-is

-- ---- the buffers, one by one
pub lent_is : {i s e k c n i' s' e' k' c' n' : List ℕ} → i ≡ i' → s ≡ s' → e ≡ e' → k ≡ k' → c ≡ c' → n ≡ n' → lent i s e k c n ≡ lent i' s' e' k' c' n'
lent_is p q r t u v = rw (p, q, r, t, u, v) refl

-- ---- a refused block has a number above 0
pub number-some : (e : BlockRefusal) → number_of e ≡ 0 → ⊥
number-some BadHeader e = omega arith
number-some TooLarge e = omega arith
number-some BadProduction e = omega arith
number-some BadStart e = omega arith
number-some BadSymbol e = omega arith
number-some BadPrecedence e = omega arith

-- ---- the ways out
module _ (b : List ℕ) (m : Limits) (l : Buffers) where
  away : (n : ℕ) → turned_away b m l ≡ n → (unless n (graph_of b (firsts_of b) m) ≡ graph_call b m l) × (unchanged n l (written (graph_of b (firsts_of b) m) b m l) ≡ leaves b m l)
  unfolding graph_call leaves
  away n e =
      (ap (λ (k : ℕ). unless k (graph_of b (firsts_of b) m)) (sym e), ap (λ (k : ℕ). unchanged k l (written (graph_of b (firsts_of b) m) b m l)) (sym e))

  -- 1 to 6
  pub call-bad : (n : ℕ) → n ≡ refusal_of b → (n ≡ 0 → ⊥) → (refused (n ∷ []) ≡ graph_call b m l) × (l ≡ leaves b m l)
  unfolding turned_away
  call-bad zero e d = absurd (d refl)
  call-bad (suc n) e d = away (suc n) (ap (λ (k : ℕ). or_else k (cond (is_short b m l) 7 0)) (sym e))

  tested : (t : Bool) → refusal_of b ≡ 0 → is_short b m l ≡ t → turned_away b m l ≡ cond t 7 0
  unfolding turned_away
  tested t e f = ap (λ (k : ℕ). or_else k (cond (is_short b m l) 7 0)) e ∙ ap (λ (x : Bool). cond x 7 0) f

  -- 7
  pub call-short : refusal_of b ≡ 0 → is_short b m l ≡ true → (refused (7 ∷ []) ≡ graph_call b m l) × (l ≡ leaves b m l)
  call-short e f = away 7 (tested true e f)

  -- the graph
  pub call-graph : refusal_of b ≡ 0 → is_short b m l ≡ false → (graph_of b (firsts_of b) m ≡ graph_call b m l) × (written (graph_of b (firsts_of b) m) b m l ≡ leaves b m l)
  call-graph e f = away 0 (tested false e f)
