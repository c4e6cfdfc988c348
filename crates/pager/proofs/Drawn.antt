-- Where an edge stands in the buffer, and what the buffers hold after an edge is drawn or a state marked closed. Assumes nothing.
use mathlib.Core.Bool.{Bool, true, false, cond}
use mathlib.Core.List.{List, ◌++◌}
use mathlib.Core.Path.{◌≡◌, refl, sym, ap, ap₂, ◌∙◌}
use Prim.Native.Nat.{ℕ, suc, ◌+◌, ◌*◌, ◌/◌, ◌%◌, ◌<◌, ◌≤◌}
use native.Mathlib.Nat.{mul-le-mul_right, suc-mul}
use native.Mathlib.Omega.{arith}
use borrow.Author.Tests.{eq-eqb, ne_eqb}
use lib.Dec.{eqb}
use lib.ListN.{length, set}
use Rattle.knuth.specs.Grammar.{rule, token, In}
use Rattle.block.specs.Limits.{ITEM, RULES, TOKENS}
use Rattle.block.specs.Lists.{change}
use Rattle.block.specs.Block.{tokens, rules}
use Rattle.block.specs.Refusal.{Good}
use Rattle.block.specs.Grammar.{symbol, grammar_of}
use Rattle.block.proofs.ListLaws.{change-size}
use Rattle.block.proofs.Good.{placed}
use Rattle.itemset.specs.Rows.{words_of}
use Rattle.pager.specs.Place.{State, Limits}
use Rattle.pager.specs.Graph.{nowhere, edge_at, edge_to, mark}
use Rattle.pager.specs.Memory.{pad, item_words, edge_words, mark_words}
use Rattle.pager.specs.Held.{STATES, Behind, Held, count_of}
use Rattle.pager.proofs.Grown.{change-items}
use Rattle.pager.proofs.Growing.{growing-edge, growing-mark}
use Rattle.pager.proofs.Each.{each-still, each_set}
use Rattle.pager.proofs.Padded.{pad-set, pad-long}
use Rattle.pager.proofs.Memory.{spans-change, marks-length, marks-set, marks_of, edges-length, edges-still, growing-width}

-- ---- the place of an edge in a state
module _ (b : List ℕ) (x : ℕ) where
  pub edge-rule : x % 2 ≡ 0 → x / 2 ≡ edge_at b x
  unfolding edge_at
  edge-rule e = ap (λ (c : Bool). cond c (x / 2) (rules b + x / 2)) (sym (eq-eqb (x % 2) 0 e))

  pub edge-token : (x % 2 ≡ 0 → ⊥) → rules b + x / 2 ≡ edge_at b x
  unfolding edge_at
  edge-token d = ap (λ (c : Bool). cond c (x / 2) (rules b + x / 2)) (sym (ne_eqb (x % 2) 0 d))

  pub edge-small : edge_at b x ≤ rules b + x / 2
  unfolding edge_at
  edge-small = go (eqb (x % 2) 0)
    where
      go : (c : Bool) → cond c (x / 2) (rules b + x / 2) ≤ rules b + x / 2
      go true = omega arith
      go false = omega arith

  pub edge-low : In (grammar_of b) (symbol x) → edge_at b x < rules b + tokens b
  unfolding edge_at
  edge-low h = go (eqb (x % 2) 0) h
    where
      go : (c : Bool) → In (grammar_of b) (cond c (rule (x / 2)) (token (x / 2))) → cond c (x / 2) (rules b + x / 2) < rules b + tokens b
      go true k = omega arith
      go false k = omega arith

-- ---- and of a state's edges
pub index-most : {b : List ℕ} → Good b → (n r t : ℕ) → r ≡ rules b → t ≡ tokens b → n < STATES → n * (r + t) ≤ STATES * (RULES + TOKENS)
index-most {b} g n r t e f l =
    let p = placed g in
    let a = p.rules-most in
    let c = p.tokens-most in
    let u : n * (r + t) ≤ STATES * (r + t) = mul-le-mul_right {m = n} {n = STATES} (r + t) (omega arith) in
    omega arith

pub index_is : (b : List ℕ) (n x r t i : ℕ) → r ≡ rules b → t ≡ tokens b → i ≡ edge_at b x → n * (r + t) + i ≡ n * (rules b + tokens b) + edge_at b x
index_is b n x r t i e f h = ap₂ (λ (w j : ℕ). n * w + j) (ap₂ ◌+◌ e f) h

-- ---- a state changed that has as many rows: the numbers are the same
pub same_count : (f : State → State) → ((st : State) → length (f st).rows ≡ length st.rows) → (n : ℕ) (ss : List State)
    → count_of ss ≡ count_of (change f n ss)
same_count f h n ss = ap₂ (λ (a c : ℕ). record { states = a; items = c }) (sym (change-size f n ss)) (sym (change-items f h n ss))

module _ {b : List ℕ} {m : Limits} {ss : List State} {z : Behind} {i s e k : List ℕ} (H : Held b m ss z i s e k) (n : ℕ) (l : n < length ss) where
  abbrev w : ℕ
  w = rules b + tokens b

  edges-size : length (edge_words ss) ≡ length ss * w
  edges-size = edges-length b ss (growing-width H.growing)

  -- ---- an edge
  module _ (x : ℕ) (known : In (grammar_of b) (symbol x)) where
    within : n * w + edge_at b x < length (edge_words ss)
    within = omega (arith, edges-size, edge-low b x known, suc-mul n w, mul-le-mul_right {m = suc n} {n = length ss} w l)

    pub edge-inside : n * w + edge_at b x < length e
    edge-inside =
        let f = H.growing.few in
        omega (
          arith,
          within,
          edges-size,
          mul-le-mul_right {m = length ss} {n = m.states} w f,
          ap length H.edges-is,
          pad-long (m.states * w) (edge_words ss) z.edges (omega (arith, edges-size, mul-le-mul_right {m = length ss} {n = m.states} w f)),
        )

    edges-set : (t : ℕ) → set (edge_words ss) (n * w + edge_at b x) (suc t) ≡ edge_words (change (edge_to b x t) n ss)
    unfolding edge_to edge_words
    edges-set t = each_set (λ st. st.edges) nowhere w ss (growing-width H.growing) n l (edge_to b x t) (edge_at b x) (suc t) (edge-low b x known) refl

    pub held-edge : (t : ℕ) → t < length ss → Held b m (change (edge_to b x t) n ss) z i s (set e (n * w + edge_at b x) (suc t)) k
    unfolding edge_to item_words mark_words
    held-edge t u =
        record {
          growing = growing-edge b m n x t ss H.growing l u;
          items-is = H.items-is ∙ ap (λ (v : List ℕ). pad (ITEM * m.items) v ++ z.items) (sym (each-still (λ st. words_of st.rows) (edge_to b x t) (λ st. refl) n ss));
          spans-is = H.spans-is ∙ ap (λ (v : List ℕ). pad (2 * m.states) v ++ z.spans) (sym (spans-change (edge_to b x t) (λ st. refl) 0 n ss));
          edges-is = ap (λ (v : List ℕ). set v (n * w + edge_at b x) (suc t)) H.edges-is
              ∙ pad-set (m.states * w) (edge_words ss) z.edges (n * w + edge_at b x) (suc t) within
              ∙ ap (λ (v : List ℕ). pad (m.states * w) v ++ z.edges) (edges-set t);
          marks-is = H.marks-is ∙ ap (λ (v : List ℕ). pad (2 * m.states) v ++ z.marks) (sym (each-still marks_of (edge_to b x t) (λ st. refl) n ss));
        }

  -- ---- a mark
  pub held-mark : Held b m (change mark n ss) z i s e (set k (2 * n + 1) 0)
  unfolding mark item_words edge_words
  held-mark =
      record {
        growing = growing-mark b m n ss H.growing l;
        items-is = H.items-is ∙ ap (λ (v : List ℕ). pad (ITEM * m.items) v ++ z.items) (sym (each-still (λ st. words_of st.rows) mark (λ st. refl) n ss));
        spans-is = H.spans-is ∙ ap (λ (v : List ℕ). pad (2 * m.states) v ++ z.spans) (sym (spans-change mark (λ st. refl) 0 n ss));
        edges-is = H.edges-is ∙ ap (λ (v : List ℕ). pad (m.states * w) v ++ z.edges) (sym (edges-still mark (λ st. refl) n ss));
        marks-is =
            ap (λ (v : List ℕ). set v (2 * n + 1) 0) H.marks-is
            ∙ pad-set (2 * m.states) (mark_words ss) z.marks (2 * n + 1) 0 (omega (arith, marks-length ss))
            ∙ ap (λ (v : List ℕ). pad (2 * m.states) v ++ z.marks) (marks-set mark ss n 0 l refl refl);
      }
