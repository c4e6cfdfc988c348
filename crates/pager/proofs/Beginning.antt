-- The first state, on zeroed buffers. Assumes nothing.
use mathlib.Core.List.{List, [], ◌∷◌, ◌++◌, append-nil}
use mathlib.Core.Path.{◌≡◌, refl, sym, ap, ap₂, ◌∙◌}
use Prim.Native.Nat.{ℕ, ◌+◌, ◌-◌, ◌*◌, ◌<◌, ◌≤◌}
use native.Mathlib.Nat.{mul-le-mul_right}
use native.Mathlib.Omega.{arith}
use lib.ListN.{length, set, replicate, length-append, length-replicate}
use lib.Seq.{paste}
use Rattle.block.specs.Limits.{WORDS, ITEM, DOTS, TOKENS, PRODS}
use Rattle.block.specs.Block.{tokens, rules, end_token_of, start_prod}
use Rattle.block.specs.Sets.{empty, with}
use Rattle.block.proofs.SetLaws.{empty-fits, with-fits}
use Rattle.block.proofs.Good.{placed}
use Rattle.block.proofs.Valid.{end_below, start-below}
use Rattle.itemset.specs.Rows.{words_of}
use Rattle.pager.specs.Lists.{each}
use Rattle.pager.specs.Place.{new, items}
use Rattle.pager.specs.Graph.{start_state}
use Rattle.pager.specs.Memory.{pad, item_words, spans_from, edge_words, mark_words}
use Rattle.pager.specs.Held.{Behind, limits_of}
use Rattle.pager.specs.Building.{Counted, Cleared}
use Rattle.pager.specs.declared.room.Room.{Room}
use Rattle.pager.proofs.Growing.{growing-start}
use Rattle.pager.proofs.Padded.{pad-one, pad-put, pad-zeros}

-- ---- nothing, padded
pub pad-none : (n : ℕ) → replicate n 0 ≡ pad n []
unfolding pad
pad-none n = ap (λ (k : ℕ). replicate k 0) (minus-zero n)
  where
    minus-zero : (n : ℕ) → n ≡ n - 0
    minus-zero n = omega arith

pad-blank : (n k : ℕ) → k ≤ n → replicate n 0 ≡ pad n (replicate k 0)
pad-blank n k h = pad-none n ∙ sym (pad-zeros n [] k (omega arith))

-- the second word written
pad-second : (n : ℕ) (z : List ℕ) (v : ℕ) → 1 < n → set (replicate n 0 ++ z) 1 v ≡ pad n (0 ∷ v ∷ []) ++ z
pad-second n z v h = ap (λ (t : List ℕ). set (t ++ z) 1 v) (pad-blank n 1 (omega arith)) ∙ pad-one n (0 ∷ []) z 1 v refl h

module _ {b : List ℕ} {room : Room} {items spans edges marks closed kernel : List ℕ} {z : Behind}
    (E : Cleared b room items spans edges marks closed kernel z) where
  pub end-small : end_token_of b < TOKENS
  end-small = let p = placed E.good in let a = p.tokens-most in omega (arith, end_below E.good)

  pub start_small : start_prod b < PRODS
  start_small = let p = placed E.good in let a = p.prods-most in omega (arith, start-below E.good)

  pub first-row : ITEM ≤ length items
  first-row = omega (arith, ap length E.items-is, length-append (replicate (ITEM * room.items) 0) z.items, length-replicate {A = ℕ} (ITEM * room.items) 0, E.some-items)

  pub first-span : 1 < length spans
  first-span = omega (arith, ap length E.spans-is, length-append (replicate (2 * room.states) 0) z.spans, length-replicate {A = ℕ} (2 * room.states) 0, E.some-states)

  pub first-mark : 1 < length marks
  first-mark = omega (arith, ap length E.marks-is, length-append (replicate (2 * room.states) 0) z.marks, length-replicate {A = ℕ} (2 * room.states) 0, E.some-states)

  abbrev end : List ℕ
  end = with empty (end_token_of b)

  pub start-items : (v : ℕ) (ws i' : List ℕ) → v ≡ DOTS * start_prod b → ws ≡ end → i' ≡ paste (set items 0 v) 1 ws WORDS
      → i' ≡ pad (ITEM * room.items) (item_words (start_state b ∷ [])) ++ z.items
  unfolding item_words each words_of start_state new
  start-items v ws i' p q e =
      let n : ℕ = ITEM * room.items in
      let first : ℕ = DOTS * start_prod b in
      let h = E.some-items in
      let l = (with-fits WORDS empty (end_token_of b) empty-fits).0 in
      e
      ∙ ap₂ (λ (v : ℕ) (ws : List ℕ). paste (set items 0 v) 1 ws WORDS) p q
      ∙ ap (λ (t : List ℕ). paste (set t 0 first) 1 end WORDS) (E.items-is ∙ ap (λ (t : List ℕ). t ++ z.items) (pad-none n))
      ∙ ap (λ (t : List ℕ). paste t 1 end WORDS) (pad-one n [] z.items 0 first refl (omega arith))
      ∙ ap (λ (k : ℕ). paste (pad n (first ∷ []) ++ z.items) 1 end k) (sym l)
      ∙ pad-put n (first ∷ []) z.items end (omega arith)
      ∙ ap (λ (t : List ℕ). pad n (first ∷ t) ++ z.items) (sym (append-nil end))
      ∙ ap (λ (t : List ℕ). pad n t ++ z.items) (sym (append-nil (first ∷ (end ++ []))))

  start-edges : edges ≡ pad (room.states * (rules b + tokens b)) (edge_words (start_state b ∷ [])) ++ z.edges
  unfolding edge_words each start_state new
  start-edges =
      let w : ℕ = rules b + tokens b in
      E.edges-is
      ∙ ap (λ (t : List ℕ). t ++ z.edges)
      (pad-blank (room.states * w) w (omega (arith, mul-le-mul_right {m = 1} {n = room.states} w E.some-states))
      ∙ ap (λ (t : List ℕ). pad (room.states * w) t) (sym (append-nil (replicate w 0))))

  pub begun : (i' : List ℕ) → i' ≡ pad (ITEM * room.items) (item_words (start_state b ∷ [])) ++ z.items
      → Counted b room (start_state b ∷ []) (record { states = 1; items = 1 }) i' (set spans 1 1) edges (set marks 1 1) z
  unfolding start_state new spans_from mark_words each items
  begun i' e =
      record {
        counts = refl;
        held =
            record {
              growing = growing-start b (limits_of room) (start-below E.good) E.some-states E.some-items;
              items-is = e;
              spans-is = ap (λ (t : List ℕ). set t 1 1) E.spans-is ∙ pad-second (2 * room.states) z.spans 1 (omega (arith, E.some-states));
              edges-is = start-edges;
              marks-is = ap (λ (t : List ℕ). set t 1 1) E.marks-is ∙ pad-second (2 * room.states) z.marks 1 (omega (arith, E.some-states));
            };
      }
