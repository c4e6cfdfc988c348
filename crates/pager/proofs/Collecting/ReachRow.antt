-- One row of edges: its targets are marked, and the new ones put on the stack, word by word. Assumes nothing.
use mathlib.Core.Bool.{Bool, true, false}
use mathlib.Core.List.{List, [], ◌∷◌, foldl, foldl-append}
use mathlib.Core.Logic.{◌⊎◌, inl, inr}
use mathlib.Core.Path.{◌≡◌, refl, sym, ap, ◌∙◌}
use Prim.Native.Nat.{ℕ, suc, ◌+◌, ◌*◌, ◌≤◌, ◌<◌}
use native.Mathlib.Omega.{arith}
use native.Mathlib.Decide.{dec_lt}
use native.Mathlib.Numerals.{add-one}
use lib.ListN.{length, get_or, set, take, length-set}
use lib.Seq.{take-suc, set-get_or, get_or-set_same, get_or-set_other}
use Rattle.pager.specs.Collect.{mark_to}
use Rattle.pager.specs.Collecting.{flags_of, count, stack_at, OnStack, RowReady, RowReached}
use Rattle.pager.proofs.Marks.{set-stays, set-only}
use Rattle.pager.proofs.Collecting.Flags.{flags-fit, flag-below, flag_true, flag-false, flag-set, flag-stack, count_set, count-lt}

module _ (row marks : List ℕ) (h i : ℕ) (marks' : List ℕ) (e : ℕ) (R : RowReached (take i row) marks h marks' e) (l : i < length row) where
  one_more : (w : ℕ) → w ≡ get_or row i 0 → foldl mark_to (flags_of marks) (take (i + 1) row) ≡ mark_to (foldl mark_to (flags_of marks) (take i row)) w
  one_more w q =
      rw (add-one, q) (ap (foldl mark_to (flags_of marks)) (take-suc row i 0 l) ∙ foldl-append mark_to (flags_of marks) (take i row) (get_or row i 0 ∷ []))

  -- a word that marks nothing new
  skip : mark_to (flags_of marks') (get_or row i 0) ≡ flags_of marks' → RowReached (take (i + 1) row) marks h marks' e
  skip q =
      record {
        grows = R.grows;
        flags = sym (one_more (get_or row i 0) refl ∙ ap (λ ms. mark_to ms (get_or row i 0)) (sym R.flags) ∙ q);
        old = R.old;
        marked = R.marked;
        new = R.new;
        height = R.height;
      }

  pub row-empty : get_or row i 0 ≡ 0 → RowReached (take (i + 1) row) marks h marks' e
  unfolding mark_to
  row-empty z = skip (ap (mark_to (flags_of marks')) z)

  module _ (t : ℕ) (w : get_or row i 0 ≡ suc t) (low : 2 * t + 1 < length marks') where
    known : (get_or marks' (2 * t) 0 ≡ 0 → ⊥) → RowReached (take (i + 1) row) marks h marks' e
    unfolding mark_to
    known p =
        let f : true ≡ get_or (flags_of marks') t false = sym (flag_true marks' t low p) in
        skip (ap (mark_to (flags_of marks')) w ∙ ap (set (flags_of marks') t) f ∙ set-get_or (flags_of marks') t false)

    module _ (z : get_or marks' (2 * t) 0 ≡ 0) (room : e ≤ count (flags_of marks')) where
      abbrev ms : List Bool
      ms = flags_of marks'

      abbrev after : List ℕ
      after = set (set marks' (2 * t) 1) (2 * e + 1) t

      not_yet : get_or ms t false ≡ false
      not_yet = flag-false marks' t low z

      t-low : t < length ms
      t-low = flag-below marks' t low

      -- there is room on the stack
      top-room : 2 * e + 1 < length marks'
      top-room = omega (arith, flags-fit marks', count-lt ms t t-low not_yet)

      after-flags : flags_of after ≡ set ms t true
      after-flags = flag-stack (set marks' (2 * t) 1) e t ∙ flag-set marks' t 1 low (omega arith)

      top : stack_at after e ≡ t
      top = get_or-set_same (set marks' (2 * t) 1) (2 * e + 1) t 0 (omega (arith, length-set marks' (2 * t) 1, top-room))

      below : (j : ℕ) → j < e → stack_at after j ≡ stack_at marks' j
      below j k =
          get_or-set_other (set marks' (2 * t) 1) (2 * e + 1) (2 * j + 1) t 0 (λ q. omega arith)
          ∙ get_or-set_other marks' (2 * t) (2 * j + 1) 1 0 (λ q. omega arith)

      push : RowReached (take (i + 1) row) marks h after (e + 1)
      unfolding mark_to
      push =
          record {
            grows = let g = R.grows in omega arith;
            flags = after-flags ∙ ap (λ ns. mark_to ns (suc t)) R.flags ∙ sym (one_more (suc t) (sym w));
            old = λ j k. below j (let g = R.grows in omega arith) ∙ R.old j k;
            marked = λ j a c. rw after-flags (is-marked j a (dec_lt j e) c);
            new = λ k q. is-new k (set-only ms t k (rw after-flags at q));
            height = omega (arith, R.height, ap count after-flags, count_set ms t t-low not_yet);
          }
        where
          is-marked : (j : ℕ) → h ≤ j → Dec (j < e) → j < e + 1 → get_or (set ms t true) (stack_at after j) false ≡ true
          is-marked j a (yes k) c = rw (below j k) (set-stays ms t (stack_at marks' j) (R.marked j a k))
          is-marked j a (no k) c =
              let q : j ≡ e = omega arith in
              rw (q, top) (get_or-set_same ms t true false t-low)

          is-new : (k : ℕ) → (k ≡ t) ⊎ (get_or ms k false ≡ true) → (get_or (flags_of marks) k false ≡ true) ⊎ OnStack after h (e + 1) k
          is-new k (inl q) = inr (e, R.grows, omega arith, top ∙ sym q)
          is-new k (inr q) =
              elim (R.new k q) [ inl o ↦ inl o | inr o ↦ inr (o.0, o.1, (let m = o.2 in omega arith), below o.0 o.2 ∙ o.3) ]

  -- the same of a row that the code is lent
  module _ (A : RowReady row marks h) (same : length marks' ≡ length marks) (t : ℕ) (w : get_or row i 0 ≡ suc t) where
    low : 2 * t + 1 < length marks'
    low = omega (arith, w, A.low i)

    pub row-known : (get_or marks' (2 * t) 0 ≡ 0 → ⊥) → RowReached (take (i + 1) row) marks h marks' e
    row-known n = known t w low n

    module _ (z : get_or marks' (2 * t) 0 ≡ 0) where
      few : e ≤ count (flags_of marks')
      few = omega (arith, R.height, A.room)

      pub row_room : (2 * t + 1 < length marks') × (2 * e + 1 < length marks')
      row_room = (low, top-room t w low z few)

      pub row-push : RowReached (take (i + 1) row) marks h (set (set marks' (2 * t) 1) (2 * e + 1) t) (e + 1)
      row-push = push t w low z few
