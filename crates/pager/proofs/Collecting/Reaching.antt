-- The states that are reached, by a stack: each marked one is reachable, and its targets are marked or it is on the stack. Assumes nothing.
use mathlib.Core.Bool.{Bool, true, false, true≢false}
use mathlib.Core.List.{List, ◌∷◌}
use mathlib.Core.Logic.{◌⊎◌, inl, inr}
use mathlib.Core.Path.{◌≡◌, refl, sym, ap, ◌∙◌, subst}
use Prim.Native.Nat.{ℕ, zero, suc, ◌+◌, ◌*◌, ◌-◌, ◌≤◌, ◌<◌}
use native.Mathlib.Omega.{arith}
use native.Mathlib.Decide.{dec_lt}
use lib.ListN.{length, get_or, set, replicate, length-replicate, length-set}
use lib.Seq.{ext_get_or, get_or-set_other}
use Rattle.block.proofs.ListLaws.{get_d-same}
use Rattle.pager.specs.Place.{State}
use Rattle.pager.specs.Graph.{nowhere}
use Rattle.pager.specs.Collect.{reach_of}
use Rattle.pager.specs.Rule7.{Reachable, Edges}
use Rattle.pager.specs.Collecting.{flags_of, count, stack_at, OnStack, RowReached}
use Rattle.pager.proofs.Marks.{mark-only, mark-stays, words-keep, words-set, count-le}
use Rattle.pager.proofs.Reach.{reach-iff, reach-size}
use Rattle.pager.proofs.Collecting.Flags.{flags-fit, flags-length, true_below}

-- state n's targets are marked
abbrev Expanded : List State → List Bool → ℕ → Type 0
Expanded ss ms n = (i t : ℕ) → get_or (get_or ss n nowhere).edges i 0 ≡ suc t → get_or ms t false ≡ true

pub record Reaching (ss : List State) (marks : List ℕ) (h : ℕ) : Type 0 where
  pub size : length marks ≡ 2 * length ss
  pub zeroth : get_or (flags_of marks) 0 false ≡ true
  pub sound : (k : ℕ) → get_or (flags_of marks) k false ≡ true → Reachable ss k
  pub stack : (j : ℕ) → j < h → get_or (flags_of marks) (stack_at marks j) false ≡ true
  pub closed : (n : ℕ) → get_or (flags_of marks) n false ≡ true → OnStack marks 0 h n ⊎ Expanded ss (flags_of marks) n
  pub room : h ≤ count (flags_of marks)

-- states not marked, and the stack's height
abbrev pub left : List ℕ → ℕ → ℕ
left marks h = length (flags_of marks) + h - count (flags_of marks)

module _ (ss : List State) (E : Edges ss) where
  -- ---- state 0 alone is marked, and on the stack
  flags-none : (n : ℕ) → flags_of (replicate (2 * n) 0) ≡ replicate n false
  flags-none zero = refl
  flags-none (suc n) = let z : 2 * suc n ≡ suc (suc (2 * n)) = omega arith in rw z (ap {B = List Bool} (λ l. false ∷ l) (flags-none n))

  first-flags : (n : ℕ) → 0 < n → flags_of (set (replicate (2 * n) 0) 0 1) ≡ true ∷ replicate (n - 1) false
  first-flags zero l = absurd (omega arith)
  first-flags (suc n) l =
      let z : 2 * suc n ≡ suc (suc (2 * n)) = omega arith in
      let y : suc n - 1 ≡ n = omega arith in
      rw (z, y) (ap {B = List Bool} (λ l. true ∷ l) (flags-none n))

  abbrev first : List ℕ
  first = set (replicate (2 * length ss) 0) 0 1

  flags : flags_of first ≡ true ∷ replicate (length ss - 1) false
  flags = first-flags (length ss) E.some

  zeroth : get_or (flags_of first) 0 false ≡ true
  zeroth = rw flags refl

  bottom : stack_at first 0 ≡ 0
  bottom = get_or-set_other (replicate (2 * length ss) 0) 0 1 1 0 (λ q. omega arith) ∙ get_d-same {A = ℕ} (2 * length ss) 1 0

  only : (k : ℕ) → get_or (flags_of first) k false ≡ true → k ≡ 0
  only zero m = refl
  only (suc k) m = absurd (true≢false (sym (rw flags at m) ∙ get_d-same (length ss - 1) k false))

  pub reach-begin : (marks : List ℕ) → marks ≡ replicate (2 * length ss) 0 → Reaching ss (set marks 0 1) 1
  reach-begin marks e =
      rw e
      (record {
        size = length-set (replicate (2 * length ss) 0) 0 1 ∙ length-replicate {A = ℕ} (2 * length ss) 0;
        zeroth = zeroth;
        sound = λ k m. subst (Reachable ss) (sym (only k m)) Reachable.start;
        stack = λ j l. let z : j ≡ 0 = omega arith in rw (z, bottom) zeroth;
        closed = λ n m. inl (0, omega arith, omega arith, bottom ∙ sym (only n m));
        room = rw flags (omega arith);
      })

  -- ---- a turn: the state on top is taken off, and its row read
  module _ (marks : List ℕ) (h : ℕ) (R : Reaching ss marks h) where
    -- the state on top, and where it is read
    pub top_below : 0 < h → get_or marks (2 * h - 1) 0 < length ss
    top_below l =
        let z : 2 * h - 1 ≡ 2 * (h - 1) + 1 = omega arith in
        rw z
        (omega (arith, true_below (flags_of marks) (stack_at marks (h - 1)) (R.stack (h - 1) (omega arith)), flags-length marks (length ss) R.size))

    pub top-at : 2 * h ≤ length marks
    top-at = omega (arith, R.room, count-le (flags_of marks), flags-fit marks)

    module _ (s : ℕ) (l : 0 < h) (q : s ≡ get_or marks (2 * h - 1) 0) (marks' : List ℕ) (e : ℕ) (same : length marks' ≡ length marks)
        (T : RowReached (get_or ss s nowhere).edges marks (h - 1) marks' e) where
      abbrev ms : List Bool
      ms = flags_of marks

      abbrev row : List ℕ
      row = (get_or ss s nowhere).edges

      top : s ≡ stack_at marks (h - 1)
      top = let z : 2 * h - 1 ≡ 2 * (h - 1) + 1 = omega arith in q ∙ ap (λ k. get_or marks k 0) z

      is-marked : get_or ms s false ≡ true
      is-marked = rw top (R.stack (h - 1) (omega arith))

      stays : (k : ℕ) → get_or ms k false ≡ true → get_or (flags_of marks') k false ≡ true
      stays k m = rw T.flags (words-keep (λ ns. get_or ns k false ≡ true) row ms (λ i ns u r. mark-stays ns (get_or row i 0) k r) m)

      expanded : Expanded ss (flags_of marks') s
      expanded i t w =
          rw T.flags
          (words-set row ms i t w (omega (arith, E.low s i, flags-length marks (length ss) R.size)))

      pub reach-turn : Reaching ss marks' e
      reach-turn =
          record {
            size = same ∙ R.size;
            zeroth = stays 0 R.zeroth;
            sound = rw T.flags
                (words-keep (λ ns. (k : ℕ) → get_or ns k false ≡ true → Reachable ss k) row ms
                (λ i ns u r k m. elim (mark-only ns (get_or row i 0) k m) [ inl w ↦ Reachable.step i (R.sound s is-marked) w | inr m ↦ r k m ])
                R.sound);
            stack = λ j m. on_stack j (dec_lt j (h - 1)) m;
            closed = λ n m. elim (T.new n m) [ inl o ↦ was n (R.closed n o) | inr o ↦ inl (o.0, omega arith, o.2, o.3) ];
            room = omega (arith, T.height, R.room);
          }
        where
          on_stack : (j : ℕ) → Dec (j < h - 1) → j < e → get_or (flags_of marks') (stack_at marks' j) false ≡ true
          on_stack j (yes k) m = rw (T.old j k) (stays (stack_at marks j) (R.stack j (omega arith)))
          on_stack j (no k) m = T.marked j (omega arith) m

          at : (j n : ℕ) → j < h → stack_at marks j ≡ n → Dec (j < h - 1) → OnStack marks' 0 e n ⊎ Expanded ss (flags_of marks') n
          at j n k o (yes m) = inl (j, omega arith, (let g = T.grows in omega arith), T.old j m ∙ o)
          at j n k o (no m) = let z : j ≡ h - 1 = omega arith in inr (subst (Expanded ss (flags_of marks')) (top ∙ ap (stack_at marks) (sym z) ∙ o) expanded)

          was : (n : ℕ) → OnStack marks 0 h n ⊎ Expanded ss ms n → OnStack marks' 0 e n ⊎ Expanded ss (flags_of marks') n
          was n (inl o) = at o.0 n o.2 o.3 (dec_lt o.0 (h - 1))
          was n (inr x) = inr (λ i t w. stays t (x i t w))

      pub reach-less : left marks' e < left marks h
      reach-less =
          omega (
            arith,
            T.height,
            R.room,
            count-le (flags_of marks),
            count-le (flags_of marks'),
            flags-length marks (length ss) R.size,
            flags-length marks' (length ss) (same ∙ R.size),
          )

  -- ---- the stack is empty
  pub reach-end : (marks : List ℕ) → Reaching ss marks 0 → flags_of marks ≡ reach_of ss
  reach-end marks R =
      ext_get_or false (flags_of marks) (reach_of ss) (flags-length marks (length ss) R.size ∙ sym (reach-size ss E))
      (λ k l. agree k (get_or (flags_of marks) k false) refl (get_or (reach_of ss) k false) refl)
    where
      found : {n : ℕ} → Reachable ss n → get_or (flags_of marks) n false ≡ true
      found Reachable.start = R.zeroth
      found (Reachable.step {n} {t} i r w) = elim (R.closed n (found r)) [ inl o ↦ absurd (let z = o.2 in omega arith) | inr x ↦ x i t w ]

      agree : (k : ℕ) (a : Bool) → get_or (flags_of marks) k false ≡ a → (c : Bool) → get_or (reach_of ss) k false ≡ c
          → get_or (flags_of marks) k false ≡ get_or (reach_of ss) k false
      agree k true p c q = p ∙ sym ((reach-iff ss E k).1 (R.sound k p))
      agree k false p true q = absurd (true≢false (sym (found ((reach-iff ss E k).0 q)) ∙ p))
      agree k false p false q = p ∙ sym q
