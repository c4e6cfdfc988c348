-- The states to be closed are found by their marks. Assumes nothing.
use mathlib.Core.Bool.{Bool, true, false, not, cond}
use mathlib.Core.List.{List, [], ◌∷◌}
use mathlib.Core.Option.{Option, none, some}
use mathlib.Core.Path.{◌≡◌, refl, sym, ap, ◌∙◌}
use Prim.Native.Nat.{ℕ, suc, ◌+◌, ◌*◌, ◌<◌, ◌≤◌}
use native.Mathlib.Omega.{arith}
use lib.ListN.{length, get_or, drop, length-drop}
use lib.Seq.{drop-cons}
use Rattle.pager.specs.Lists.{find}
use Rattle.pager.specs.Place.{State}
use Rattle.pager.specs.Graph.{nowhere, next_state}
use Rattle.pager.specs.Memory.{mark_words}
use Rattle.std.specs.Prelude.{Some, None}
use Rattle.std.specs.Prelude as std
use Rattle.pager.specs.Held.{as_option}
use Rattle.pager.proofs.ByIndex.{none-is}
use Rattle.pager.specs.Building.{Marks}
use Rattle.pager.proofs.Padded.{pad-at}
use Rattle.pager.proofs.Memory.{marks-length, marks-open}

-- a state that is to be closed
abbrev pub unclosed : State → Bool
unclosed st = not st.closed

-- ---- the search from number s on, one state further
pub find-end : (ss : List State) (s : ℕ) → length ss ≤ s → find unclosed s (drop s ss) ≡ none
unfolding find
find-end ss s l = go (drop s ss) (omega (arith, length-drop s ss))
  where
    go : (xs : List State) → length xs ≡ 0 → find unclosed s xs ≡ none
    go [] e = refl
    go (x ∷ xs) e = absurd (omega arith)

module _ {N : ℕ} {ss : List State} {z marks : List ℕ} (M : Marks N ss z marks) (s : ℕ) (l : s < length ss) where
  mark-at : get_or marks (2 * s + 1) 0 ≡ cond (get_or ss s nowhere).closed 0 1
  mark-at =
      ap (λ (t : List ℕ). get_or t (2 * s + 1) 0) M.is
      ∙ pad-at N (mark_words ss) z (2 * s + 1) (omega (arith, marks-length ss))
      ∙ marks-open ss s l

  at_front : find unclosed s (drop s ss) ≡ elim (not (get_or ss s nowhere).closed) [ true ↦ some s | false ↦ find unclosed (suc s) (drop (suc s) ss) ]
  unfolding find
  at_front = ap (λ (t : List State). find unclosed s t) (drop-cons ss s nowhere l)

  pub find-here : get_or marks (2 * s + 1) 0 ≡ 1 → find unclosed s (drop s ss) ≡ some s
  find-here e = at_front ∙ go (get_or ss s nowhere).closed (sym mark-at ∙ e)
    where
      go : (c : Bool) → ◌≡◌ {A = ℕ} (cond c 0 1) 1 → elim (not c) [ true ↦ some s | false ↦ find unclosed (suc s) (drop (suc s) ss) ] ≡ some s
      go true h = absurd (omega arith)
      go false h = refl

  pub find_past : (get_or marks (2 * s + 1) 0 ≡ 1 → ⊥) → find unclosed s (drop s ss) ≡ find unclosed (suc s) (drop (suc s) ss)
  find_past d = at_front ∙ go (get_or ss s nowhere).closed (λ h. d (mark-at ∙ h))
    where
      go : (c : Bool) → (◌≡◌ {A = ℕ} (cond c 0 1) 1 → ⊥)
          → elim (not c) [ true ↦ some s | false ↦ find unclosed (suc s) (drop (suc s) ss) ] ≡ find unclosed (suc s) (drop (suc s) ss)
      go true h = refl
      go false h = absurd (h refl)

-- ---- the state after the last one closed, else the first
module _ (last : ℕ) (ss : List State) where
  pub next-later : (s : ℕ) → Some s ≡ as_option (find unclosed (suc last) (drop (suc last) ss)) → Some s ≡ as_option (next_state last ss)
  unfolding next_state
  next-later s first = go (find unclosed (suc last) (drop (suc last) ss)) first
    where
      go : (o : Option ℕ) → Some s ≡ as_option o → Some s ≡ as_option (elim o [ some k ↦ some k | none ↦ find unclosed 0 ss ])
      go (some k) e = e
      go none e = absurd (let z : ◌≡◌ {A = ℕ} 0 1 = cc in omega arith)

  pub next-first : None ≡ as_option (find unclosed (suc last) (drop (suc last) ss)) → (q : std.Option ℕ) → q ≡ as_option (find unclosed 0 ss)
      → q ≡ as_option (next_state last ss)
  unfolding next_state
  next-first first q e =
      e ∙ ap (λ o. as_option (elim o as (λ x. Option ℕ) [ some k ↦ some k | none ↦ find unclosed 0 ss ])) (sym (none-is (find unclosed (suc last) (drop (suc last) ss)) first))
