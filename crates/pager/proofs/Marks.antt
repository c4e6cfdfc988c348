-- Marks of states: one more, a round of them, and how many. Assumes nothing.
use mathlib.Core.Bool.{Bool, true, false, true≢false}
use mathlib.Core.List.{List, [], ◌∷◌, foldl}
use mathlib.Core.Logic.{◌⊎◌, inl, inr}
use mathlib.Core.Path.{◌≡◌, refl, sym, ap, ◌∙◌, subst}
use Prim.Native.Nat.{ℕ, zero, suc, ◌≤◌, ◌<◌}
use native.Mathlib.Omega.{arith}
use lib.ListN.{length, get_or, set, length-set}
use lib.Seq.{get_or-set_same}
use Rattle.pager.specs.Place.{State}
use Rattle.pager.specs.Graph.{nowhere}
use Rattle.pager.specs.Collect.{mark_to, spread}
use Rattle.pager.specs.Collecting.{count}

-- ---- one mark
pub set-stays : (ms : List Bool) (t k : ℕ) → get_or ms k false ≡ true → get_or (set ms t true) k false ≡ true
set-stays [] t k e = e
set-stays (m ∷ ms) zero zero e = refl
set-stays (m ∷ ms) zero (suc k) e = e
set-stays (m ∷ ms) (suc t) zero e = e
set-stays (m ∷ ms) (suc t) (suc k) e = set-stays ms t k e

pub set-only : (ms : List Bool) (t k : ℕ) → get_or (set ms t true) k false ≡ true → (k ≡ t) ⊎ (get_or ms k false ≡ true)
set-only [] t k e = inr e
set-only (m ∷ ms) zero zero e = inl refl
set-only (m ∷ ms) zero (suc k) e = inr e
set-only (m ∷ ms) (suc t) zero e = inr e
set-only (m ∷ ms) (suc t) (suc k) e = elim (set-only ms t k e) [ inl h ↦ inl (ap suc h) | inr h ↦ inr h ]

pub mark-stays : (ms : List Bool) (w k : ℕ) → get_or ms k false ≡ true → get_or (mark_to ms w) k false ≡ true
unfolding mark_to
mark-stays ms zero k e = e
mark-stays ms (suc t) k e = set-stays ms t k e

pub mark-only : (ms : List Bool) (w k : ℕ) → get_or (mark_to ms w) k false ≡ true → (w ≡ suc k) ⊎ (get_or ms k false ≡ true)
unfolding mark_to
mark-only ms zero k e = inr e
mark-only ms (suc t) k e = elim (set-only ms t k e) [ inl h ↦ inl (ap suc (sym h)) | inr h ↦ inr h ]

mark-length : (ms : List Bool) (w : ℕ) → length (mark_to ms w) ≡ length ms
unfolding mark_to
mark-length ms zero = refl
mark-length ms (suc t) = length-set ms t true

mark-sets : (ms : List Bool) (w k : ℕ) → w ≡ suc k → k < length ms → get_or (mark_to ms w) k false ≡ true
unfolding mark_to
mark-sets ms zero k e l = absurd (omega arith)
mark-sets ms (suc t) k e l = let h : k ≡ t = omega arith in rw h (get_or-set_same ms t true false (omega arith))

-- ---- the words of one state
module _ (P : List Bool → Type 0) where
  pub words-keep : (ws : List ℕ) (ms : List Bool) → ((i : ℕ) (ns : List Bool) → i < length ws → P ns → P (mark_to ns (get_or ws i 0))) → P ms
      → P (foldl mark_to ms ws)
  words-keep [] ms h p = p
  words-keep (w ∷ ws) ms h p = words-keep ws (mark_to ms w) (λ i ns l. h (suc i) ns (omega arith)) (h 0 ms (omega arith) p)

  -- ---- one round: what the words of the marked states keep
  pub spread-keeps : (qs : List Bool) (ss : List State) (ms : List Bool)
      → ((n i : ℕ) (ns : List Bool) → get_or qs n false ≡ true → P ns → P (mark_to ns (get_or (get_or ss n nowhere).edges i 0)))
      → P ms → P (spread qs ss ms)
  unfolding spread
  spread-keeps [] ss ms h p = p
  spread-keeps (q ∷ qs) [] ms h p = p
  spread-keeps (false ∷ qs) (st ∷ ss) ms h p = spread-keeps qs ss ms (λ n. h (suc n)) p
  spread-keeps (true ∷ qs) (st ∷ ss) ms h p =
      spread-keeps qs ss (foldl mark_to ms st.edges) (λ n. h (suc n)) (words-keep st.edges ms (λ i ns l r. h 0 i ns refl r) p)

pub words-set : (ws : List ℕ) (ms : List Bool) (i k : ℕ) → get_or ws i 0 ≡ suc k → k < length ms → get_or (foldl mark_to ms ws) k false ≡ true
words-set [] ms i k e l = absurd (omega arith)
words-set (w ∷ ws) ms zero k e l =
    words-keep (λ ns. get_or ns k false ≡ true) ws (mark_to ms w) (λ i ns m r. mark-stays ns (get_or ws i 0) k r) (mark-sets ms w k e l)
words-set (w ∷ ws) ms (suc i) k e l = words-set ws (mark_to ms w) i k e (omega (arith, mark-length ms w))

pub spread-stays : (qs : List Bool) (ss : List State) (ms : List Bool) (k : ℕ) → get_or ms k false ≡ true → get_or (spread qs ss ms) k false ≡ true
spread-stays qs ss ms k e = spread-keeps (λ ns. get_or ns k false ≡ true) qs ss ms (λ n i ns h r. mark-stays ns (get_or (get_or ss n nowhere).edges i 0) k r) e

pub spread-length : (qs : List Bool) (ss : List State) (ms : List Bool) → length (spread qs ss ms) ≡ length ms
spread-length qs ss ms =
    spread-keeps (λ ns. length ns ≡ length ms) qs ss ms (λ n i ns h r. mark-length ns (get_or (get_or ss n nowhere).edges i 0) ∙ r) refl

-- the targets of the marked states are marked
pub spread-sets : (qs : List Bool) (ss : List State) (ms : List Bool) (n i k : ℕ) → get_or qs n false ≡ true
    → get_or (get_or ss n nowhere).edges i 0 ≡ suc k
    → k < length ms → get_or (spread qs ss ms) k false ≡ true
unfolding spread
spread-sets [] ss ms n i k q e l = absurd (true≢false (sym q))
spread-sets (q ∷ qs) [] ms n i k h e l = absurd (omega arith)
spread-sets (false ∷ qs) (st ∷ ss) ms zero i k h e l = absurd (true≢false (sym h))
spread-sets (true ∷ qs) (st ∷ ss) ms zero i k h e l = spread-stays qs ss (foldl mark_to ms st.edges) k (words-set st.edges ms i k e l)
spread-sets (false ∷ qs) (st ∷ ss) ms (suc n) i k h e l = spread-sets qs ss ms n i k h e l
spread-sets (true ∷ qs) (st ∷ ss) ms (suc n) i k h e l =
    spread-sets qs ss (foldl mark_to ms st.edges) n i k h e
    (subst (λ m. k < m) (sym (words-keep (λ ns. length ns ≡ length ms) st.edges ms (λ i ns u r. mark-length ns (get_or st.edges i 0) ∙ r) refl)) l)

-- ---- how many are marked
pub count-le : (ms : List Bool) → count ms ≤ length ms
count-le [] = omega arith
count-le (true ∷ ms) = let h = count-le ms in omega arith
count-le (false ∷ ms) = let h = count-le ms in omega arith

pub count-grows : (ms ns : List Bool) → length ns ≡ length ms → ((k : ℕ) → get_or ms k false ≡ true → get_or ns k false ≡ true)
    → (ns ≡ ms) ⊎ (count ms < count ns)
count-grows [] [] e h = inl refl
count-grows [] (n ∷ ns) e h = absurd (omega arith)
count-grows (m ∷ ms) [] e h = absurd (omega arith)
count-grows (true ∷ ms) (false ∷ ns) e h = absurd (true≢false (sym (h 0 refl)))
count-grows (true ∷ ms) (true ∷ ns) e h =
    elim (count-grows ms ns (omega arith) (λ k. h (suc k))) [ inl q ↦ inl (ap {B = List Bool} (λ l. true ∷ l) q) | inr l ↦ inr (omega arith) ]
count-grows (false ∷ ms) (false ∷ ns) e h =
    elim (count-grows ms ns (omega arith) (λ k. h (suc k))) [ inl q ↦ inl (ap {B = List Bool} (λ l. false ∷ l) q) | inr l ↦ inr (omega arith) ]
count-grows (false ∷ ms) (true ∷ ns) e h =
    inr (elim (count-grows ms ns (omega arith) (λ k. h (suc k))) [ inl q ↦ let z : count ns ≡ count ms = ap count q in omega arith | inr l ↦ omega arith ])
