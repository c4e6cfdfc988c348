-- The next member of a set of any number of words, and its members by walking along it. Assumes nothing.
use mathlib.Core.Bool.{Bool, true, false, cond, true≢false}
use mathlib.Core.List.{List, [], ◌∷◌}
use mathlib.Core.Path.{◌≡◌, refl, sym, ap, ◌∙◌}
use Prim.Native.Nat.{ℕ, zero, suc, ◌+◌, ◌-◌, ◌≤◌, ◌<◌}
use native.Mathlib.Decide.{ℕ_discrete, dec_lt, dec_le}
use native.Mathlib.Numerals.{add-one}
use native.Mathlib.Omega.{arith}
use Rattle.block.specs.Limits.{WORDS, TOKENS}
use Rattle.block.specs.Lists.{keep, from, upto}
use Rattle.block.proofs.SetLaws.{mem-out}
use lib.ListN.{length}
use Rattle.std.specs.Prelude.{Option, Some, None, MatchOption}
use Rattle.block.specs.Sets.{mem, In, seek, next_of, members, IsNextOf, or_tokens}
unfoldable pub use Rattle.block.specs.Sets.{members_from}
pub use Rattle.block.specs.Sets.{NoneIn}

-- what holds of a search: of none, where it finds, where it goes on
seek-ind : (ws : List ℕ) (P : ℕ → ℕ → ℕ → Type 0) → ((t : ℕ) → P 0 t t) → ((n t : ℕ) → mem ws t ≡ true → P (suc n) t t)
    → ((n t r : ℕ) → mem ws t ≡ false → P n (suc t) r → P (suc n) t r)
    → (n t : ℕ) → P n t (seek ws n t)
unfolding seek
seek-ind ws P none here on zero t = none t
seek-ind ws P none here on (suc n) t = go (mem ws t) refl (seek-ind ws P none here on n (suc t))
  where
    go : (b : Bool) → mem ws t ≡ b → P n (suc t) (seek ws n (suc t)) → P (suc n) t (elim b [ true ↦ t | false ↦ seek ws n (suc t) ])
    go true e r = here n t e
    go false e r = on n t (seek ws n (suc t)) e r

-- r is the least member of ws among the n numbers from t on, or t + n
abbrev pub Sought : List ℕ → ℕ → ℕ → ℕ → Type 0
Sought ws n t r = (t ≤ r) × (r ≤ t + n) × NoneIn ws t r × (r < t + n → In ws r)

pub seek_is : (ws : List ℕ) (n t : ℕ) → Sought ws n t (seek ws n t)
seek_is ws =
    seek-ind ws (Sought ws) (λ t. (omega arith, omega arith, λ u l m. absurd (omega arith), λ l. absurd (omega arith)))
    (λ n t e. (omega arith, omega arith, λ u l m. absurd (omega arith), λ l. e))
    (λ n t r e s. (
      omega (arith, s.0),
      omega (arith, s.1),
      λ u l m. elim (ℕ_discrete u t) [ yes d ↦ ap (mem ws) d ∙ e | no d ↦ s.2 u (omega arith) m ],
      λ l. s.3 (omega arith),
    ))

-- the members among those n numbers: none, or the one found and those behind it
abbrev Kept : List ℕ → ℕ → ℕ → ℕ → Type 0
Kept ws n t r =
    (r ≡ t + n → keep (mem ws) (from t n) ≡ [])
    × (r < t + n → keep (mem ws) (from t n) ≡ r ∷ keep (mem ws) (from (suc r) (t + n - suc r)))

keep-on : (ws : List ℕ) (n t : ℕ) (b : Bool) → mem ws t ≡ b
    → keep (mem ws) (from t (suc n)) ≡ cond b (t ∷ keep (mem ws) (from (suc t) n)) (keep (mem ws) (from (suc t) n))
unfolding keep from
keep-on ws n t b e = ap (λ (c : Bool). cond c (t ∷ keep (mem ws) (from (suc t) n)) (keep (mem ws) (from (suc t) n))) e

seek-kept : (ws : List ℕ) (n t : ℕ) → Kept ws n t (seek ws n t)
unfolding keep from
seek-kept ws =
    seek-ind ws (Kept ws) (λ t. (λ e. refl, λ l. absurd (omega arith)))
    (λ n t e. (
      λ z. absurd (omega arith),
      λ l. let k : n ≡ t + suc n - suc t = omega arith in
          keep-on ws n t true e ∙ ap (λ (m : ℕ). t ∷ keep (mem ws) (from (suc t) m)) k,
    ))
    (λ n t r e s. (
      λ z. keep-on ws n t false e ∙ s.0 (omega arith),
      λ l. let k : suc t + n - suc r ≡ t + suc n - suc r = omega arith in
          keep-on ws n t false e ∙ s.1 (omega arith) ∙ ap (λ (m : ℕ). r ∷ keep (mem ws) (from (suc r) m)) k,
    ))

module _ (ws : List ℕ) (t : ℕ) where
  pub next-from : t ≤ next_of ws t
  unfolding next_of
  next-from = (seek_is ws (TOKENS - t) t).0

  pub next_le : t ≤ TOKENS → next_of ws t ≤ TOKENS
  unfolding next_of
  next_le h = omega (arith, (seek_is ws (TOKENS - t) t).1)

  pub next-none : NoneIn ws t (next_of ws t)
  unfolding next_of
  next-none = (seek_is ws (TOKENS - t) t).2

  pub next-in : next_of ws t < TOKENS → In ws (next_of ws t)
  unfolding next_of
  next-in h = (seek_is ws (TOKENS - t) t).3 (omega arith)

-- ---- walking along
pub members-all : (ws : List ℕ) → members TOKENS ws ≡ members_from ws 0
unfolding members members_from upto
members-all ws = refl

pub members-end : (ws : List ℕ) (t : ℕ) → t ≤ TOKENS → next_of ws t ≡ TOKENS → members_from ws t ≡ []
unfolding members_from next_of
members-end ws t h e = (seek-kept ws (TOKENS - t) t).0 (omega arith)

pub members-next : (ws : List ℕ) (t : ℕ) → t ≤ TOKENS → next_of ws t < TOKENS
    → members_from ws t ≡ next_of ws t ∷ members_from ws (suc (next_of ws t))
unfolding members_from next_of
members-next ws t h l =
    let r : ℕ = seek ws (TOKENS - t) t in
    let k : t + (TOKENS - t) - suc r ≡ TOKENS - suc r = omega arith in
    (seek-kept ws (TOKENS - t) t).1 (omega arith) ∙ ap (λ (m : ℕ). r ∷ keep (mem ws) (from (suc r) m)) k

-- ---- the least member as an option
-- what a search of the numbers from t on and below TOKENS tells
abbrev pub Found : List ℕ → ℕ → Option ℕ → Type 0
Found ws t r =
    MatchOption r ((u : ℕ) → t ≤ u → u < TOKENS → mem ws u ≡ false)
    (λ i. (t ≤ i) × (i < TOKENS) × In ws i × ((u : ℕ) → t ≤ u → u < i → mem ws u ≡ false))

module _ (ws : List ℕ) (t : ℕ) where
  pub found-next : (r : Option ℕ) → length ws ≡ WORDS → Found ws t r → IsNextOf ws t r
  found-next None l h = λ u a. elim (dec_lt u TOKENS) [ yes d ↦ h u a d | no d ↦ mem-out ws u (omega arith) ]
  found-next (Some i) l h = (h.0, h.2, h.3)

  none-next : t ≤ TOKENS → ((u : ℕ) → t ≤ u → mem ws u ≡ false) → next_of ws t ≡ TOKENS
  none-next b h =
      elim (dec_lt (next_of ws t) TOKENS) [
        | yes d ↦ absurd (true≢false (sym (next-in ws t d) ∙ h (next_of ws t) (next-from ws t)))
        | no d ↦ omega (arith, next_le ws t b)
      ]

  some-next : (i : ℕ) → i < TOKENS → IsNextOf ws t (Some i) → next_of ws t ≡ i
  some-next i l h =
      elim (dec_lt (next_of ws t) i) [
        | yes d ↦ absurd (true≢false (sym (next-in ws t (omega arith)) ∙ h.2 (next_of ws t) (next-from ws t) d))
        | no d ↦ elim (dec_lt i (next_of ws t)) [ yes e ↦ absurd (true≢false (sym h.1 ∙ next-none ws t i h.0 e)) | no e ↦ omega arith ]
      ]

  pub found-number : (r : Option ℕ) → length ws ≡ WORDS → Found ws t r → t ≤ TOKENS → or_tokens r ≡ next_of ws t
  found-number None l h b = sym (none-next b (found-next None l h))
  found-number (Some i) l h b = sym (some-next i h.1 (found-next (Some i) l h))

  -- with none, no member is left; else it is the first, and those behind it are left
  pub left-none : IsNextOf ws t None → members_from ws t ≡ []
  unfolding members_from keep from
  left-none h =
      elim (dec_le t TOKENS) [
        | yes d ↦ members-end ws t d (none-next d h)
        | no d ↦ ap (λ (n : ℕ). keep (mem ws) (from t n)) (let z : TOKENS - t ≡ 0 = omega arith in z)
      ]

  pub left-some : (i : ℕ) → i < TOKENS → IsNextOf ws t (Some i) → members_from ws t ≡ i ∷ members_from ws (i + 1)
  left-some i l h =
      let e : next_of ws t ≡ i = some-next i l h in
      members-next ws t (omega (arith, h.0)) (omega arith)
      ∙ ap (λ (n : ℕ). n ∷ members_from ws (suc n)) e
      ∙ ap (λ (n : ℕ). i ∷ members_from ws n) (sym (add-one i))
