-- What a line expects, read word by word. Assumes nothing.
use mathlib.Core.Bool.{Bool, true}
use mathlib.Core.List.{List, [], ◌∷◌}
use mathlib.Core.Logic.{◌↔◌}
use mathlib.Core.Path.{◌≡◌, refl, sym, ap, ◌∙◌}
use Prim.Native.Nat.{ℕ, ◌<◌, ◌≤◌}
use native.Mathlib.Omega.{arith}
use lib.Dec.{eqb}
use lib.ListN.{length, get_or, drop}
use borrow.Author.Tests.{eqb-true, eq-eqb}
use Rattle.words.specs.Given.{as_part}
use Rattle.block.specs.Refusal.{body_refusal, body_part}

-- one word, and it is the number y that was worked out
pub one-expected : (ws : List ℕ) (x y : ℕ) → x ≡ y → length ws ≡ 1 → (eqb (get_or ws 0 0) x ≡ true) ↔ (ws ≡ y ∷ [])
one-expected [] x y f h = absurd (omega arith)
one-expected (w ∷ []) x y f h = (λ t. ap (λ v. v ∷ []) (eqb-true w x t ∙ f), λ e. eq-eqb w x (ap (λ l. get_or l 0 0) e ∙ sym f))
one-expected (w ∷ v ∷ ws) x y f h = absurd (omega arith)

-- a production, the refusal of its right side, and the right side
module _ (b : List ℕ) where
  abbrev pub Answered : List ℕ → Type 0
  Answered ws = (p : ℕ) × (ws ≡ p ∷ body_refusal b p ∷ as_part (body_part b p))

  pub answer-short : (ws : List ℕ) → length ws < 3 → Answered ws → ⊥
  answer-short ws h (p, e) = omega (arith, h, ap length e)

  -- what was worked out of the production named
  pub record Asked (ws : List ℕ) (p refusal : ℕ) (right : List ℕ) : Type 0 where
    pub named : p ≡ get_or ws 0 0
    pub number : refusal ≡ body_refusal b p
    pub part : right ≡ body_part b p

module _ {b : List ℕ} {p refusal : ℕ} {right : List ℕ} where
  pub answer-number : (ws : List ℕ) → Asked b ws p refusal right → (get_or ws 1 0 ≡ refusal → ⊥) → Answered b ws → ⊥
  answer-number ws A h (q, e) = h (rw (A.number, A.named, e) refl)

  pub answer-count : (ws : List ℕ) → Asked b ws p refusal right → (get_or ws 2 0 ≡ length right → ⊥) → Answered b ws → ⊥
  answer-count ws A h (q, e) = h (rw (A.part, A.named, e) refl)

  -- the two numbers are right: the words behind them decide
  pub answer-by : {r : Bool} (ws : List ℕ) → Asked b ws p refusal right → 3 ≤ length ws → get_or ws 1 0 ≡ refusal → get_or ws 2 0 ≡ length right
      → (r ≡ true) ↔ (drop 3 ws ≡ right) → (r ≡ true) ↔ Answered b ws
  answer-by [] A h e k i = absurd (omega arith)
  answer-by (q ∷ []) A h e k i = absurd (omega arith)
  answer-by (q ∷ v ∷ []) A h e k i = absurd (omega arith)
  answer-by (q ∷ v ∷ w ∷ ws) A h e k i = (λ t. (q, rw (e, k, i.0 t, A.number, A.part, A.named) refl), λ (z, l). i.1 (back z l))
    where
      back : (z : ℕ) → q ∷ v ∷ w ∷ ws ≡ z ∷ body_refusal b z ∷ as_part (body_part b z) → ws ≡ right
      back z l = ap (drop 3) l ∙ ap (body_part b) (sym (A.named ∙ ap (λ x. get_or x 0 0) l)) ∙ sym A.part
