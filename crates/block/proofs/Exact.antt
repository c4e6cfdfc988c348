-- Each refusal is exact: the number is that of the first row that holds. Assumes nothing.
use mathlib.Core.Bool.{Bool, true, false}
use mathlib.Core.List.{List, [], ◌∷◌}
use mathlib.Core.Logic.{◌⊎◌, inl, inr, ⊎_elim, ◌↔◌}
use mathlib.Core.Path.{◌≡◌, refl, sym, ◌∙◌}
use Prim.Native.Nat.{ℕ, suc}
use native.Mathlib.Omega.{arith}
use Rattle.block.specs.Refusal.{first_fault, refusal_of, Good}
use Rattle.block.specs.Exact.{rows, FirstRow, Clear}
use Rattle.block.proofs.Says.{Says}
use Rattle.block.proofs.Rows.{short-says, large-says, misplaced-says, productions-says, start-says, symbols-says, precs-says}

-- the tests decide the rows, one by one, under the same numbers
abbrev Decide : List ℕ → List ((List ℕ → Bool) × ℕ) → List (Type 0 × ℕ) → Type 0
Decide b [] [] = Unit {0}
Decide b [] (r ∷ rs) = ⊥
Decide b (c ∷ cs) [] = ⊥
Decide b (c ∷ cs) (r ∷ rs) = Says (c.0 b) r.0 × (c.1 ≡ r.1) × Decide b cs rs

first-exact : (b : List ℕ) (cs : List ((List ℕ → Bool) × ℕ)) (rs : List (Type 0 × ℕ)) → Decide b cs rs → (n : ℕ) → (first_fault b cs ≡ n) ↔ FirstRow rs n
unfolding first_fault
first-exact b [] [] d n = (λ e. sym e, λ e. sym e)
first-exact b [] (r ∷ rs) d n = absurd d
first-exact b (c ∷ cs) [] d n = absurd d
first-exact b (c ∷ cs) (r ∷ rs) d n = go (c.0 b) refl (first-exact b cs rs d.2 n)
  where
    go : (t : Bool) → c.0 b ≡ t → ((first_fault b cs ≡ n) ↔ FirstRow rs n)
        → (◌≡◌ {A = ℕ} (elim t [ true ↦ c.1 | false ↦ first_fault b cs ]) n) ↔ FirstRow (r ∷ rs) n
    go true q i = (λ e. inl (d.0.holds q, sym e ∙ d.1), ⊎_elim (λ h. d.1 ∙ sym h.1) (λ h. absurd (h.0 (d.0.holds q))))
    go false q i = (λ e. inr (d.0.fails q, i.0 e), ⊎_elim (λ h. absurd (d.0.fails q h.0)) (λ h. i.1 h.1))

pub refusal-exact : (b : List ℕ) (n : ℕ) → (refusal_of b ≡ n) ↔ FirstRow (rows b) n
unfolding refusal_of
refusal-exact b n =
    first-exact b _ (rows b)
    (short-says b, refl, (large-says b, refl, (misplaced-says b, refl, (productions-says b, refl, (start-says b, refl, (symbols-says b, refl, (precs-says b, refl, tt))))))) n

-- a row is passed over, since its number is not 0
past : {P Q : Type 0} (k : ℕ) → ((P × (0 ≡ suc k)) ⊎ ((P → ⊥) × Q)) → (P → ⊥) × Q
past k = ⊎_elim (λ h. absurd (let z = h.1 in omega arith)) (λ h. h)

pub good-clear : {b : List ℕ} → Good b → Clear b
good-clear {b} g =
    let h₁ = past 0 ((refusal-exact b 0).0 g.unrefused) in
    let h₂ = past 1 h₁.1 in
    let h₃ = past 0 h₂.1 in
    let h₄ = past 2 h₃.1 in
    let h₅ = past 3 h₄.1 in
    let h₆ = past 4 h₅.1 in
    let h₇ = past 5 h₆.1 in
    record {
      short = h₁.0;
      large = h₂.0;
      places = h₃.0;
      productions = h₄.0;
      start = h₅.0;
      syms = h₆.0;
      precs = h₇.0;
    }

pub clear-good : {b : List ℕ} → Clear b → Good b
clear-good {b} c =
    record {
      unrefused = (refusal-exact b 0).1
          (inr (c.short, inr (c.large, inr (c.places, inr (c.productions, inr (c.start, inr (c.syms, inr (c.precs, refl))))))));
    }

pub good-iff : (b : List ℕ) → Good b ↔ Clear b
good-iff b = (good-clear, clear-good)
