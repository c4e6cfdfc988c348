-- A line of the list of refusals, and of any other list. Assumes nothing.
use mathlib.Core.Bool.{Bool, true, false}
use mathlib.Core.List.{List, [], ◌∷◌, head-eq_of_cons-eq, tail-eq_of_cons-eq}
use mathlib.Core.Logic.{◌↔◌}
use mathlib.Core.Path.{◌≡◌, sym, ap, ◌∙◌}
use Prim.Native.Nat.{ℕ, zero, suc, ◌<◌, ◌≤◌}
use native.Mathlib.Omega.{arith}
use lib.ListN.{length}
use Rattle.words.proofs.Answers.{says-no}
use Rattle.replay.specs.Lists.{asked, lists, CaseOf, RUNS, REFUSALS, LineCase}

-- nothing is asked of a list behind the last
none-asked : (Ps : List (List ℕ → Type 0)) (n : ℕ) (ws : List ℕ) → length Ps ≤ n → asked Ps n ws → ⊥
none-asked [] n ws h a = a
none-asked (P ∷ Ps) zero ws h a = absurd (omega arith)
none-asked (P ∷ Ps) (suc n) ws h a = none-asked Ps n ws (omega arith) a

module _ (list : ℕ) (ws : List ℕ) where
  pub no-list : REFUSALS ≤ list → (false ≡ true) ↔ CaseOf list ws
  unfolding CaseOf
  no-list h = says-no (none-asked lists list ws h)

  pub line-call : {r : Bool} → (list ≡ REFUSALS → ⊥) → (r ≡ true) ↔ CaseOf list ws → (r ≡ true) ↔ LineCase list ws
  line-call n i = (λ t. record { refusal = λ e. absurd (n e); call = λ _. i.0 t }, λ l. i.1 (l.call n))

  module _ (e : list ≡ REFUSALS) where
    pub line-empty : length ws ≡ 0 → (false ≡ true) ↔ LineCase list ws
    line-empty z = says-no (λ l. omega (arith, z, ap length (l.refusal e).words))

    module _ (call : ℕ) (rest : List ℕ) (w : ws ≡ call ∷ rest) where
      pub line_other : RUNS < call → (false ≡ true) ↔ LineCase list ws
      line_other h = says-no (λ l. let R = l.refusal e in omega (arith, h, R.refuses, head-eq_of_cons-eq (sym w ∙ R.words)))

      pub line-refusal : {r : Bool} → call ≤ RUNS → (r ≡ true) ↔ CaseOf call rest → (r ≡ true) ↔ LineCase list ws
      line-refusal k i = (
        λ t. record {
          refusal = λ _. record { call = call; rest = rest; words = w; refuses = k; holds = i.0 t };
          call = λ n. absurd (n e);
        },
        λ l.
            let R = l.refusal e in
            let z = sym w ∙ R.words in
            i.1 (rw (head-eq_of_cons-eq z, tail-eq_of_cons-eq z) R.holds),
      )
