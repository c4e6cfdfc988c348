-- What the answer of a function that is asked tells, and the answer no. Assumes nothing.
use mathlib.Core.Bool.{Bool, true, false}
use mathlib.Core.Logic.{◌↔◌}
use mathlib.Core.Path.{◌≡◌, sym, ◌∙◌}
use Prim.Native.Nat.{ℕ}
use native.Mathlib.Omega.{arith}

pub differ : false ≡ true → ⊥
differ e = let y : ◌≡◌ {A = ℕ} 0 1 = cc in omega arith

module _ {P : Type 0} where
  pub says-no : (P → ⊥) → (false ≡ true) ↔ P
  says-no n = (λ e. absurd (differ e), λ p. absurd (n p))

  module _ (r : Bool) (i : (r ≡ true) ↔ P) where
    pub refuted : r ≡ false → P → ⊥
    refuted e p = differ (sym e ∙ i.1 p)

    pub granted : r ≡ true → P
    granted e = i.0 e

    -- P is needed for Q
    pub fails : {Q : Type 0} → r ≡ false → (Q → P) → (false ≡ true) ↔ Q
    fails e f = (λ t. absurd (differ t), λ q. absurd (refuted e (f q)))
