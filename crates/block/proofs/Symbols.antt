-- What the symbol that a word stands for tells of the word. Assumes nothing.
use mathlib.Core.Bool.{Bool, true, false, true≢false, not}
use mathlib.Core.Logic.{inl, inr}
use mathlib.Core.Path.{◌≡◌, refl, sym, ap, ◌∙◌}
use Prim.Native.Nat.{ℕ, ◌/◌, ◌%◌}
use Rattle.std.specs.Prelude.{◌==◌, if◌then◌else◌}
use Rattle.block.specs.Symbols.{symbol_of}
use Rattle.block.specs.declared.symbol.Symbol.{Symbol}
use Rattle.block.specs.declared.symbol.Symbol.TheVariants.{Rule, Token}
use Rattle.block.proofs.Ahead.{parity}

even-symbol : (x : ℕ) → x % 2 ≡ 0 → symbol_of x ≡ Rule (x / 2)
even-symbol x e = ap (λ (n : ℕ). if n == 0 then Rule (x / 2) else Token (x / 2)) e

odd-symbol : (x : ℕ) → x % 2 ≡ 1 → symbol_of x ≡ Token (x / 2)
odd-symbol x e = ap (λ (n : ℕ). if n == 0 then Rule (x / 2) else Token (x / 2)) e

number : Symbol → ℕ
number (Rule r) = r
number (Token t) = t

is_rule : Symbol → Bool
is_rule (Rule r) = true
is_rule (Token t) = false

pub token-is : (x t : ℕ) → Token t ≡ symbol_of x → (x % 2 ≡ 1) × (t ≡ x / 2)
unfolding is_rule number
token-is x t h =
    elim (parity x) [
      | inl e ↦ absurd (true≢false (sym (ap is_rule (h ∙ even-symbol x e))))
      | inr e ↦ (e, ap number (h ∙ odd-symbol x e))
    ]

pub rule-is : (x r : ℕ) → Rule r ≡ symbol_of x → (x % 2 ≡ 0) × (r ≡ x / 2)
unfolding is_rule number
rule-is x r h =
    elim (parity x) [
      | inl e ↦ (e, ap number (h ∙ even-symbol x e))
      | inr e ↦ absurd (true≢false (ap is_rule (h ∙ odd-symbol x e)))
    ]

pub off : (b : Bool) → not b ≡ true → b ≡ false
off false e = refl
off true e = absurd (true≢false (sym e))
