-- The checks one after the other tell document 01's number. Assumes nothing.
use mathlib.Core.Bool.{Bool, true, false}
use mathlib.Core.List.{List}
use mathlib.Core.Path.{◌≡◌, refl, sym, ap, ◌∙◌}
use Prim.Native.Nat.{ℕ}
use Rattle.std.specs.Prelude.{Ok, Err}
use Rattle.block.specs.Refusal.{short_block, too_large, misplaced, bad_production, bad_start, bad_symbol, bad_precedence, first_fault, refusal_of, Good}
use Rattle.block.specs.Refused.{number_of, told}
use Rattle.block.specs.Stage.{refuse_if, ◌then◌, checked}
use Rattle.block.specs.declared.refusal.BlockRefusal.{BlockRefusal}
use Rattle.block.specs.declared.refusal.BlockRefusal.TheVariants.{BadHeader, TooLarge, BadProduction, BadStart, BadSymbol, BadPrecedence}

pub told-checked : (b : List ℕ) → told (checked b) ≡ refusal_of b
unfolding refusal_of first_fault
told-checked b = go (short_block b) (too_large b) (misplaced b) (bad_production b) (bad_start b) (bad_symbol b) (bad_precedence b)
  where
    go : (s l m p t x k : Bool)
        → ◌≡◌ {A = ℕ}
        (told
        (refuse_if s BadHeader then refuse_if l TooLarge then refuse_if m BadHeader then refuse_if p BadProduction then refuse_if t BadStart then refuse_if x BadSymbol
        then refuse_if k BadPrecedence))
        (elim s [
          | true ↦ 1
          | false ↦ elim l [
            | true ↦ 2
            | false ↦ elim m [
              | true ↦ 1
              | false ↦ elim p [
                | true ↦ 3
                | false ↦ elim t [ true ↦ 4 | false ↦ elim x [ true ↦ 5 | false ↦ elim k [ true ↦ 6 | false ↦ 0 ] ] ]
              ]
            ]
          ]
        ])
    go true l m p t x k = refl
    go false true m p t x k = refl
    go false false true p t x k = refl
    go false false false true t x k = refl
    go false false false false true x k = refl
    go false false false false false true k = refl
    go false false false false false false true = refl
    go false false false false false false false = refl

pub checked-refused : (b : List ℕ) (e : BlockRefusal) → checked b ≡ Err e → number_of e ≡ refusal_of b
checked-refused b e h = sym (ap told h) ∙ told-checked b

pub checked-good : {b : List ℕ} → checked b ≡ Ok tt → Good b
checked-good {b} h = record { unrefused = sym (told-checked b) ∙ ap told h }
