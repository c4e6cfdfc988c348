-- The items with dot 0, production by production: one production changed, and steps one behind the other. Assumes nothing.
use mathlib.Core.Bool.{false}
use mathlib.Core.Path.{◌≡◌, refl, ◌∙◌}
use Prim.Native.Nat.{ℕ, ◌<◌}
use native.Mathlib.Omega.{arith}
use lib.ListN.{set, length-set}
use lib.Seq.{get_or-set_same, get_or-set_other}
use Rattle.block.specs.Limits.{PRODS}
use Rattle.itemset.specs.declared.closure.Closure.{Closure}
use Rattle.itemset.specs.Work.{todo_of, Sized, Same}

pub same_refl : (z : Closure) (q : ℕ) → Same z z q
same_refl z q = record { todo = refl; mark = refl; set = refl }

module _ (z : Closure) (S : Sized z) (p : ℕ) (l : p < PRODS) where
  -- production p is taken off the list
  abbrev pub unmark : Closure
  unmark = record { todo = set z.todo p false; here = z.here; contexts = z.contexts }

  pub unmark-size : Sized unmark
  unmark-size = record { todo = length-set z.todo p false ∙ S.todo; here = S.here; contexts = S.contexts }

  pub unmark-todo : todo_of unmark p ≡ false
  unmark-todo = get_or-set_same z.todo p false false (omega (arith, S.todo))

  pub unmark-other : (q : ℕ) → (q ≡ p → ⊥) → Same z unmark q
  unmark-other q d = record { todo = get_or-set_other z.todo p q false false d; mark = refl; set = refl }
