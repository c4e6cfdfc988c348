-- What is seen of a call: its answer, its buffers and the work room it was lent may be named in other ways. Assumes nothing.
use mathlib.Core.Bool.{Bool, true}
use mathlib.Core.List.{List, ◌++◌}
use mathlib.Core.Logic.{◌↔◌}
use mathlib.Core.Path.{◌≡◌, subst}
use Prim.Native.Nat.{ℕ}
use lib.ListN.{get_or}
use Rattle.pager.specs.Lists.{Answer}
use Rattle.statetable.specs.Build.{Buffers}
use Rattle.statetable.specs.declared.call.Counts.{Counts}
use Rattle.listed_pager.specs.Cases.{WorkIn}
use Rattle.listed_pager.specs.declared.work.Work.{Work}
use Rattle.listed_statetable.specs.Tables.{numbers}
use Rattle.listed_statetable.specs.Builds.{buffer_parts}

module _ (expected : List ℕ) (fill : ℕ) where
  abbrev Seen : Answer Counts → Buffers → Work → Type 0
  Seen x l w = (expected ≡ numbers x ++ buffer_parts l) × WorkIn (get_or expected 0 0) w fill l.graph

  pub seen_same : (r : Bool) (x y : Answer Counts) (l m : Buffers) (v w : Work) → x ≡ y → l ≡ m → v ≡ w
      → (r ≡ true) ↔ Seen x l v → (r ≡ true) ↔ Seen y m w
  seen_same r x y l m v w e f g i =
      subst (λ z. (r ≡ true) ↔ Seen y m z) g (subst (λ z. (r ≡ true) ↔ Seen y z v) f (subst (λ z. (r ≡ true) ↔ Seen z l v) e i))
