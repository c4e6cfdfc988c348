-- What an item hands on: FIRST of what follows, and its own context where that is nullable. Assumes nothing.
use mathlib.Core.Bool.{true, false, true≢false}
use mathlib.Core.List.{List}
use mathlib.Core.Logic.{◌⊎◌, inl, inr}
use mathlib.Core.Path.{◌≡◌, refl, sym}
use Prim.Native.Nat.{ℕ}
use Rattle.block.specs.Sets.{In, Fits}
use Rattle.block.specs.First.{Ahead, ahead, is_null, first_in}
use Rattle.block.proofs.Joins.{In-join, In-join-left, In-join-right, join-fits}
use Rattle.itemset.specs.Close.{handed}

pub handed-only : (s : List ℕ) (a : Ahead) (t : ℕ) → In (handed s a) t → In (first_in a) t ⊎ ((is_null a ≡ true) × In s t)
unfolding handed
handed-only s (ahead true f) t m = elim (In-join f s t m) [ inl h ↦ inl h | inr h ↦ inr (refl, h) ]
handed-only s (ahead false f) t m = inl m

pub handed-first : (s : List ℕ) (a : Ahead) (t : ℕ) → In (first_in a) t → In (handed s a) t
unfolding handed
handed-first s (ahead true f) t m = In-join-left f s t m
handed-first s (ahead false f) t m = m

pub handed-own : (s : List ℕ) (a : Ahead) (t : ℕ) → is_null a ≡ true → In s t → In (handed s a) t
unfolding handed
handed-own s (ahead true f) t e m = In-join-right f s t m
handed-own s (ahead false f) t e m = absurd (true≢false (sym e))

pub handed-fits : (n : ℕ) (s : List ℕ) (a : Ahead) → Fits n s → Fits n (first_in a) → Fits n (handed s a)
unfolding handed
handed-fits n s (ahead true f) h k = join-fits n f s k h
handed-fits n s (ahead false f) h k = k
