-- Rule 6's test of two items: what it says of their tokens. Assumes nothing.
use mathlib.Core.Bool.{Bool, true, false, true≢false, not, ◌||◌, or_comm}
use mathlib.Core.List.{List, [], ◌∷◌}
use mathlib.Core.Logic.{◌⊎◌, inl, inr, ◌↔◌}
use mathlib.Core.Path.{◌≡◌, refl, sym, ap, ap₂, ◌∙◌}
use Prim.Native.Nat.{ℕ}
use lib.Bits.{and_comm}
use lib.Dec.{eqb}
use Rattle.block.specs.Sets.{In, Words, meets}
use Rattle.block.proofs.ListLaws.{or_left, or_right}
use Rattle.block.proofs.SetLaws.{meets-iff}
use Rattle.pager.specs.Weak.{apart}

abbrev pub Meet : List ℕ → List ℕ → Type 0
Meet s t = (w : ℕ) × In s w × In t w

abbrev pub Apart : List ℕ → List ℕ → List ℕ → List ℕ → Type 0
Apart s t u v = (¬ (Meet s v ⊎ Meet u t)) ⊎ (Meet s u ⊎ Meet t v)

either-of : (n d e : Bool) → (not n || d || e) ≡ true → (n ≡ false) ⊎ ((d ≡ true) ⊎ (e ≡ true))
either-of false d e q = inl refl
either-of true true e q = inr (inl refl)
either-of true false e q = inr (inr q)

of_either : (n d e : Bool) → (n ≡ false) ⊎ ((d ≡ true) ⊎ (e ≡ true)) → (not n || d || e) ≡ true
of_either n d e (inl q) = or_left (not n || d) e (or_left (not n) d (ap not q))
of_either n d e (inr (inl q)) = or_left (not n || d) e (or_right (not n) d q)
of_either n d e (inr (inr q)) = or_right (not n || d) e q

or-none : (a c : Bool) → (a || c) ≡ false → (a ≡ false) × (c ≡ false)
or-none false c q = (refl, q)
or-none true c q = absurd (true≢false q)

none_or : (a c : Bool) → (a ≡ true → ⊥) → (c ≡ true → ⊥) → (a || c) ≡ false
none_or false false f g = refl
none_or true c f g = absurd (f refl)
none_or false true f g = absurd (g refl)

pub apart-iff : (s t u v : List ℕ) → Words s → Words t → Words u → (apart (s, t) (u, v) ≡ true) ↔ Apart s t u v
unfolding apart
apart-iff s t u v ws wt wu =
    (λ e. to (either-of (meets s v || meets u t) (meets s u) (meets t v) e), λ z. of_either (meets s v || meets u t) (meets s u) (meets t v) (back z))
  where
    none : (x y : List ℕ) → Words x → meets x y ≡ false → ¬ Meet x y
    none x y w q m = true≢false (sym ((meets-iff x y w).1 m) ∙ q)

    to : ((meets s v || meets u t) ≡ false) ⊎ ((meets s u ≡ true) ⊎ (meets t v ≡ true)) → Apart s t u v
    to (inl q) = let h = or-none (meets s v) (meets u t) q in inl (λ z. elim z [ inl m ↦ none s v ws h.0 m | inr m ↦ none u t wu h.1 m ])
    to (inr (inl q)) = inr (inl ((meets-iff s u ws).0 q))
    to (inr (inr q)) = inr (inr ((meets-iff t v wt).0 q))

    back : Apart s t u v → ((meets s v || meets u t) ≡ false) ⊎ ((meets s u ≡ true) ⊎ (meets t v ≡ true))
    back (inl n) = inl (none_or (meets s v) (meets u t) (λ q. n (inl ((meets-iff s v ws).0 q))) (λ q. n (inr ((meets-iff u t wu).0 q))))
    back (inr (inl m)) = inr (inl ((meets-iff s u ws).1 m))
    back (inr (inr m)) = inr (inr ((meets-iff t v wt).1 m))

-- the order of two sets, and of two items, does not matter
meets-swap : (s t : List ℕ) → meets s t ≡ meets t s
unfolding meets
meets-swap [] [] = refl
meets-swap [] (y ∷ t) = refl
meets-swap (x ∷ s) [] = refl
meets-swap (x ∷ s) (y ∷ t) = ap₂ ◌||◌ (ap (λ (w : ℕ). not (eqb w 0)) (and_comm x y)) (meets-swap s t)

pub apart-swap : (x y : List ℕ × List ℕ) → apart x y ≡ true → apart y x ≡ true
unfolding apart
apart-swap (s, t) (u, v) e =
    rw (or_comm (meets u t) (meets s v), meets-swap u s, meets-swap v t) e
