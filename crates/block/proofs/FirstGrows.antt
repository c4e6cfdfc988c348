-- What grows in a round of rule 1: the sum of all words and marks, and how far. Assumes nothing.
use mathlib.Core.Bool
use mathlib.Core.Bool.{Bool, true, false, true≢false, ◌||◌}
use mathlib.Core.List.{List, [], ◌∷◌, foldl}
use mathlib.Core.Logic.{◌⊎◌, inl, inr}
use mathlib.Core.Path.{◌≡◌, refl, sym, ap, ap₂, ◌∙◌, subst}
use Prim.Native.Nat.{ℕ, zero, suc, ◌+◌, ◌*◌, ◌-◌, ◌/◌, ◌^◌, ◌≤◌, ◌<◌}
use native.Mathlib.Omega.{arith}
use lib.Dec.{eqb}
use lib.ListN.{get_or, length, replicate, length-replicate}
use Rattle.block.specs.Limits.{WORDS}
use Rattle.block.specs.Lists.{change, upto, settle, same}
use Rattle.block.specs.Block.{prods, rules, rule_of, body_of}
use Rattle.block.specs.Sets.{join, empty, Fits}
use Rattle.block.specs.First.{Ahead, ahead, first_in, nothing, behind, either, ahead_sym, ahead_of, add_prod, round_of, firsts_of, ahead_same}
use Rattle.block.proofs.ListLaws.{and_both, change-cases, same-is, same_refl, get_d-same, foldl-keeps}
use Rattle.block.proofs.SetLaws.{empty-fits, with-fits}
use Rattle.block.proofs.Joins.{weigh, join-grows, join-fits, fits-weigh, words-refl, same-words}
use Rattle.block.proofs.Ahead.{parity, even-sym, odd-sym}
use Rattle.block.proofs.FirstRight.{add-size}

-- ---- what grows: the sum of all words and of the marks
abbrev bit_of : Bool → ℕ
bit_of true = 1
bit_of false = 0

abbrev pub worth : Ahead → ℕ
worth (ahead n f) = bit_of n + weigh f

abbrev pub total : List Ahead → ℕ
total [] = 0
total (a ∷ F) = worth a + total F

either-grows : (a c : Ahead) → (either a c ≡ a) ⊎ (worth a < worth (either a c))
unfolding either
either-grows (ahead m s) (ahead n t) = go m n (join-grows s t)
  where
    go : (m n : Bool) → (join s t ≡ s) ⊎ (weigh s < weigh (join s t)) → (ahead (m || n) (join s t) ≡ ahead m s) ⊎ (bit_of m + weigh s < bit_of (m || n) + weigh (join s t))
    go true n (inl e) = inl (ap {B = Ahead} (λ x. ahead true x) e)
    go true n (inr l) = inr (omega arith)
    go false false (inl e) = inl (ap {B = Ahead} (λ x. ahead false x) e)
    go false false (inr l) = inr (omega arith)
    go false true (inl e) = inr (let z : weigh (join s t) ≡ weigh s = ap weigh e in omega arith)
    go false true (inr l) = inr (omega arith)

change-grows : (a : Ahead) (n : ℕ) (F : List Ahead) → (change (λ x. either x a) n F ≡ F) ⊎ (total F < total (change (λ x. either x a) n F))
unfolding change
change-grows a n [] = inl refl
change-grows a zero (x ∷ F) = elim (either-grows x a) [ inl e ↦ inl (ap {B = List Ahead} (λ y. y ∷ F) e) | inr l ↦ inr (omega arith) ]
change-grows a (suc n) (x ∷ F) = elim (change-grows a n F) [ inl e ↦ inl (ap {B = List Ahead} (λ y. x ∷ y) e) | inr l ↦ inr (omega arith) ]

-- ---- lists of them compared
same_ahead : (a c : Ahead) → ahead_same a c ≡ true → a ≡ c
unfolding ahead_same
same_ahead (ahead m s) (ahead n t) e = let k = and_both (Bool.beq m n) (same eqb s t) e in ap₂ {C = Ahead} ahead (beq m n k.0) (same-words s t k.1)
  where
    beq : (m n : Bool) → Bool.beq m n ≡ true → m ≡ n
    beq true true e = refl
    beq false false e = refl
    beq true false e = absurd (true≢false (sym e))
    beq false true e = absurd (true≢false (sym e))

ahead-refl : (a : Ahead) → ahead_same a a ≡ true
unfolding ahead_same
ahead-refl (ahead true s) = words-refl s
ahead-refl (ahead false s) = words-refl s

pub aheads-is : (F G : List Ahead) → same ahead_same F G ≡ true → F ≡ G
aheads-is = same-is ahead_same same_ahead

pub aheads-refl : (F : List Ahead) → same ahead_same F F ≡ true
aheads-refl = same_refl ahead_same ahead-refl

-- ---- every set has a set's words
abbrev pub AllFit : List Ahead → Type 0
AllFit F = (r : ℕ) → Fits WORDS (first_in (get_or F r nothing))

behind-fits : (a c : Ahead) → Fits WORDS (first_in a) → Fits WORDS (first_in c) → Fits WORDS (first_in (behind a c))
unfolding behind
behind-fits (ahead false s) c h k = h
behind-fits (ahead true s) (ahead n t) h k = join-fits WORDS s t h k

sym-fits : (F : List Ahead) → AllFit F → (x : ℕ) → Fits WORDS (first_in (ahead_sym F x))
sym-fits F h x =
    elim (parity x) [
      | inl e ↦ rw (even-sym F x e) (h (x / 2))
      | inr e ↦ rw (odd-sym F x e) (with-fits WORDS empty (x / 2) empty-fits)
    ]

pub ahead-fits : (F : List Ahead) → AllFit F → (w : List ℕ) → Fits WORDS (first_in (ahead_of F w))
unfolding ahead_of
ahead-fits F h [] = empty-fits
ahead-fits F h (x ∷ w) = behind-fits (ahead_sym F x) (ahead_of F w) (sym-fits F h x) (ahead-fits F h w)

either-fits : (a c : Ahead) → Fits WORDS (first_in a) → Fits WORDS (first_in c) → Fits WORDS (first_in (either a c))
unfolding either
either-fits (ahead m s) (ahead n t) h k = join-fits WORDS s t h k

total-bound : (F : List Ahead) → AllFit F → total F ≤ length F * (WORDS * 2 ^ 64 + 1)
total-bound [] h = omega arith
total-bound (ahead m s ∷ F) h =
    let k = total-bound F (λ r. h (suc r)) in let w : weigh s ≤ WORDS * 2 ^ 64 = fits-weigh WORDS s (h 0) in let l = le m in omega arith
  where
    le : (c : Bool) → bit_of c ≤ 1
    le true = omega arith
    le false = omega arith

module _ (b : List ℕ) where
  abbrev pub fuel : ℕ
  fuel = rules b * (WORDS * 2 ^ 64 + 1)

  pub firsts-settle : firsts_of b ≡ settle (same ahead_same) (round_of b) fuel (replicate (rules b) nothing)
  unfolding firsts_of
  firsts-settle = refl

  -- as many as there are rules, each of a set's words
  pub record Sized (F : List Ahead) : Type 0 where
    pub size : length F ≡ rules b
    pub fits : AllFit F

  add-sized : (F : List Ahead) (p : ℕ) → Sized F → Sized (add_prod b F p)
  unfolding add_prod
  add-sized F p S =
      record {
        size = add-size b F p ∙ S.size;
        fits = change-cases (λ x. either x (ahead_of F (body_of b p))) nothing (λ r x. Fits WORDS (first_in x)) (rule_of b p) F S.fits
            (λ x k. either-fits x (ahead_of F (body_of b p)) k (ahead-fits F S.fits (body_of b p)));
      }

  pub round-sized : (F : List Ahead) → Sized F → Sized (round_of b F)
  round-sized F S = foldl-keeps (add_prod b) Sized add-sized (upto (prods b)) F S

  pub start-sized : Sized (replicate (rules b) nothing)
  start-sized =
      record {
        size = length-replicate (rules b) nothing;
        fits = λ r. subst (λ a. Fits WORDS (first_in a)) (sym (get_d-same (rules b) r nothing)) empty-fits;
      }

  pub add-grows : (F : List Ahead) (p : ℕ) → (add_prod b F p ≡ F) ⊎ (total F < total (add_prod b F p))
  unfolding add_prod
  add-grows F p = change-grows (ahead_of F (body_of b p)) (rule_of b p) F

  -- nothing was changed since F₀, or the sum has risen
  abbrev pub Grown : List Ahead → List Ahead → Type 0
  Grown F₀ F = (F ≡ F₀) ⊎ (total F₀ < total F)

  pub grown-add : (F₀ F : List Ahead) (p : ℕ) → Grown F₀ F → Grown F₀ (add_prod b F p)
  grown-add F₀ F p h =
      elim (add-grows F p) [
        | inl e ↦ subst (Grown F₀) (sym e) h
        | inr l ↦ inr (elim h [ inl e ↦ let z : total F ≡ total F₀ = ap total e in omega arith | inr k ↦ omega arith ])
      ]

  pub fold-grown : (qs : List ℕ) (F : List Ahead) → Grown F (foldl (add_prod b) F qs)
  fold-grown qs F = foldl-keeps (add_prod b) (Grown F) (λ G p h. grown-add F G p h) qs F (inl refl)

  -- what is left falls with each round that changes something
  pub round-less : (F : List Ahead) → Sized F → same ahead_same (round_of b F) F ≡ false → fuel - total (round_of b F) < fuel - total F
  round-less F S e = go (fold-grown (upto (prods b)) F)
    where
      go : Grown F (round_of b F) → fuel - total (round_of b F) < fuel - total F
      go (inl q) = absurd (true≢false (sym (aheads-refl F) ∙ ap (λ G. same ahead_same G F) (sym q) ∙ e))
      go (inr l) =
          let J = round-sized F S in let z = total-bound (round_of b F) J.fits in
          let w : length (round_of b F) * (WORDS * 2 ^ 64 + 1) ≡ fuel = ap (λ (n : ℕ). n * (WORDS * 2 ^ 64 + 1)) J.size in omega arith
