-- A walk along a rest of symbols: what is known after i of them, F standing in the array A. Assumes nothing.
use mathlib.Core.Bool.{Bool, true, false}
use mathlib.Core.List.{List, [], ◌∷◌}
use mathlib.Core.Logic.{inl, inr}
use mathlib.Core.Path.{◌≡◌, refl, sym, ap, ap₂, ◌∙◌, subst}
use Prim.Native.Nat.{ℕ, suc, ◌+◌, ◌/◌, ◌%◌, ◌≤◌, ◌<◌}
use native.Mathlib.Numerals.{add-one}
use native.Mathlib.Omega.{arith}
use lib.ListN.{get_or, length, drop, drop_of_length-le}
use lib.Seq.{drop-cons}
use Rattle.block.specs.Limits.{WORDS, RULES}
use Rattle.block.specs.Sets.{join, empty, with}
use Rattle.block.specs.First.{Ahead, ahead, is_null, first_in, nothing, behind, ahead_sym, ahead_of, AheadIs, Within, Small}
use Rattle.block.specs.Firsts.{unread, AheadsHold, AheadsAre}
use Rattle.block.specs.declared.lookahead.Lookahead.{Lookahead}
use Rattle.block.proofs.SetLaws.{empty-fits, with-fits}
use Rattle.block.proofs.Joins.{length-join}
use Rattle.block.proofs.Unions.{join-assoc, empty-join, join-empty, join-single}
use Rattle.block.proofs.Ahead.{parity, even-sym, odd-sym}

pub ahead-eta : (a : Ahead) (m : Bool) (s : List ℕ) → m ≡ is_null a → s ≡ first_in a → a ≡ ahead m s
ahead-eta (ahead n t) m s e f = ap₂ {C = Ahead} ahead (sym e) (sym f)

pub ahead-is : (l : Lookahead) (m : Bool) (s : List ℕ) (a : Ahead) → l.null ≡ m → l.set.words ≡ s → a ≡ ahead m s → AheadIs l a
ahead-is l m s a e f g = record { null = e ∙ sym (ap is_null g); words = f ∙ sym (ap first_in g) }

-- the words of rule r, and whether it is nullable
abbrev pub words_at : List Lookahead → ℕ → List ℕ
words_at A r = (get_or A r unread).set.words

abbrev pub null_at : List Lookahead → ℕ → Bool
null_at A r = (get_or A r unread).null

pub aheads_at : (F : List Ahead) (A : List Lookahead) → AheadsHold A F → (r : ℕ) → r < RULES → get_or F r nothing ≡ ahead (null_at A r) (words_at A r)
aheads_at F A S r l = ahead-eta (get_or F r nothing) (null_at A r) (words_at A r) (S r l).null (S r l).words

pub held_by : (F : List Ahead) (A : List Lookahead) → ((r : ℕ) → r < RULES → get_or F r nothing ≡ ahead (null_at A r) (words_at A r)) → AheadsHold A F
held_by F A h = λ r l. record { null = sym (ap is_null (h r l)); words = sym (ap first_in (h r l)) }

pub aheads_of : (F : List Ahead) (A : List Lookahead) → ((r : ℕ) → r < RULES → length (words_at A r) ≡ WORDS)
    → ((r : ℕ) → r < RULES → get_or F r nothing ≡ ahead (null_at A r) (words_at A r)) → AheadsAre A F
aheads_of F A size h = record { rule = held_by F A h; size = size }

-- ---- every set has a set's words
behind-size : (a c : Ahead) → length (first_in a) ≡ WORDS → length (first_in c) ≡ WORDS → length (first_in (behind a c)) ≡ WORDS
unfolding behind
behind-size (ahead false s) c h k = h
behind-size (ahead true s) (ahead n t) h k = omega (arith, length-join s t)

module _ (F : List Ahead) (A : List Lookahead) (S : AheadsAre A F) where
  sym-size : (x : ℕ) → Within x → length (first_in (ahead_sym F x)) ≡ WORDS
  sym-size x l =
      elim (parity x) [
        | inl e ↦ ap (λ a. length (first_in a)) (even-sym F x e ∙ aheads_at F A S.rule (x / 2) (l.rule e)) ∙ S.size (x / 2) (l.rule e)
        | inr e ↦ ap (λ a. length (first_in a)) (odd-sym F x e) ∙ (with-fits WORDS empty (x / 2) empty-fits).0
      ]

  pub ahead-size : (w : List ℕ) → Small w → length (first_in (ahead_of F w)) ≡ WORDS
  unfolding ahead_of
  ahead-size [] s = empty-fits.0
  ahead-size (x ∷ w) s = behind-size (ahead_sym F x) (ahead_of F w) (sym-size x s.0) (ahead-size w s.1)

-- ---- behind
behind-empty : (a : Ahead) → length (first_in a) ≡ WORDS → behind (ahead true empty) a ≡ a
unfolding behind
behind-empty (ahead n t) e = ap {B = Ahead} (ahead n) (empty-join t e)

behind-assoc : (s t : List ℕ) (a : Ahead) → behind (ahead true s) (behind (ahead true t) a) ≡ behind (ahead true (join s t)) a
unfolding behind
behind-assoc s t (ahead n u) = ap {B = Ahead} (ahead n) (sym (join-assoc s t u))

behind-stop : (s t : List ℕ) (a : Ahead) → behind (ahead true s) (behind (ahead false t) a) ≡ ahead false (join s t)
unfolding behind
behind-stop s t a = refl

behind-false : (s : List ℕ) (a : Ahead) → behind (ahead false s) a ≡ ahead false s
unfolding behind
behind-false s a = refl

behind-none : (s : List ℕ) → length s ≡ WORDS → behind (ahead true s) (ahead true empty) ≡ ahead true s
unfolding behind
behind-none s e = ap {B = Ahead} (ahead true) (join-empty s e)

ahead-cons : (F : List Ahead) (x : ℕ) (w : List ℕ) → ahead_of F (x ∷ w) ≡ behind (ahead_sym F x) (ahead_of F w)
unfolding ahead_of
ahead-cons F x w = refl

ahead-nil : (F : List Ahead) → ahead_of F [] ≡ ahead true empty
unfolding ahead_of
ahead-nil F = refl

pub even-of : (x : ℕ) → (x % 2 ≡ 1 → ⊥) → x % 2 ≡ 0
even-of x n = elim (parity x) [ inl e ↦ e | inr e ↦ absurd (n e) ]

-- ---- the walk
-- i symbols are passed, all of them nullable rules, and s is the union of their FIRST
pub record Passed (rest : List ℕ) (A : List Lookahead) (s : List ℕ) (i : ℕ) : Type 0 where
  pub within : i ≤ length rest
  pub size : length s ≡ WORDS
  pub small : Small (drop i rest)
  pub so_far : (F : List Ahead) → AheadsHold A F → length (first_in (ahead_of F (drop i rest))) ≡ WORDS → ahead_of F rest ≡ behind (ahead true s) (ahead_of F (drop i rest))

module _ (rest : List ℕ) (A : List Lookahead) where
  pub passed_none : Small rest → Passed rest A empty 0
  passed_none h =
      record {
        within = omega arith;
        size = empty-fits.0;
        small = h;
        so_far = λ F S z. sym (behind-empty (ahead_of F rest) z);
      }

  module _ (s : List ℕ) (i : ℕ) (P : Passed rest A s i) where
    pub passed-all : length rest ≤ i → (F : List Ahead) → AheadsHold A F → ahead_of F rest ≡ ahead true s
    passed-all l F S =
        let z : length (first_in (ahead_of F (drop i rest))) ≡ WORDS =
        ap (λ w. length (first_in (ahead_of F w))) (drop_of_length-le rest {i = i} l) ∙ ap (λ a. length (first_in a)) (ahead-nil F) ∙ empty-fits.0 in
        P.so_far F S z ∙ ap (λ w. behind (ahead true s) (ahead_of F w)) (drop_of_length-le rest {i = i} l) ∙ ap (behind (ahead true s)) (ahead-nil F) ∙ behind-none s P.size

    module _ (l : i < length rest) where
      next_small : Small (get_or rest i 0 ∷ drop (suc i) rest)
      next_small = subst Small (drop-cons rest i 0 l) P.small

      -- the next symbol is within the limits
      pub passed-within : Within (get_or rest i 0)
      passed-within = next_small.0

      next : (F : List Ahead) → AheadsHold A F → length (first_in (behind (ahead_sym F (get_or rest i 0)) (ahead_of F (drop (suc i) rest)))) ≡ WORDS
          → ahead_of F rest ≡ behind (ahead true s) (behind (ahead_sym F (get_or rest i 0)) (ahead_of F (drop (suc i) rest)))
      next F S z =
          P.so_far F S
          (ap (λ w. length (first_in (ahead_of F w))) (drop-cons rest i 0 l) ∙ ap (λ a. length (first_in a)) (ahead-cons F (get_or rest i 0) (drop (suc i) rest)) ∙ z) ∙ ap (λ w. behind (ahead true s) (ahead_of F w)) (drop-cons rest i 0 l) ∙ ap (behind (ahead true s)) (ahead-cons F (get_or rest i 0) (drop (suc i) rest))

      -- a token ends the walk
      pub passed-token : get_or rest i 0 % 2 ≡ 1 → (F : List Ahead) → AheadsHold A F → ahead_of F rest ≡ ahead false (with s (get_or rest i 0 / 2))
      passed-token e F S =
          next F S
          (ap (λ a. length (first_in (behind a (ahead_of F (drop (suc i) rest))))) (odd-sym F (get_or rest i 0) e)
          ∙ ap (λ a. length (first_in a)) (behind-false (with empty (get_or rest i 0 / 2)) (ahead_of F (drop (suc i) rest)))
          ∙ (with-fits WORDS empty (get_or rest i 0 / 2) empty-fits).0)
          ∙ ap (λ a. behind (ahead true s) (behind a (ahead_of F (drop (suc i) rest)))) (odd-sym F (get_or rest i 0) e)
          ∙ behind-stop s (with empty (get_or rest i 0 / 2)) (ahead_of F (drop (suc i) rest))
          ∙ ap {B = Ahead} (ahead false) (join-single s (get_or rest i 0 / 2) P.size)

      module _ (even : get_or rest i 0 % 2 ≡ 0) (full : length (words_at A (get_or rest i 0 / 2)) ≡ WORDS) where
        -- what a rule has ahead, by its mark
        sym-at : (m : Bool) → null_at A (get_or rest i 0 / 2) ≡ m → (F : List Ahead) → AheadsHold A F → ahead_sym F (get_or rest i 0) ≡ ahead m (words_at A (get_or rest i 0 / 2))
        sym-at m e F S =
            even-sym F (get_or rest i 0) even ∙ aheads_at F A S (get_or rest i 0 / 2) (passed-within.rule even) ∙ ap {B = Ahead} (λ c. ahead c (words_at A (get_or rest i 0 / 2))) e

        -- a rule that is not nullable ends it too
        pub passed-stop : null_at A (get_or rest i 0 / 2) ≡ false → (F : List Ahead) → AheadsHold A F → ahead_of F rest ≡ ahead false (join s (words_at A (get_or rest i 0 / 2)))
        passed-stop e F S =
            next F S
            (ap (λ a. length (first_in (behind a (ahead_of F (drop (suc i) rest))))) (sym-at false e F S)
            ∙ ap (λ a. length (first_in a)) (behind-false (words_at A (get_or rest i 0 / 2)) (ahead_of F (drop (suc i) rest)))
            ∙ full)
            ∙ ap (λ a. behind (ahead true s) (behind a (ahead_of F (drop (suc i) rest)))) (sym-at false e F S)
            ∙ behind-stop s (words_at A (get_or rest i 0 / 2)) (ahead_of F (drop (suc i) rest))

        -- a nullable one is passed
        pub passed-more : null_at A (get_or rest i 0 / 2) ≡ true → Passed rest A (join s (words_at A (get_or rest i 0 / 2))) (i + 1)
        passed-more e =
            rw add-one
            (record {
              within = l;
              size = omega (arith, length-join s (words_at A (get_or rest i 0 / 2)), P.size, full);
              small = next_small.1;
              so_far = λ F S z.
                  next F S
                  (behind-size (ahead_sym F (get_or rest i 0)) (ahead_of F (drop (suc i) rest)) (ap (λ a. length (first_in a)) (sym-at true e F S) ∙ full) z)
                  ∙ ap (λ a. behind (ahead true s) (behind a (ahead_of F (drop (suc i) rest)))) (sym-at true e F S)
                  ∙ behind-assoc s (words_at A (get_or rest i 0 / 2)) (ahead_of F (drop (suc i) rest));
            })
