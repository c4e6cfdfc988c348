-- The first part of a line put into a room: whether all its words were put, and what then decides a case. Assumes nothing.
use mathlib.Core.Bool.{Bool, true, false}
use mathlib.Core.List.{List}
use mathlib.Core.Logic.{◌↔◌}
use mathlib.Core.Path.{◌≡◌, refl, sym, ◌∙◌}
use Prim.Native.Nat.{ℕ, ◌≤◌}
use lib.ListN.{length, take, replicate, length-replicate}
use Rattle.words.specs.Parts.{part_of, behind_of, narrow_from}
use Rattle.words.specs.Given.{narrows, Given}
use Rattle.words.proofs.Answers.{says-no}
use Rattle.words.proofs.GivenLaws.{part-holds, holds-part, narrowed, narrow-count, narrow-words}

-- `line` begins with the part `given`, whose first n words were put into m slots
module _ (m n : ℕ) (line given after : List ℕ) (e : given ≡ part_of line) (put : (n, after) ≡ narrow_from given 0 (replicate m 0)) where
  slots : length {A = ℕ} (replicate m 0) ≡ m
  slots = length-replicate {0} {A = ℕ} m 0

  -- all words were put: they are the part's
  pub put-words : n ≡ length given → take n after ≡ part_of line
  put-words h = narrow-words given (replicate m 0) after n put h ∙ e

  same-question : narrows (length {A = ℕ} (replicate m 0)) given ≡ narrows m (part_of line)
  same-question = rw (slots, e) refl

  put_all : n ≡ length given → narrows m (part_of line) ≡ true
  put_all h = sym same-question ∙ narrowed given (replicate m 0) after n put h

  put_count : narrows m (part_of line) ≡ true → n ≡ length given
  put_count h = narrow-count given (replicate m 0) after n put (same-question ∙ h)

  module _ {P : List ℕ → List ℕ → Type 0} where
    -- not all were put: the case does not hold
    pub case-unput : (n ≡ length given → ⊥) → (false ≡ true) ↔ Given m P line
    case-unput f = says-no (λ (g : Given m P line). f (put_count (part-holds g).0))

    -- the part and what is behind it are wrong: the case does not hold
    pub case-not : (P (part_of line) (behind_of line) → ⊥) → (false ≡ true) ↔ Given m P line
    case-not f = says-no (λ (g : Given m P line). f (part-holds g).1)

    -- all were put: the answer on the part and what is behind it decides, which is more than nothing
    pub case-by : {r : Bool} → n ≡ length given → (r ≡ true → 1 ≤ length (behind_of line))
        → (r ≡ true) ↔ P (part_of line) (behind_of line) → (r ≡ true) ↔ Given m P line
    case-by h l i = (λ t. holds-part (l t) (put_all h, i.0 t), λ g. i.1 (part-holds g).1)

    -- the same on what was read: the slots in front, and the words behind the part
    module _ (rest : List ℕ) (q : rest ≡ behind_of line) (h : n ≡ length given) where
      pub read-not : (P (take n after) rest → ⊥) → (false ≡ true) ↔ Given m P line
      read-not f = case-not (λ p. f (rw (put-words h, q) p))

      pub read_by : {r : Bool} → (r ≡ true → 1 ≤ length rest) → (r ≡ true) ↔ P (take n after) rest → (r ≡ true) ↔ Given m P line
      read_by l i = case-by h (λ t. rw (sym q) (l t)) (λ t. rw (sym (put-words h), sym q) (i.0 t), λ p. i.1 (rw (put-words h, q) p))
