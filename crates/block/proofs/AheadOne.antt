-- The contracts of rule 1 leave one outcome: some list stands in any array of sets, and the list decides the array. Assumes nothing.
use mathlib.Core.Bool.{Bool}
use mathlib.Core.List.{List}
use mathlib.Core.Path.{◌≡◌, sym, ap, ◌∙◌}
use Prim.Native.Nat.{ℕ, zero, suc, ◌+◌, ◌<◌}
use native.Mathlib.Omega.{arith}
use lib.ListN.{get_or, length}
use lib.Seq.{ext_get_or}
use Rattle.block.specs.Limits.{WORDS, RULES}
use Rattle.block.specs.First.{Ahead, ahead, nothing, AheadIs}
use Rattle.block.specs.Firsts.{AheadsHold, AheadsAre, unread}
use Rattle.block.specs.declared.lookahead.Lookahead.{Lookahead}
use Rattle.block.proofs.AheadRest.{words_at, null_at, held_by, aheads_of}
use Rattle.block.proofs.AheadRounds.{back_read}

read_at : (A : List Lookahead) (n k r : ℕ) → r < n → get_or (back_read k n A) r nothing ≡ ahead (null_at A (k + r)) (words_at A (k + r))
unfolding back_read
read_at A zero k r l = absurd (omega arith)
read_at A (suc n) k zero l = ap (λ (i : ℕ). ahead (null_at A i) (words_at A i)) (let z : k ≡ k + 0 = omega arith in z)
read_at A (suc n) k (suc r) l =
    read_at A n (suc k) r (omega arith) ∙ ap (λ (i : ℕ). ahead (null_at A i) (words_at A i)) (let z : suc k + r ≡ k + suc r = omega arith in z)

read_all : (A : List Lookahead) (r : ℕ) → r < RULES → get_or (back_read 0 RULES A) r nothing ≡ ahead (null_at A r) (words_at A r)
read_all A r l = read_at A RULES 0 r l ∙ ap (λ (i : ℕ). ahead (null_at A i) (words_at A i)) (let z : 0 + r ≡ r = omega arith in z)

-- ---- `Lookahead::of`: its arrow is never empty, and two answers are the same
pub aheads_some : (A : List Lookahead) → (F : List Ahead) × AheadsHold A F
aheads_some A = (back_read 0 RULES A, held_by (back_read 0 RULES A) A (read_all A))

-- where each set has WORDS words, as in an array of sets, the sizes too
pub aheads-sized : (A : List Lookahead) → ((r : ℕ) → r < RULES → length (words_at A r) ≡ WORDS) → (F : List Ahead) × AheadsAre A F
aheads-sized A size = (back_read 0 RULES A, aheads_of (back_read 0 RULES A) A size (read_all A))

pub ahead-one : (l l' : Lookahead) (a : Ahead) → AheadIs l a → AheadIs l' a → (l.null ≡ l'.null) × (l.set.words ≡ l'.set.words)
ahead-one l l' a h k = (h.null ∙ sym k.null, h.words ∙ sym k.words)

-- ---- `Firsts::new`: arrays of a set for each rule that hold the same list are the same
abbrev lookahead : Bool → List ℕ → Lookahead
lookahead n w = record { null = n; set = record { words = w } }

lookahead-same : (l l' : Lookahead) → (l.null ≡ l'.null) × (l.set.words ≡ l'.set.words) → l ≡ l'
lookahead-same l l' e = ap (λ (n : Bool). lookahead n l.set.words) e.0 ∙ ap (lookahead l'.null) e.1

pub aheads_one : (F : List Ahead) (A A' : List Lookahead) → length A ≡ RULES → length A' ≡ RULES → AheadsAre A F → AheadsAre A' F → A ≡ A'
aheads_one F A A' n n' S T =
    ext_get_or unread A A' (n ∙ sym n')
    (λ r l. lookahead-same (get_or A r unread) (get_or A' r unread)
    (ahead-one (get_or A r unread) (get_or A' r unread) (get_or F r nothing) (S.rule r (omega arith)) (T.rule r (omega arith))))
