-- The marks as flags: a mark read, a mark set, and a word of the stack set. Assumes nothing.
use mathlib.Core.Bool.{Bool, true, false, true≢false}
use mathlib.Core.List.{List, [], ◌∷◌}
use mathlib.Core.Path.{◌≡◌, refl, sym, ap, ◌∙◌}
use Prim.Native.Nat.{ℕ, zero, suc, ◌+◌, ◌*◌, ◌≤◌, ◌<◌}
use native.Mathlib.Nat.{pos_of_ne-zero}
use native.Mathlib.Omega.{arith}
use lib.Dec.{ltb}
use lib.ListN.{length, get_or, set}
use borrow.Author.Tests.{lt-ltb, le-ltb}
use Rattle.pager.specs.Collecting.{flags_of, count}
use Rattle.pager.proofs.Marks.{count-le}

two : (k : ℕ) → 2 * suc k ≡ suc (suc (2 * k))
two k = omega arith

three : (k : ℕ) → 2 * suc k + 1 ≡ suc (suc (2 * k + 1))
three k = omega arith

pub flags-fit : (ws : List ℕ) → 2 * length (flags_of ws) ≤ length ws
flags-fit [] = omega arith
flags-fit (w ∷ []) = omega arith
flags-fit (w ∷ v ∷ ws) = let h = flags-fit ws in omega arith

pub flags-length : (ws : List ℕ) (n : ℕ) → length ws ≡ 2 * n → length (flags_of ws) ≡ n
flags-length [] n e = omega arith
flags-length (w ∷ []) n e = absurd (omega arith)
flags-length (w ∷ v ∷ ws) zero e = absurd (omega arith)
flags-length (w ∷ v ∷ ws) (suc n) e = ap suc (flags-length ws n (omega arith))

pub flag-below : (ws : List ℕ) (k : ℕ) → 2 * k + 1 < length ws → k < length (flags_of ws)
flag-below [] k l = absurd (omega arith)
flag-below (w ∷ []) k l = absurd (omega arith)
flag-below (w ∷ v ∷ ws) zero l = omega arith
flag-below (w ∷ v ∷ ws) (suc k) l = let h = flag-below ws k (omega arith) in omega arith

flag_at : (ws : List ℕ) (k : ℕ) → 2 * k + 1 < length ws → get_or (flags_of ws) k false ≡ ltb 0 (get_or ws (2 * k) 0)
flag_at [] k l = absurd (omega arith)
flag_at (w ∷ []) k l = absurd (omega arith)
flag_at (w ∷ v ∷ ws) zero l = refl
flag_at (w ∷ v ∷ ws) (suc k) l = rw (two k) (flag_at ws k (omega arith))

pub flag_true : (ws : List ℕ) (k : ℕ) → 2 * k + 1 < length ws → (get_or ws (2 * k) 0 ≡ 0 → ⊥) → get_or (flags_of ws) k false ≡ true
flag_true ws k l n = flag_at ws k l ∙ lt-ltb 0 (get_or ws (2 * k) 0) (pos_of_ne-zero n)

pub flag-false : (ws : List ℕ) (k : ℕ) → 2 * k + 1 < length ws → get_or ws (2 * k) 0 ≡ 0 → get_or (flags_of ws) k false ≡ false
flag-false ws k l z = flag_at ws k l ∙ le-ltb 0 (get_or ws (2 * k) 0) (omega arith)

-- a word above 0 is a mark
pub flag-set : (ws : List ℕ) (k x : ℕ) → 2 * k + 1 < length ws → 0 < x → flags_of (set ws (2 * k) x) ≡ set (flags_of ws) k true
flag-set [] k x l h = absurd (omega arith)
flag-set (w ∷ []) k x l h = absurd (omega arith)
flag-set (w ∷ v ∷ ws) zero x l h = ap {B = List Bool} (λ q. q ∷ flags_of ws) (lt-ltb 0 x h)
flag-set (w ∷ v ∷ ws) (suc k) x l h = rw (two k) (ap {B = List Bool} (λ l. ltb 0 w ∷ l) (flag-set ws k x (omega arith) h))

pub flag-stack : (ws : List ℕ) (j x : ℕ) → flags_of (set ws (2 * j + 1) x) ≡ flags_of ws
flag-stack [] j x = refl
flag-stack (w ∷ []) zero x = refl
flag-stack (w ∷ []) (suc j) x = rw (three j) refl
flag-stack (w ∷ v ∷ ws) zero x = refl
flag-stack (w ∷ v ∷ ws) (suc j) x = rw (three j) (ap {B = List Bool} (λ l. ltb 0 w ∷ l) (flag-stack ws j x))

-- ---- how many are marked
pub true_below : (ms : List Bool) (k : ℕ) → get_or ms k false ≡ true → k < length ms
true_below [] k e = absurd (true≢false (sym e))
true_below (m ∷ ms) zero e = omega arith
true_below (m ∷ ms) (suc k) e = let h = true_below ms k e in omega arith

pub count_set : (ms : List Bool) (k : ℕ) → k < length ms → get_or ms k false ≡ false → count (set ms k true) ≡ suc (count ms)
count_set [] k l e = absurd (omega arith)
count_set (true ∷ ms) zero l e = absurd (true≢false e)
count_set (false ∷ ms) zero l e = refl
count_set (true ∷ ms) (suc k) l e = ap suc (count_set ms k (omega arith) e)
count_set (false ∷ ms) (suc k) l e = count_set ms k (omega arith) e

-- where one is not marked, fewer are marked than there are
pub count-lt : (ms : List Bool) (k : ℕ) → k < length ms → get_or ms k false ≡ false → count ms < length ms
count-lt [] k l e = absurd (omega arith)
count-lt (true ∷ ms) zero l e = absurd (true≢false e)
count-lt (false ∷ ms) zero l e = let h = count-le ms in omega arith
count-lt (true ∷ ms) (suc k) l e = let h = count-lt ms k (omega arith) e in omega arith
count-lt (false ∷ ms) (suc k) l e = let h = count-lt ms k (omega arith) e in omega arith
