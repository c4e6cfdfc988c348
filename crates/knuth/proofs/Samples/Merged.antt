-- Two kernels of two items each that are weakly compatible though a token is shared crosswise, since the items share one in the first kernel; so
-- their union may be made. S' → D, D → E | a E | a E b, E → c a | c b. Assumes nothing.
use mathlib.Core.List.{List, ◌∷◌, [], nil≢cons, head-eq_of_cons-eq}
use mathlib.Core.Logic.{◌≢◌, inl, inr}
use mathlib.Core.Path.{◌≡◌, refl, ap}
use Prim.Native.Nat.{ℕ, zero, suc}
use native.Mathlib.Omega.{arith}
use lib.ListN.{drop}
use Rattle.knuth.specs.Grammar.{Sym, rule, token, Grammar}
use Rattle.knuth.specs.Kernel.{Kernel, union}
use Rattle.knuth.specs.Closure.{Holds, Moved, MovedTok, After}
use Rattle.knuth.specs.Canonical.{canonical, start-kernel}
use Rattle.knuth.specs.Pager.{Compatible, Cross, Made}
use Rattle.knuth.proofs.Least.{nullable-nil}

-- rules S' 0, D 1, E 2; tokens a 0, b 1, c 2, end 3
abbrev lhs₃ : ℕ → ℕ
lhs₃ zero = 0
lhs₃ (suc zero) = 2
lhs₃ (suc (suc zero)) = 2
lhs₃ (suc (suc (suc p))) = 1

abbrev body₃ : ℕ → List Sym
body₃ zero = rule 1 ∷ []
body₃ (suc zero) = token 2 ∷ token 0 ∷ []
body₃ (suc (suc zero)) = token 2 ∷ token 1 ∷ []
body₃ (suc (suc (suc zero))) = rule 2 ∷ []
body₃ (suc (suc (suc (suc zero)))) = token 0 ∷ rule 2 ∷ []
body₃ (suc (suc (suc (suc (suc p))))) = token 0 ∷ rule 2 ∷ token 1 ∷ []

abbrev pub G₃ : Grammar
G₃ = record { tokens = 4; rules = 3; prods = 6; lhs = lhs₃; body = body₃; start = 0; end = 3 }

-- After c: E → c . a and E → c . b, each at the end. After a c: the same items, each at b and at the end.
abbrev pub K₃ : Kernel
K₃ = canonical G₃ (token 2 ∷ [])

abbrev pub L₃ : Kernel
L₃ = canonical G₃ (token 0 ∷ token 2 ∷ [])

before-c : Holds G₃ (start-kernel G₃) 3 0 3
before-c = Holds.own 3 (Holds.kernel {p = 0} {d = 0} (refl, refl, refl)) refl (omega arith) (nullable-nil G₃)

after-a : Holds G₃ (canonical G₃ (token 0 ∷ [])) 4 1 3
after-a = Holds.kernel (MovedTok.moved (Holds.own 4 (Holds.kernel {p = 0} {d = 0} (refl, refl, refl)) refl (omega arith) (nullable-nil G₃)) refl)

-- c stands at the head of productions 1 and 2 and nowhere else
abbrev number : Sym → ℕ
number (rule q) = 3
number (token u) = u

abbrev Lacks : List Sym → Type 0
Lacks [] = Unit {0}
Lacks (X ∷ l) = (number X ≢ 2) × Lacks l

nowhere : (l : List Sym) (d : ℕ) {w : List Sym} → Lacks l → drop d l ≡ token 2 ∷ w → ⊥
nowhere [] zero f e = nil≢cons e
nowhere [] (suc d) f e = nil≢cons e
nowhere (X ∷ l) zero f e = f.0 (ap number (head-eq_of_cons-eq e))
nowhere (X ∷ l) (suc d) f e = nowhere l d f.1 e

found : (p d : ℕ) {w : List Sym} → After G₃ p d (token 2) w → K₃.tok p (suc d) 3 × L₃.tok p (suc d) 3
found zero d e = absurd (nowhere (body₃ 0) d (λ z. omega arith, tt) e)
found (suc zero) zero e = (MovedTok.moved (Holds.own 1 before-c refl (omega arith) (nullable-nil G₃)) refl, MovedTok.moved (Holds.own 1 after-a refl (omega arith) (nullable-nil G₃)) refl)
found (suc zero) (suc d) e = absurd (nowhere (token 0 ∷ []) d (λ z. omega arith, tt) e)
found (suc (suc zero)) zero e = (MovedTok.moved (Holds.own 2 before-c refl (omega arith) (nullable-nil G₃)) refl, MovedTok.moved (Holds.own 2 after-a refl (omega arith) (nullable-nil G₃)) refl)
found (suc (suc zero)) (suc d) e = absurd (nowhere (token 1 ∷ []) d (λ z. omega arith, tt) e)
found (suc (suc (suc zero))) d e = absurd (nowhere (body₃ 3) d (λ z. omega arith, tt) e)
found (suc (suc (suc (suc zero)))) d e = absurd (nowhere (body₃ 4) d (λ z. omega arith, (λ z. omega arith, tt)) e)
found (suc (suc (suc (suc (suc p))))) d e = absurd (nowhere (body₃ 5) d (λ z. omega arith, (λ z. omega arith, (λ z. omega arith, tt))) e)

moved : {M : Kernel} (p d : ℕ) → Moved G₃ M (token 2) p d → K₃.tok p d 3 × L₃.tok p d 3
moved p d (Moved.moved c a) = found p _ a

pub crosswise₃ : Cross K₃ L₃ 1 1 2 1
crosswise₃ = (3, (found 1 0 refl).0, (found 2 0 refl).1)

pub compatible₃ : Compatible K₃ L₃
compatible₃ =
    record {
      there = λ p d h. L₃.tok-has (moved p d h).1;
      here = λ p d h. K₃.tok-has (moved p d h).0;
      pairs = λ p d q e h k n. inr (inl (3, (moved p d h).0, (moved q e k).0));
    }

pub merged₃ : Made G₃ (union K₃ L₃)
merged₃ = Made.union (Made.goto (token 2) Made.start) (Made.goto (token 2) (Made.goto (token 0) Made.start)) compatible₃
