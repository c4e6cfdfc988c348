-- The tokens of an input: the one that a step looks at, and check 13. Assumes nothing.
use mathlib.Core.Bool.{Bool, true, false, ◌||◌, true≢false}
use mathlib.Core.List.Memᴰ
use mathlib.Core.List.{List, [], ◌∷◌, Memᴰ}
use mathlib.Core.Logic.{◌≢◌, ⊎_elim}
use mathlib.Core.Option.{Option, none, some}
use mathlib.Core.Path.{◌≡◌, refl, sym, ap, ◌∙◌, subst}
use Prim.Native.Nat.{ℕ, suc, ◌+◌, ◌<◌, ◌≤◌}
use native.Mathlib.Numerals.{add-one}
use borrow.Author.Tests.{leb-false, eqb-false, lt-leb, ne_eqb}
use lib.Dec.{leb, eqb}
use lib.ListN.{length, get_or, drop, drop_of_length-le}
use lib.Seq.{drop-cons}
use Rattle.std.specs.Prelude as std
use Rattle.std.specs.Prelude.{cond, MatchOption, position}
use Rattle.std.specs.List.{position_from}
use Rattle.std.proofs.lemmas.Iterator.Adapters.{position_from-zero}
use Rattle.knuth.specs.Grammar.{Grammar}
use Rattle.knuth.specs.Machine.{look, Input}
use Rattle.block.specs.Block.{tokens, end_token_of}
use Rattle.block.specs.Grammar.{grammar_of}
use Rattle.pager.specs.Lists.{find}
use Rattle.machine.specs.Call.{bad_token}

-- ---- the lookahead
pub look-there : (G : Grammar) (w : List ℕ) (i : ℕ) → i < length w → get_or w i 0 ≡ look G (drop i w)
look-there G w i l = ap (look G) (sym (drop-cons w i 0 l))

pub look-end : (G : Grammar) (w : List ℕ) (i : ℕ) → length w ≤ i → G.end ≡ look G (drop i w)
look-end G w i l = ap (look G) (sym (drop_of_length-le w {i = i} l))

-- ---- check 13, of one token
pub not-bad : (b : List ℕ) (t : ℕ) → t < tokens b → (t ≡ end_token_of b → ⊥) → bad_token b t ≡ false
unfolding bad_token
not-bad b t h d = ap (λ (x : Bool). x || eqb t (end_token_of b)) (lt-leb (tokens b) t h) ∙ ne_eqb t (end_token_of b) d

-- ---- check 13, of the whole input
fine : (b : List ℕ) (t : ℕ) → bad_token b t ≡ false → (t < tokens b) × (t ≢ end_token_of b)
unfolding bad_token
fine b t e = go (leb (tokens b) t) refl (eqb t (end_token_of b)) refl e
  where
    go : (x : Bool) → leb (tokens b) t ≡ x → (y : Bool) → eqb t (end_token_of b) ≡ y → (x || y) ≡ false → (t < tokens b) × (t ≢ end_token_of b)
    go true p y q f = absurd (true≢false f)
    go false p true q f = absurd (true≢false f)
    go false p false q f = (leb-false (tokens b) t p, eqb-false t (end_token_of b) q)

abbrev Is : Option ℕ → Type 0
Is none = ⊥
Is (some n) = Unit {0}

none_found : (f : ℕ → Bool) (n : ℕ) (xs : List ℕ) → find f n xs ≡ none → (t : ℕ) → Memᴰ t xs → f t ≡ false
unfolding find
none_found f n [] e t m = absurd (Memᴰ.not-nil m)
none_found f n (x ∷ xs) e t m = go (λ q. none_found f (suc n) xs q t) (f x) refl e
  where
    go : (find f (suc n) xs ≡ none → Memᴰ t xs → f t ≡ false) → (y : Bool) → f x ≡ y
        → ◌≡◌ {A = Option ℕ} (elim y [ true ↦ some n | false ↦ find f (suc n) xs ]) none → f t ≡ false
    go rec true q z = absurd (subst Is z tt)
    go rec false q z = ⊎_elim (λ (p : t ≡ x). ap f p ∙ q) (rec z) (Memᴰ.cases_cons m)

pub passed : (b w : List ℕ) → find (bad_token b) 0 w ≡ none → Input (grammar_of b) w
passed b w e t m = fine b t (none_found (bad_token b) 0 w e t m)

-- the library's search and the definition's are one
abbrev Searched : (ℕ → Bool) → ℕ → List ℕ → std.Option ℕ → Type 0
Searched f n xs r = MatchOption r (find f n xs ≡ none) (λ i. find f n xs ≡ some i)

from-place : (f : ℕ → Bool) (n : ℕ) (xs : List ℕ) → Searched f n xs (position_from f n xs)
unfolding find
from-place f n [] = refl
from-place f n (x ∷ xs) = go (f x) (rw (add-one n) (from-place f (suc n) xs))
  where
    go : (y : Bool) → Searched f (suc n) xs (position_from f (n + 1) xs)
        → MatchOption (cond y (std.Some n) (position_from f (n + 1) xs)) (◌≡◌ {A = Option ℕ} (elim y [ true ↦ some n | false ↦ find f (suc n) xs ]) none)
        (λ i. ◌≡◌ {A = Option ℕ} (elim y [ true ↦ some n | false ↦ find f (suc n) xs ]) (some i))
    go true h = refl
    go false h = h

searched : (f : ℕ → Bool) (xs : List ℕ) → Searched f 0 xs (position f xs)
searched f xs = subst (Searched f 0 xs) (sym (position_from-zero f xs)) (from-place f 0 xs)

pub found_at : (f : ℕ → Bool) (xs : List ℕ) (i : ℕ) → std.Some i ≡ position f xs → find f 0 xs ≡ some i
found_at f xs i e = subst (Searched f 0 xs) (sym e) (searched f xs)

pub found_none : (f : ℕ → Bool) (xs : List ℕ) → std.None ≡ position f xs → find f 0 xs ≡ none
found_none f xs e = subst (Searched f 0 xs) (sym e) (searched f xs)
