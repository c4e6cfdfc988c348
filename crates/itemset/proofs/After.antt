-- What is behind a dot, as the code answers it. Assumes nothing.
use mathlib.Core.Bool.{true, false, true≢false}
use mathlib.Core.List.{List, [], ◌∷◌}
use mathlib.Core.Path.{◌≡◌, refl, sym, ap, ◌∙◌}
use Prim.Native.Nat.{ℕ, suc, ◌/◌, ◌%◌, ◌≤◌, ◌<◌}
use native.Mathlib.Omega.{arith}
use lib.ListN.{length, get_or, drop, drop_of_length-le}
use lib.Seq.{drop-cons}
use borrow.Author.Tests.{eqb-true, eqb-false}
use Rattle.std.specs.Prelude.{Option, Some, None, MatchOption, option_map, unwrap_or, option_copied}
use denote.Bor.{Bor}
use Rattle.block.specs.Limits.{DOTS}
use Rattle.block.specs.Block.{body_of}
use Rattle.itemset.specs.Rows.{row}
use Rattle.itemset.specs.Close.{rest_of}
use Rattle.itemset.specs.Goto.{move}
use Rattle.itemset.specs.Sights.{after_of, is_next}
use Rattle.itemset.proofs.Moves.{move-end, move-over, move-other}

-- ---- read in the right side
module _ (b : List ℕ) (i : ℕ) (body : List ℕ) (is : body ≡ body_of b (i / DOTS)) where
  rest-is : rest_of b i ≡ drop (i % DOTS) body
  unfolding rest_of
  rest-is = ap (λ (u : List ℕ). drop (i % DOTS) u) (sym is)

  after-symbol : i % DOTS < length body → Some (get_or body (i % DOTS) 0) ≡ after_of (rest_of b i)
  after-symbol l = sym (ap after_of (rest-is ∙ drop-cons body (i % DOTS) 0 l))

  after-end : length body ≤ i % DOTS → None ≡ after_of (rest_of b i)
  after-end l = sym (ap after_of (rest-is ∙ drop_of_length-le body l))

  -- what `get` answers
  pub after-got : (o : Option (Bor ℕ)) (Q : Bor ℕ → Type 0) → MatchOption o (length body ≤ i % DOTS) (λ x. (i % DOTS < length body) × Q x)
      → unwrap_or (option_map (λ x. x.now) o) 0 ≡ get_or body (i % DOTS) 0 → option_copied o ≡ after_of (rest_of b i)
  after-got None Q h e = after-end h
  after-got (Some x) Q h e = ap {B = Option ℕ} (λ (y : ℕ). Some y) e ∙ after-symbol h.0

-- ---- what an answer says of the rest
pub symbol-rest : (w : List ℕ) (y : ℕ) → Some y ≡ after_of w → w ≡ y ∷ drop 1 w
symbol-rest [] y e = let z : ◌≡◌ {A = ℕ} 0 1 = cc in absurd (omega arith)
symbol-rest (x ∷ w) y e = let z : x ≡ y = cc in ap {B = List ℕ} (λ v. v ∷ w) z

pub end_rest : (w : List ℕ) → None ≡ after_of w → w ≡ []
end_rest [] e = refl
end_rest (x ∷ w) e = let z : ◌≡◌ {A = ℕ} 0 1 = cc in absurd (omega arith)

-- ---- so the row is moved, or it is not
next-rest : (w : List ℕ) (x : ℕ) → is_next w x ≡ true → w ≡ x ∷ drop 1 w
next-rest [] x e = absurd (true≢false (sym e))
next-rest (y ∷ w) x e = ap {B = List ℕ} (λ v. v ∷ w) (eqb-true y x e)

pub next-move : (b : List ℕ) (x i : ℕ) (s : List ℕ) → is_next (rest_of b i) x ≡ true → move b x (row i s) ≡ row (suc i) s ∷ []
next-move b x i s e = move-over b x i s (drop 1 (rest_of b i)) (next-rest (rest_of b i) x e)

pub no_move : (b : List ℕ) (x i : ℕ) (s : List ℕ) → is_next (rest_of b i) x ≡ false → move b x (row i s) ≡ []
no_move b x i s e = go (rest_of b i) refl e
  where
    go : (w : List ℕ) → rest_of b i ≡ w → is_next w x ≡ false → move b x (row i s) ≡ []
    go [] r f = move-end b x i s r
    go (y ∷ w) r f = move-other b x i s y w r (λ z. eqb-false y x f (sym z))
