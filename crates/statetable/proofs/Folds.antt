-- The filling as a fold that stops: what is reached, and what is still to come. Assumes nothing.
use mathlib.Core.List.{List, [], ◌∷◌, ◌++◌}
use mathlib.Core.Path.{◌≡◌, refl, sym, ap, ◌∙◌, subst}
use Prim.Native.Nat.{ℕ, ◌≤◌}
use Rattle.std.specs.Prelude.{Result, Ok, Err}
use Rattle.pager.specs.Lists.{Answer, is, refused, walk}
use Rattle.statetable.specs.Events.{Event}
use Rattle.statetable.specs.Cells.{Fill, fill}
use Rattle.statetable.specs.Laid.{Laid, LeftBy}
use Rattle.statetable.specs.declared.records.Caps.{Caps}
use Rattle.statetable.specs.declared.records.Tally.{Tally}
use Rattle.statetable.specs.declared.refusal.BuildRefusal.{BuildRefusal}
use Rattle.statetable.proofs.LaidRows.{laid_more}

-- an answer taken on, if it is no refusal
abbrev pub on : {A : Type 0} → Answer A → (A → Answer A) → Answer A
on (is c) g = g c
on (refused e) g = refused e

module _ {A B : Type 0} (f : A → B → Answer A) where
  on-walk : (xs : List B) (o : Answer A) → on o (λ c. walk f c xs) ≡ elim o [ is c ↦ walk f c xs | refused e ↦ refused e ]
  on-walk xs (is c) = refl
  on-walk xs (refused e) = refl

  pub walk-one : (a : A) (x : B) (xs : List B) → walk f a (x ∷ xs) ≡ on (f a x) (λ c. walk f c xs)
  unfolding walk
  walk-one a x xs = sym (on-walk xs (f a x))

  pub walk-append : (xs ys : List B) (a : A) → walk f a (xs ++ ys) ≡ on (walk f a xs) (λ c. walk f c ys)
  unfolding walk
  walk-append [] ys a = refl
  walk-append (x ∷ xs) ys a = go (f a x) (λ c. walk-append xs ys c)
    where
      go : (o : Answer A) → ((c : A) → walk f c (xs ++ ys) ≡ on (walk f c xs) (λ d. walk f d ys))
          → ◌≡◌ {A = Answer A} (elim o [ is c ↦ walk f c (xs ++ ys) | refused e ↦ refused e ])
          (on (elim o [ is c ↦ walk f c xs | refused e ↦ refused e ]) (λ d. walk f d ys))
      go (is c) h = h c
      go (refused e) h = refl

-- ---- the walk over some events has been told, and nothing refused; `rest` is still to come, and then the whole answer is w
pub record Here (b : List ℕ) (m : Caps) (s c : ℕ) (w : Answer Fill) (rest : List Event) (n : Tally) (cells offered rr sr : List ℕ) : Type 0 where
  pub row : Fill
  pub laid : Laid b m s c row n cells offered rr sr
  pub whole : walk (fill b m s) row rest ≡ w

-- an answer p was reached, and `rest` is still to come
module _ (b : List ℕ) (m : Caps) (s c : ℕ) (w : Answer Fill) (rest : List Event) (cells offered rr sr : List ℕ) where
  reached : (n : Tally) (p : Answer Fill) → on p (λ g. walk (fill b m s) g rest) ≡ w → LeftBy p b m s c (Ok n) cells offered rr sr
      → Here b m s c w rest n cells offered rr sr
  reached n (is g) q L = record { row = g; laid = L; whole = q }
  reached n (refused why) q L = absurd L

  stuck : (e : BuildRefusal) (p : Answer Fill) → on p (λ g. walk (fill b m s) g rest) ≡ w → LeftBy p b m s c (Err e) cells offered rr sr
      → (c' : ℕ) (cells' offered' rr' sr' : List ℕ) → LeftBy w b m s c' (Err e) cells' offered' rr' sr'
  stuck e (is g) q L c' cells' offered' rr' sr' = absurd L
  stuck e (refused why) q L c' cells' offered' rr' sr' = subst (λ o. LeftBy o b m s c' (Err e) cells' offered' rr' sr') q L

module _ {b : List ℕ} {m : Caps} {s c : ℕ} {n : Tally} {cells offered rr sr : List ℕ} where
  pub here-start : {f : Fill} (es rest : List Event) → es ≡ rest → {c' : ℕ} → c ≤ c' → Laid b m s c f n cells offered rr sr
      → Here b m s c' (walk (fill b m s) f es) rest n cells offered rr sr
  here-start {f} es rest e l L = record { row = f; laid = laid_more L l; whole = ap (walk (fill b m s) f) (sym e) }

  module _ {w : Answer Fill} {rest : List Event} (H : Here b m s c w rest n cells offered rr sr) where
    -- the same buffers under other names, and a wider bound
    pub here-as : {c' : ℕ} → c ≤ c' → {n' : Tally} {cells' offered' rr' sr' : List ℕ} → cells' ≡ cells → offered' ≡ offered → rr' ≡ rr → sr' ≡ sr → n' ≡ n
        → Here b m s c' w rest n' cells' offered' rr' sr'
    here-as {c'} l {n'} {cells'} {offered'} {rr'} {sr'} e1 e2 e3 e4 e5 =
        record { row = H.row; laid = rw (e1, e2, e3, e4, e5) (laid_more H.laid l); whole = H.whole }

    -- nothing is left
    pub here-done : rest ≡ [] → LeftBy w b m s c (Ok n) cells offered rr sr
    unfolding walk
    here-done e = subst (λ o. LeftBy o b m s c (Ok n) cells offered rr sr) (ap (walk (fill b m s) H.row) (sym e) ∙ H.whole) H.laid

    pub here-none : (rest' : List Event) → rest ≡ rest' → Here b m s c w rest' n cells offered rr sr
    here-none rest' e = record { row = H.row; laid = H.laid; whole = ap (walk (fill b m s) H.row) (sym e) ∙ H.whole }

    -- all that was still to come has come
    pub here-last : (es : List Event) → es ≡ rest → (c' : ℕ) (r : Result Tally BuildRefusal) (cells' offered' rr' sr' : List ℕ)
        → LeftBy (walk (fill b m s) H.row es) b m s c' r cells' offered' rr' sr' → LeftBy w b m s c' r cells' offered' rr' sr'
    here-last es e c' r cells' offered' rr' sr' L =
        subst (λ o. LeftBy o b m s c' r cells' offered' rr' sr') (ap (walk (fill b m s) H.row) e ∙ H.whole) L

    -- ---- some events more, or one, and `rest'` behind them
    module _ (es rest' : List Event) (e : rest ≡ es ++ rest') where
      more-whole : on (walk (fill b m s) H.row es) (λ g. walk (fill b m s) g rest') ≡ w
      more-whole = sym (walk-append (fill b m s) es rest' H.row) ∙ ap (walk (fill b m s) H.row) (sym e) ∙ H.whole

      pub here-more : {c' : ℕ} {n' : Tally} {cells' offered' rr' sr' : List ℕ}
          → LeftBy (walk (fill b m s) H.row es) b m s c' (Ok n') cells' offered' rr' sr' → Here b m s c' w rest' n' cells' offered' rr' sr'
      here-more {c'} {n'} {cells'} {offered'} {rr'} {sr'} L = reached b m s c' w rest' cells' offered' rr' sr' n' (walk (fill b m s) H.row es) more-whole L

      pub more-stuck : (c' : ℕ) (r : BuildRefusal) (cells' offered' rr' sr' : List ℕ)
          → LeftBy (walk (fill b m s) H.row es) b m s c' (Err r) cells' offered' rr' sr'
          → (c'' : ℕ) (cells'' offered'' rr'' sr'' : List ℕ) → LeftBy w b m s c'' (Err r) cells'' offered'' rr'' sr''
      more-stuck c' r cells' offered' rr' sr' L = stuck b m s c' w rest' cells' offered' rr' sr' r (walk (fill b m s) H.row es) more-whole L

    module _ (x : Event) (rest' : List Event) (e : rest ≡ x ∷ rest') where
      one-whole : on (fill b m s H.row x) (λ g. walk (fill b m s) g rest') ≡ w
      one-whole = sym (walk-one (fill b m s) H.row x rest') ∙ ap (walk (fill b m s) H.row) (sym e) ∙ H.whole

      pub here-one : {c' : ℕ} {n' : Tally} {cells' offered' rr' sr' : List ℕ}
          → LeftBy (fill b m s H.row x) b m s c' (Ok n') cells' offered' rr' sr' → Here b m s c' w rest' n' cells' offered' rr' sr'
      here-one {c'} {n'} {cells'} {offered'} {rr'} {sr'} L = reached b m s c' w rest' cells' offered' rr' sr' n' (fill b m s H.row x) one-whole L

      pub one-stuck : (c' : ℕ) (r : BuildRefusal) (cells' offered' rr' sr' : List ℕ)
          → LeftBy (fill b m s H.row x) b m s c' (Err r) cells' offered' rr' sr'
          → (c'' : ℕ) (cells'' offered'' rr'' sr'' : List ℕ) → LeftBy w b m s c'' (Err r) cells'' offered'' rr'' sr''
      one-stuck c' r cells' offered' rr' sr' L = stuck b m s c' w rest' cells' offered' rr' sr' r (fill b m s H.row x) one-whole L

-- the same, where the buffers came back under other names
pub left_lent : (w : Answer Fill) (b : List ℕ) (m : Caps) (s c : ℕ) (r : Result Tally BuildRefusal) (cells offered rr sr cells' offered' rr' sr' : List ℕ)
    → cells' ≡ cells → offered' ≡ offered → rr' ≡ rr → sr' ≡ sr → LeftBy w b m s c r cells offered rr sr → LeftBy w b m s c r cells' offered' rr' sr'
left_lent w b m s c r cells offered rr sr cells' offered' rr' sr' e1 e2 e3 e4 L = rw (e1, e2, e3, e4) L
