-- A verdict on a cell, way by way: written, recorded, counted, or the walk stops. Assumes nothing.
use mathlib.Core.Bool.{Bool, true, false, cond}
use mathlib.Core.List.{List, [], ◌∷◌, ◌++◌}
use mathlib.Core.Path.{◌≡◌, refl, sym, ap, ◌∙◌, subst}
use Prim.Native.Nat.{ℕ, ◌+◌, ◌*◌, ◌≤◌, ◌<◌}
use native.Mathlib.Numerals.{add-one}
use native.Mathlib.Omega.{arith}
use lib.Dec.{ltb}
use lib.ListN.{length, set, length-append}
use borrow.Author.Tests.{lt-ltb, le-ltb}
use Rattle.pager.specs.Lists.{Answer, is, refused}
use Rattle.std.specs.Prelude.{Result, Ok, Err}
use Rattle.statetable.specs.Limits.{RECORDS, RR, SR}
use Rattle.statetable.specs.Refusals.{values_of}
use Rattle.statetable.specs.Cells.{ReduceReduce, reduce-reduce, ShiftReduce, shift-reduce, Told, Fill, write, tell, with_rr, with_sr, counted, settle}
use Rattle.statetable.specs.Laid.{words_rr, words_sr, settles_of, ListOf, Listed, ForVerdict, SettledBy}
use Rattle.statetable.specs.declared.records.Caps.{Caps}
use Rattle.statetable.specs.declared.records.Tally.{Tally}
use Rattle.statetable.specs.declared.verdict.Verdict.{Verdict}
use Rattle.statetable.specs.declared.verdict.Verdict.TheVariants.{Write, TwoReduces, Unsettled, Settled}
use Rattle.statetable.specs.declared.refusal.BuildRefusal.{BuildRefusal}
use Rattle.statetable.specs.declared.refusal.BuildRefusal.TheVariants.{ConflictRoom}

abbrev pub numbers : (rr sr count : ℕ) → Tally
numbers rr sr count = record { rr = rr; sr = sr; count = count }

snoc-long : {A : Type 0} (xs : List A) (x : A) → length xs + 1 ≡ length (xs ++ (x ∷ []))
snoc-long xs x = sym (length-append xs (x ∷ []))

module _ {m : Caps} {f : Fill} {n : Tally} {t : ℕ} {cells rr sr : List ℕ} (H : ForVerdict m f n t cells rr sr) where
  abbrev k : Told
  k = f.told

  pub rr-count : n.rr ≡ length f.told.rr
  rr-count = ap (λ (q : Tally). q.rr) H.listed.counts

  pub sr-count : n.sr ≡ length f.told.sr
  sr-count = ap (λ (q : Tally). q.sr) H.listed.counts

  -- ---- what the code needs
  pub cell-there : t < length cells
  cell-there = subst (λ (l : List ℕ). t < length l) (sym H.cells_are) H.there

  pub count_low : n.count < RECORDS * RECORDS
  count_low = subst (λ (q : Tally). q.count < RECORDS * RECORDS) (sym H.listed.counts) H.count

  written : (w : ℕ) → set cells t w ≡ set f.cells t w
  written w = ap (λ (l : List ℕ). set l t w) H.cells_are

  module _ (s : ℕ) (v : Verdict) where
    abbrev pub Leaves : Result Tally BuildRefusal → List ℕ → List ℕ → List ℕ → Type 0
    Leaves r cells' rr' sr' = SettledBy (settle m s t (settles_of v) f) m r cells' rr' sr'

    is_at : (x : Verdict) → v ≡ x → settle m s t (settles_of v) f ≡ settle m s t (settles_of x) f
    is_at x e = ap (λ (y : Verdict). settle m s t (settles_of y) f) e

    -- a refusal
    stopped_by : (e : BuildRefusal) → settle m s t (settles_of v) f ≡ refused (values_of e) → (cells' rr' sr' : List ℕ) → Leaves (Err e) cells' rr' sr'
    stopped_by e q cells' rr' sr' = subst (λ (a : Answer Fill). SettledBy a m (Err e) cells' rr' sr') (sym q) refl

    -- the row and the lists after it
    left_by : (g : Fill) → settle m s t (settles_of v) f ≡ is g → (r : Tally) (cells' rr' sr' : List ℕ) → Listed m g.told r rr' sr' → cells' ≡ g.cells
        → Leaves (Ok r) cells' rr' sr'
    left_by g q r cells' rr' sr' L e = subst (λ (a : Answer Fill). SettledBy a m (Ok r) cells' rr' sr') (sym q) (L, e)

    pub settled-write : (w : ℕ) → v ≡ Write w → Leaves (Ok n) (set cells t w) rr sr
    unfolding settle
    settled-write w e = left_by (write t w f) (is_at (Write w) e) n (set cells t w) rr sr H.listed (written w)

    pub settled-count : (w : ℕ) → v ≡ Settled w → Leaves (Ok (numbers n.rr n.sr (n.count + 1))) (set cells t w) rr sr
    unfolding settle
    settled-count w e =
        left_by (write t w (tell (counted k) f)) (is_at (Settled w) e) (numbers n.rr n.sr (n.count + 1)) (set cells t w) rr sr
        (record {
          reduces = H.listed.reduces;
          shifts = H.listed.shifts;
          counts = ap (λ (q : Tally). numbers q.rr q.sr (q.count + 1)) H.listed.counts
              ∙ ap (λ (c : ℕ). numbers (length k.rr) (length k.sr) c) (add-one k.count);
        })
        (written w)

    -- ---- two reduces met
    module _ (w a o : ℕ) (e : v ≡ TwoReduces w a o) where
      met-rr : (c : Bool) → ltb (length f.told.rr) m.rr ≡ c
          → settle m s t (settles_of v) f ≡ cond c (is (write t w (tell (with_rr (reduce-reduce t a o s) f.told) f))) (refused (10 ∷ []))
      unfolding settle
      met-rr c q =
          is_at (TwoReduces w a o) e
          ∙ ap (λ (c : Bool). cond c (is (write t w (tell (with_rr (reduce-reduce t a o s) f.told) f))) (refused (10 ∷ []))) q

      pub full-rr : m.rr ≤ n.rr → (cells' rr' sr' : List ℕ) → Leaves (Err (ConflictRoom)) cells' rr' sr'
      full-rr h = stopped_by (ConflictRoom) (met-rr false (le-ltb (length k.rr) m.rr (omega (arith, rr-count))))

      pub recorded-rr : n.rr < m.rr → (rr' : List ℕ)
          → ((rs : List ReduceReduce) → ListOf words_rr RR m.rr rs rr → n.rr ≡ length rs → ListOf words_rr RR m.rr (rs ++ (reduce-reduce t a o s ∷ [])) rr')
          → Leaves (Ok (numbers (n.rr + 1) n.sr n.count)) (set cells t w) rr' sr
      recorded-rr h rr' put =
          left_by (write t w (tell (with_rr (reduce-reduce t a o s) k) f)) (met-rr true (lt-ltb (length k.rr) m.rr (omega (arith, rr-count))))
          (numbers (n.rr + 1) n.sr n.count) (set cells t w) rr' sr
          (record {
            reduces = put k.rr H.listed.reduces rr-count;
            shifts = H.listed.shifts;
            counts = ap (λ (q : Tally). numbers (q.rr + 1) q.sr q.count) H.listed.counts
                ∙ ap (λ (c : ℕ). numbers c (length k.sr) k.count) (snoc-long k.rr (reduce-reduce t a o s));
          })
          (written w)

    -- ---- a shift met a reduce, and a precedence is missing
    module _ (w p : ℕ) (e : v ≡ Unsettled w p) where
      met-sr : (c : Bool) → ltb (length f.told.sr) m.sr ≡ c
          → settle m s t (settles_of v) f ≡ cond c (is (write t w (tell (with_sr (shift-reduce t p s) f.told) f))) (refused (10 ∷ []))
      unfolding settle
      met-sr c q =
          is_at (Unsettled w p) e
          ∙ ap (λ (c : Bool). cond c (is (write t w (tell (with_sr (shift-reduce t p s) f.told) f))) (refused (10 ∷ []))) q

      pub full-sr : m.sr ≤ n.sr → (cells' rr' sr' : List ℕ) → Leaves (Err (ConflictRoom)) cells' rr' sr'
      full-sr h = stopped_by (ConflictRoom) (met-sr false (le-ltb (length k.sr) m.sr (omega (arith, sr-count))))

      pub recorded-sr : n.sr < m.sr → (sr' : List ℕ)
          → ((rs : List ShiftReduce) → ListOf words_sr SR m.sr rs sr → n.sr ≡ length rs → ListOf words_sr SR m.sr (rs ++ (shift-reduce t p s ∷ [])) sr')
          → Leaves (Ok (numbers n.rr (n.sr + 1) n.count)) (set cells t w) rr sr'
      recorded-sr h sr' put =
          left_by (write t w (tell (with_sr (shift-reduce t p s) k) f)) (met-sr true (lt-ltb (length k.sr) m.sr (omega (arith, sr-count))))
          (numbers n.rr (n.sr + 1) n.count) (set cells t w) rr sr'
          (record {
            reduces = H.listed.reduces;
            shifts = put k.sr H.listed.shifts sr-count;
            counts = ap (λ (q : Tally). numbers q.rr (q.sr + 1) q.count) H.listed.counts
                ∙ ap (λ (c : ℕ). numbers (length k.rr) c k.count) (snoc-long k.sr (shift-reduce t p s));
          })
          (written w)
