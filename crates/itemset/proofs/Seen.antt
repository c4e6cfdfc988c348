-- One turn of sighting symbols: a mark for each number that was sighted, and the list so far. Assumes nothing.
use mathlib.Core.Bool.{Bool, true, false}
use mathlib.Core.List.{List, [], ◌∷◌, ◌++◌}
use mathlib.Core.Logic.{inl, inr}
use mathlib.Core.Path.{◌≡◌, refl, sym, ap, ◌∙◌, subst}
use Prim.Native.Nat.{ℕ, zero, suc, ◌+◌, ◌-◌, ◌*◌, ◌/◌, ◌%◌, ◌≤◌, ◌<◌}
use native.Mathlib.Decide.{ℕ_discrete}
use native.Mathlib.Numerals.{add-one}
use native.Mathlib.Omega.{arith}
use lib.Dec.{eqb}
use lib.ListN.{length, get_or, take, drop, set, replicate, length-append, length-set}
use lib.Seq.{append_snoc, set_at, get_or-set_same, get_or-set_other, take_all}
use Rattle.std.specs.Prelude.{Some, None}
use Rattle.block.specs.Limits.{WORDS, ITEM, RULES, TOKENS}
use Rattle.block.specs.Lists.{any}
use Rattle.block.specs.First.{firsts_of}
use Rattle.block.proofs.ListLaws.{get_d-same}
use Rattle.itemset.specs.Rows.{Row, row, Present}
use Rattle.itemset.specs.Close.{rest_of}
use Rattle.itemset.specs.Goto.{sight, sights_of}
use Rattle.itemset.specs.Lent.{RowsIn}
use Rattle.itemset.specs.Sights.{SIGHTS, NUMBERS, after_of, SightsAre}
use Rattle.itemset.proofs.RowLaws.{both_ways}
use Rattle.itemset.proofs.Members.{any-among, among-left, among-right, among-either}
use Rattle.itemset.proofs.Distinct.{few-symbols}
use Rattle.itemset.proofs.Rest.{rest-small}
use Rattle.itemset.proofs.Sighting.{sights-take, sight-end, sight-old, sight-new, sights-distinct, sights-only}
use Rattle.itemset.proofs.GoodReady.{good-ready}
use Rattle.itemset.proofs.LentRows.{in_rows, in_row, in-prod}
use Rattle.itemset.proofs.After.{symbol-rest, end_rest}

-- the rooms hold the symbols xs
pub record Seen (seen : List Bool) (symbols : List ℕ) (count : ℕ) (xs : List ℕ) : Type 0 where
  pub size : length seen ≡ NUMBERS
  pub marks : (y : ℕ) → y < NUMBERS → get_or seen y false ≡ any (eqb y) xs
  pub counted : count ≡ length xs
  pub listed : symbols ≡ xs ++ replicate (SIGHTS - length xs) 0

-- ---- one symbol more
any-more : (xs : List ℕ) (x : ℕ) → any (eqb x) (xs ++ (x ∷ [])) ≡ true
any-more xs x = (any-among x (xs ++ (x ∷ []))).1 (among-right x xs (x ∷ []) (inl refl))

any-other : (xs : List ℕ) (x y : ℕ) → (y ≡ x → ⊥) → any (eqb y) xs ≡ any (eqb y) (xs ++ (x ∷ []))
any-other xs x y n =
    both_ways (any (eqb y) xs) (any (eqb y) (xs ++ (x ∷ [])))
    (λ e. (any-among y (xs ++ (x ∷ []))).1 (among-left y xs (x ∷ []) ((any-among y xs).0 e)))
    (λ e.
    (any-among y xs).1
    (elim (among-either y xs (x ∷ []) ((any-among y (xs ++ (x ∷ []))).0 e)) [
      | inl m ↦ m
      | inr m ↦ elim m [ inl z ↦ absurd (n z) | inr z ↦ absurd z ]
    ]))

pad-more : (xs : List ℕ) (x n : ℕ) → length xs < n → set (xs ++ replicate (n - length xs) 0) (length xs) x ≡ (xs ++ (x ∷ [])) ++ replicate (n - length (xs ++ (x ∷ []))) 0
pad-more xs x n l =
    let m : n - length xs ≡ suc (n - suc (length xs)) = omega arith in
    let k : length (xs ++ (x ∷ [])) ≡ suc (length xs) = omega (arith, length-append xs (x ∷ [])) in
    ap (λ (j : ℕ). set (xs ++ replicate j 0) (length xs) x) m
    ∙ set_at xs 0 (replicate (n - suc (length xs)) 0) x (length xs) refl
    ∙ sym (append_snoc xs x (replicate (n - suc (length xs)) 0))
    ∙ ap (λ (j : ℕ). (xs ++ (x ∷ [])) ++ replicate (n - j) 0) (sym k)

pub seen_none : (b : List ℕ) → Seen (replicate NUMBERS false) (replicate SIGHTS 0) 0 (sights_of b [])
unfolding any sights_of
seen_none b = record { size = refl; marks = λ y l. get_d-same NUMBERS y false; counted = refl; listed = refl }

pub seen-is : {seen seen' : List Bool} {symbols symbols' : List ℕ} {count count' : ℕ} {xs : List ℕ} → seen' ≡ seen → symbols' ≡ symbols → count' ≡ count
    → Seen seen symbols count xs → Seen seen' symbols' count' xs
seen-is {seen} {seen'} {symbols} {symbols'} {count} {count'} {xs} e f g S =
    subst (λ u. Seen u symbols' count' xs) (sym e) (subst (λ u. Seen seen u count' xs) (sym f) (subst (λ u. Seen seen symbols u xs) (sym g) S))

module _ {seen : List Bool} {symbols : List ℕ} {count : ℕ} {xs : List ℕ} (S : Seen seen symbols count xs) where
  seen-new : (x : ℕ) → x < NUMBERS → length xs < SIGHTS → Seen (set seen x true) (set symbols count x) (count + 1) (xs ++ (x ∷ []))
  seen-new x l m =
      let c = S.counted in
      let z = S.size in
      record {
        size = simp length-set S.size;
        marks = λ y k. elim (ℕ_discrete y x) [
          | yes e ↦ rw e (get_or-set_same seen x true false (omega arith) ∙ sym (any-more xs x))
          | no n ↦ get_or-set_other seen x y true false n ∙ S.marks y k ∙ any-other xs x y n
        ];
        counted = omega (arith, length-append xs (x ∷ []));
        listed = ap (λ (u : List ℕ). set u count x) S.listed ∙ ap (λ (j : ℕ). set (xs ++ replicate (SIGHTS - length xs) 0) j x) c ∙ pad-more xs x SIGHTS m;
      }

present-take : (k n : ℕ) (rs : List Row) → Present k (take n rs) → Present k rs
present-take k zero rs m = absurd m
present-take k (suc n) [] m = absurd m
present-take k (suc n) (row i s ∷ rs) (inl e) = inl e
present-take k (suc n) (row i s ∷ rs) (inr m) = inr (present-take k n rs m)

module _ {b ws : List ℕ} {C : List Row} (R : RowsIn b ws C) where
  -- however many rows were looked at, there is room for what was sighted
  seen_few : (n : ℕ) → length (sights_of b (take n C)) ≤ SIGHTS
  seen_few n =
      few-symbols RULES TOKENS (sights_of b (take n C)) (sights-distinct b (take n C))
      (λ x m.
      let T = sights-only b x (take n C) m in
      let w = (rest-small b (firsts_of b) (good-ready R.good) T.item x T.rest (R.rows.items T.item (present-take T.item n C T.there)).prod T.is-rest).0 in
      (λ e. w.rule e, λ e. w.token e))

  pub seen_end : (i : ℕ) → length ws / ITEM ≤ i → {seen : List Bool} {symbols : List ℕ} {count : ℕ} → Seen seen symbols count (sights_of b (take i C)) → SightsAre (record { count = count; symbols = symbols }) (sights_of b C)
  seen_end i h {seen} {symbols} {count} S =
      let T = subst (λ u. Seen seen symbols count (sights_of b u)) (take_all i C (omega (arith, in_rows R))) S in
      record { count = T.counted; symbols = T.listed }

  -- ---- one row more
  module _ (i : ℕ) (l : i < length ws / ITEM) where
    abbrev item : ℕ
    item = get_or ws (ITEM * i) 0

    abbrev context : List ℕ
    context = take WORDS (drop (ITEM * i + 1) ws)

    step : sights_of b (take (i + 1) C) ≡ sight b (sights_of b (take i C)) (row item context)
    step =
        let m : i < length C = omega (arith, in_rows R) in
        ap (λ (n : ℕ). sights_of b (take n C)) (add-one i) ∙ sights-take b C i m ∙ ap (sight b (sights_of b (take i C))) (in_row R i m)

    module _ {seen : List Bool} {symbols : List ℕ} {count : ℕ} (S : Seen seen symbols count (sights_of b (take i C))) where
      pub step_end : None ≡ after_of (rest_of b item) → Seen seen symbols count (sights_of b (take (i + 1) C))
      step_end e = subst (λ u. Seen seen symbols count u) (sym (step ∙ sight-end b (sights_of b (take i C)) item context (end_rest (rest_of b item) e))) S

      module _ (x : ℕ) (e : Some x ≡ after_of (rest_of b item)) where
        rest : rest_of b item ≡ x ∷ drop 1 (rest_of b item)
        rest = symbol-rest (rest_of b item) x e

        pub step-low : x < NUMBERS
        step-low =
            let w = (rest-small b (firsts_of b) (good-ready R.good) item x (drop 1 (rest_of b item)) (in-prod R i l).below rest).0 in
            elim (ℕ_discrete (x % 2) 0) [
              | yes z ↦ omega (arith, w.rule z)
              | no z ↦ omega (arith, w.token (let o : x % 2 ≡ 1 = omega arith in o))
            ]

        pub step-old : get_or seen x false ≡ true → Seen seen symbols count (sights_of b (take (i + 1) C))
        step-old h =
            subst (λ u. Seen seen symbols count u)
            (sym (step ∙ sight-old b (sights_of b (take i C)) item context x (drop 1 (rest_of b item)) rest (sym (S.marks x step-low) ∙ h))) S

        module _ (h : get_or seen x false ≡ false) where
          new : sights_of b (take (i + 1) C) ≡ sights_of b (take i C) ++ (x ∷ [])
          new = step ∙ sight-new b (sights_of b (take i C)) item context x (drop 1 (rest_of b item)) rest (sym (S.marks x step-low) ∙ h)

          room : length (sights_of b (take i C)) < SIGHTS
          room = omega (arith, seen_few (i + 1), ap length new, length-append (sights_of b (take i C)) (x ∷ []))

          pub step_room : count < SIGHTS
          step_room = let c = S.counted in omega (arith, room)

          pub step-new : Seen (set seen x true) (set symbols count x) (count + 1) (sights_of b (take (i + 1) C))
          step-new = subst (λ u. Seen (set seen x true) (set symbols count x) (count + 1) u) (sym new) (seen-new S x step-low room)
