-- An action and the number and the word that it was read from. Assumes nothing.
use mathlib.Core.Bool.{Bool, true}
use mathlib.Core.List.{List, [], ◌∷◌}
use mathlib.Core.Logic.{◌↔◌}
use mathlib.Core.Path.{◌≡◌, refl, sym, ap, ◌∙◌}
use Prim.Native.Nat.{ℕ, zero, suc, ◌/◌, ◌%◌, ◌<◌}
use native.Mathlib.Omega.{arith}
use lib.ListN.{get_or, take}
use Rattle.std.specs.Prelude.{Result, Ok, Err}
use Rattle.pager.specs.Lists.{Answer, is, refused}
use Rattle.statetable.specs.Cell.{of_kind, decode}
use Rattle.statetable.specs.Queries.{number_of, acted_of, decoded}
use Rattle.statetable.specs.declared.cell.Action.{Action}
use Rattle.statetable.specs.declared.cell.Action.TheVariants.{Error, Shift, Reduce, Accept}
use Rattle.statetable.specs.declared.queries.QueryRefusal.{QueryRefusal}
use Rattle.listed_statetable.specs.Queries.{found_words, ActsTold}
use Rattle.listed_statetable.proofs.Pairs.{three}

-- the number, the low two bits and the others, where such an action was read
abbrev seen_by : Result Action QueryRefusal → (number low high : ℕ) → List ℕ
seen_by (Ok Error) n k v = 0 ∷ 0 ∷ v ∷ []
seen_by (Ok (Shift u)) n k v = 0 ∷ 1 ∷ u ∷ []
seen_by (Ok (Reduce p)) n k v = 0 ∷ 2 ∷ p ∷ []
seen_by (Ok Accept) n k v = 0 ∷ 3 ∷ v ∷ []
seen_by (Err e) n k v = n ∷ k ∷ v ∷ []

told : (x : Result Action QueryRefusal) (n k v : ℕ) → n ≡ 0 → k < 4 → acted_of x ≡ is (of_kind k v) → n ∷ k ∷ v ∷ [] ≡ seen_by x n k v
told (Ok Error) n zero v z l e = cc
told (Ok Error) n (suc zero) v z l e = cc
told (Ok Error) n (suc (suc zero)) v z l e = cc
told (Ok Error) n (suc (suc (suc k))) v z l e = cc
told (Ok (Shift u)) n zero v z l e = cc
told (Ok (Shift u)) n (suc zero) v z l e = cc
told (Ok (Shift u)) n (suc (suc zero)) v z l e = cc
told (Ok (Shift u)) n (suc (suc (suc k))) v z l e = cc
told (Ok (Reduce p)) n zero v z l e = cc
told (Ok (Reduce p)) n (suc zero) v z l e = cc
told (Ok (Reduce p)) n (suc (suc zero)) v z l e = cc
told (Ok (Reduce p)) n (suc (suc (suc k))) v z l e = cc
told (Ok Accept) n zero v z l e = cc
told (Ok Accept) n (suc zero) v z l e = cc
told (Ok Accept) n (suc (suc zero)) v z l e = cc
told (Ok Accept) n (suc (suc (suc k))) v z l e = let y : k ≡ 0 = omega arith in cc
told (Err r) n k v z l e = cc

module _ (number word : ℕ) where
  -- the action of that kind, with the high bits as its value
  read_as : (x : Result Action QueryRefusal) (k : ℕ) → number ≡ 0 → word % 4 ≡ k → acted_of x ≡ is (of_kind k (word / 4)) → ActsTold x number word
  unfolding decode
  read_as x k z e d = record {
    answer = is word;
    words = ap (λ n. n ∷ word ∷ []) z;
    action = d ∙ ap (λ j. is (of_kind j (word / 4))) (sym e);
  }

  seen : (x : Result Action QueryRefusal) → ActsTold x number word → number ∷ word % 4 ∷ word / 4 ∷ [] ≡ seen_by x number (word % 4) (word / 4)
  unfolding decode
  seen x t = go x t.answer t.action t.words
    where
      go : (x : Result Action QueryRefusal) (a : Answer ℕ) → acted_of x ≡ decoded a → number ∷ word ∷ [] ≡ found_words a
          → number ∷ word % 4 ∷ word / 4 ∷ [] ≡ seen_by x number (word % 4) (word / 4)
      go x (is w) d e =
          let g : word ≡ w = ap (λ l. get_or l 1 0) e in
          rw g (told x number (w % 4) (w / 4) (ap (λ l. get_or l 0 0) e) (omega arith) d)
      go (Ok Error) (refused why) d e = cc
      go (Ok (Shift u)) (refused why) d e = cc
      go (Ok (Reduce p)) (refused why) d e = cc
      go (Ok Accept) (refused why) d e = cc
      go (Err r) (refused why) d e = cc

  refusal : (e : QueryRefusal) → ActsTold (Err e) number word → number ∷ word ∷ [] ≡ number_of e ∷ 0 ∷ []
  refusal e t = go t.answer t.action t.words
    where
      go : (a : Answer ℕ) → acted_of (Err e) ≡ decoded a → number ∷ word ∷ [] ≡ found_words a → number ∷ word ∷ [] ≡ number_of e ∷ 0 ∷ []
      go (is w) d e = cc
      go (refused why) d e = cc

  module _ {r : Bool} where
    pub told-error : (r ≡ true) ↔ (number ∷ word % 4 ∷ [] ≡ 0 ∷ 0 ∷ []) → (r ≡ true) ↔ ActsTold (Ok Error) number word
    told-error f = (
      λ t. read_as (Ok Error) 0 (ap (λ l. get_or l 0 0) (f.0 t)) (ap (λ l. get_or l 1 0) (f.0 t)) refl,
      λ a. f.1 (ap (take 2) (seen (Ok Error) a)),
    )

    pub told-shift : (u : ℕ) → (r ≡ true) ↔ ((number ≡ 0) × (word % 4 ≡ 1) × (word / 4 ≡ u)) → (r ≡ true) ↔ ActsTold (Ok (Shift u)) number word
    told-shift u f = (
      λ t. read_as (Ok (Shift u)) 1 (f.0 t).0 (f.0 t).1 (ap (λ v. acted_of (Ok (Shift v))) (sym (f.0 t).2)),
      λ a. f.1 (three number (word % 4) _ _ (word / 4) _ (seen (Ok (Shift u)) a)),
    )

    pub told-reduce : (p : ℕ) → (r ≡ true) ↔ ((number ≡ 0) × (word % 4 ≡ 2) × (word / 4 ≡ p)) → (r ≡ true) ↔ ActsTold (Ok (Reduce p)) number word
    told-reduce p f = (
      λ t. read_as (Ok (Reduce p)) 2 (f.0 t).0 (f.0 t).1 (ap (λ v. acted_of (Ok (Reduce v))) (sym (f.0 t).2)),
      λ a. f.1 (three number (word % 4) _ _ (word / 4) _ (seen (Ok (Reduce p)) a)),
    )

    pub told-accept : (r ≡ true) ↔ (number ∷ word % 4 ∷ [] ≡ 0 ∷ 3 ∷ []) → (r ≡ true) ↔ ActsTold (Ok Accept) number word
    told-accept f = (
      λ t. read_as (Ok Accept) 3 (ap (λ l. get_or l 0 0) (f.0 t)) (ap (λ l. get_or l 1 0) (f.0 t)) refl,
      λ a. f.1 (ap (take 2) (seen (Ok Accept) a)),
    )

    pub told-refused : (e : QueryRefusal) → (r ≡ true) ↔ (number ∷ word ∷ [] ≡ number_of e ∷ 0 ∷ []) → (r ≡ true) ↔ ActsTold (Err e) number word
    told-refused e f = (
      λ t. record { answer = refused (number_of e ∷ []); words = f.0 t; action = refl },
      λ a. f.1 (refusal e a),
    )
