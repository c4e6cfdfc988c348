-- A query of a lent table: the ways out, one law for each. Assumes nothing.
use mathlib.Core.List.{List, [], ◌∷◌}
use mathlib.Core.Path.{◌≡◌, refl, ap, ◌∙◌}
use Prim.Native.Nat.{ℕ}
use Rattle.block.specs.Refusal.{refusal_of}
use Rattle.block.specs.Refused.{number_of}
use Rattle.block.specs.declared.refusal.BlockRefusal.{BlockRefusal}
use Rattle.block.specs.declared.refusal.BlockRefusal.TheVariants.{BadHeader, TooLarge, BadProduction, BadStart, BadSymbol, BadPrecedence}
use Rattle.pager.specs.Lists.{refused, unless}
use Rattle.statetable.specs.Queries.{table_word, query_of}

-- ---- 1 to 6, or the word
module _ (b : List ℕ) (states : ℕ) (table : List ℕ) (width s i : ℕ) where
  pub query_refused : (e : BlockRefusal) → number_of e ≡ refusal_of b → refused (number_of e ∷ []) ≡ query_of b states table width s i
  unfolding query_of
  query_refused e h = go e ∙ ap (λ (k : ℕ). unless k (table_word states table width s i)) h
    where
      go : (e : BlockRefusal) → refused (number_of e ∷ []) ≡ unless (number_of e) (table_word states table width s i)
      go BadHeader = refl
      go TooLarge = refl
      go BadProduction = refl
      go BadStart = refl
      go BadSymbol = refl
      go BadPrecedence = refl

  pub query_is : 0 ≡ refusal_of b → table_word states table width s i ≡ query_of b states table width s i
  unfolding query_of
  query_is h = ap (λ (k : ℕ). unless k (table_word states table width s i)) h
