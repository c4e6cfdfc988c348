-- When the four numbers behind a table are a query and its answer. Assumes nothing.
use mathlib.Core.Bool.{Bool, true}
use mathlib.Core.List.{List, [], ◌∷◌}
use mathlib.Core.Logic.{◌↔◌}
use mathlib.Core.Path.{◌≡◌, refl, sym, ap, ◌∙◌}
use Prim.Native.Nat.{ℕ, suc}
use native.Mathlib.Omega.{arith}
use lib.ListN.{length, get_or, drop}
use Rattle.std.specs.Prelude.{Result}
use Rattle.block.specs.Block.{tokens}
use Rattle.pager.specs.Lists.{Answer, is, refused}
use Rattle.statetable.specs.Queries.{query_of, acted_of, decoded}
use Rattle.statetable.specs.declared.cell.Action.{Action}
use Rattle.statetable.specs.declared.queries.QueryRefusal.{QueryRefusal}
use Rattle.listed_statetable.specs.Queries.{found_words, ActsTold, asked_of, WordCase}
use Rattle.listed_statetable.proofs.AskedKinds.{asked-at}

found-two : (a : Answer ℕ) → length (found_words a) ≡ 2
found-two (is w) = refl
found-two (refused why) = refl

four : (l : List ℕ) → length l ≡ 4 → l ≡ get_or l 0 0 ∷ get_or l 1 0 ∷ get_or l 2 0 ∷ get_or l 3 0 ∷ []
four [] e = absurd (omega arith)
four (a ∷ []) e = absurd (omega arith)
four (a ∷ b ∷ []) e = absurd (omega arith)
four (a ∷ b ∷ c ∷ []) e = absurd (omega arith)
four (a ∷ b ∷ c ∷ d ∷ []) e = refl
four (a ∷ b ∷ c ∷ d ∷ x ∷ l) e = absurd (omega arith)

module _ (kind : ℕ) (b : List ℕ) (states : ℕ) (table last : List ℕ) where
  pub case-four : WordCase kind b states table last → length last ≡ 4
  case-four g = ap length g.words ∙ ap (λ n. suc (suc n)) (found-two (asked_of kind b states table g.state g.column))

  pub case-none : (i : ℕ) → i ≡ get_or last 1 0 → kind ≡ 5 → WordCase kind b states table last → i ≡ 0
  case-none i q z g = q ∙ ap (λ w. get_or w 1 0) g.words ∙ g.none z

  -- state s, column i: the two numbers behind them are the answer
  module _ (s i : ℕ) (p : s ≡ get_or last 0 0) (q : i ≡ get_or last 1 0) (l : length last ≡ 4) where
    case-answer : WordCase kind b states table last → get_or last 2 0 ∷ get_or last 3 0 ∷ [] ≡ found_words (asked_of kind b states table s i)
    case-answer g =
        let x : s ≡ g.state = p ∙ ap (λ w. get_or w 0 0) g.words in
        let y : i ≡ g.column = q ∙ ap (λ w. get_or w 1 0) g.words in
        rw (x, y) (sym (ap (drop 2) (four last l)) ∙ ap (drop 2) g.words)

    pub answer-by : {r : Bool} → (kind ≡ 5 → i ≡ 0) → (r ≡ true) ↔ (get_or last 2 0 ∷ get_or last 3 0 ∷ [] ≡ found_words (asked_of kind b states table s i))
        → (r ≡ true) ↔ WordCase kind b states table last
    answer-by z f = (
      λ t. record { state = s; column = i; none = z; words = four last l ∙ rw (sym p, sym q, f.0 t) refl },
      λ g. f.1 (case-answer g),
    )

    -- a cell: the answer is also the one that the action was read from
    pub case-told : (acts : Result Action QueryRefusal) → kind ≡ 0 → acted_of acts ≡ decoded (query_of b states table (tokens b) s i)
        → WordCase kind b states table last → ActsTold acts (get_or last 2 0) (get_or last 3 0)
    case-told acts z e g = record {
      answer = asked_of 0 b states table s i;
      words = case-answer g ∙ ap found_words (sym (asked-at kind b states table s i 0 z));
      action = e;
    }
