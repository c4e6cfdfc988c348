-- `acts_is` compares the number of a refusal, or the action. Assumes nothing.
use mathlib.Core.Bool.{true}
use mathlib.Core.List.{[], ◌∷◌}
use mathlib.Core.Logic.{◌↔◌}
use mathlib.Core.Path.{◌≡◌, sym, subst}
use Rattle.listed_statetable.specs.Queries.{ActsTold}
use Rattle.listed_statetable.proofs.Cells.{told-refused}
use Rattle.listed_statetable.proofs.queries.acts_is.Goals as goal

pub returns-in-Err : goal.returns-in-Err
returns-in-Err c =
    let a = c.args in
    let i = c.in-Err in
    let p = c.is_pair in
    subst (λ x. (p.result ≡ true) ↔ ActsTold x a.number a.word) (sym i.is)
    (told-refused a.number a.word i.refusal (subst (λ n. (p.result ≡ true) ↔ (a.number ∷ a.word ∷ [] ≡ n ∷ 0 ∷ [])) c.number.ensures p.ensures))
