-- Each answer can be read back from what the contract says of it; so two that the contract allows coincide. Assumes nothing.
use mathlib.Core.Bool.{true, false}
use mathlib.Core.List.{List, [], ◌∷◌}
use mathlib.Core.Path.{◌≡◌, refl, sym, ap, ◌∙◌}
use Prim.Native.Nat.{ℕ, zero, suc}
use Rattle.std.specs.Prelude.{IfOk, Result, Ok, Err}
use Rattle.knuth.specs.Tables as theory
use Rattle.block.specs.Refused.{told}
use Rattle.block.specs.declared.grammar.Grammar.{Grammar}
use Rattle.block.specs.declared.refusal.BlockRefusal.{BlockRefusal}
use Rattle.block.specs.declared.set.TokenSet.{TokenSet}
use Rattle.pager.specs.Lists.{Answer, is, refused}
use Rattle.statetable.specs.Named.{action_of}
use Rattle.statetable.specs.Queries.{number_of as query_number, found_of, acted_of}
use Rattle.statetable.specs.declared.cell.Action.{Action}
use Rattle.statetable.specs.declared.cell.Action.TheVariants.{Error, Shift, Reduce, Accept}
use Rattle.statetable.specs.declared.queries.QueryRefusal.{QueryRefusal}
use Rattle.statetable.specs.declared.queries.QueryRefusal.TheVariants.{Block, RoomShort, NoSuch}
use Rattle.demand3.specs.Unique.{words_in, ClaimChecked, ClaimDecode, ClaimFound, ClaimActs, ClaimSet, ClaimYes, ClaimRows, ClaimSights}

-- ---- `Grammar::check`
abbrev checked : List ℕ → ℕ → Result (List ℕ) BlockRefusal
checked b zero = Ok b
checked b (suc zero) = Err BlockRefusal.BadHeader
checked b (suc (suc zero)) = Err BlockRefusal.TooLarge
checked b (suc (suc (suc zero))) = Err BlockRefusal.BadProduction
checked b (suc (suc (suc (suc zero)))) = Err BlockRefusal.BadStart
checked b (suc (suc (suc (suc (suc zero))))) = Err BlockRefusal.BadSymbol
checked b (suc (suc (suc (suc (suc (suc n)))))) = Err BlockRefusal.BadPrecedence

checked-is : (b : List ℕ) (r : Result Grammar BlockRefusal) → IfOk r (λ g. g.words.now ≡ b) → words_in r ≡ checked b (told r)
checked-is b (Ok g) e = ap Ok e
checked-is b (Err BlockRefusal.BadHeader) e = refl
checked-is b (Err BlockRefusal.TooLarge) e = refl
checked-is b (Err BlockRefusal.BadProduction) e = refl
checked-is b (Err BlockRefusal.BadStart) e = refl
checked-is b (Err BlockRefusal.BadSymbol) e = refl
checked-is b (Err BlockRefusal.BadPrecedence) e = refl

pub checked-one : ClaimChecked
checked-one b n r r' e s e' s' = checked-is b r s ∙ ap (checked b) (e ∙ sym e') ∙ sym (checked-is b r' s')

-- ---- `decode`
abbrev action : theory.Action → Action
action theory.Action.error = Error
action (theory.Action.shift u) = Shift u
action (theory.Action.reduce p) = Reduce p
action theory.Action.accept = Accept

action-is : (r : Action) → r ≡ action (action_of r)
action-is Error = refl
action-is (Shift u) = refl
action-is (Reduce p) = refl
action-is Accept = refl

pub decode-one : ClaimDecode
decode-one a r r' e e' = action-is r ∙ ap action (e ∙ sym e') ∙ sym (action-is r')

-- ---- the queries
abbrev query_refusal : ℕ → QueryRefusal
query_refusal zero = NoSuch
query_refusal (suc zero) = Block BlockRefusal.BadHeader
query_refusal (suc (suc zero)) = Block BlockRefusal.TooLarge
query_refusal (suc (suc (suc zero))) = Block BlockRefusal.BadProduction
query_refusal (suc (suc (suc (suc zero)))) = Block BlockRefusal.BadStart
query_refusal (suc (suc (suc (suc (suc zero))))) = Block BlockRefusal.BadSymbol
query_refusal (suc (suc (suc (suc (suc (suc zero)))))) = Block BlockRefusal.BadPrecedence
query_refusal (suc (suc (suc (suc (suc (suc (suc zero))))))) = RoomShort
query_refusal (suc (suc (suc (suc (suc (suc (suc (suc n)))))))) = NoSuch

query_refusal-is : (e : QueryRefusal) → e ≡ query_refusal (query_number e)
query_refusal-is (Block BlockRefusal.BadHeader) = refl
query_refusal-is (Block BlockRefusal.TooLarge) = refl
query_refusal-is (Block BlockRefusal.BadProduction) = refl
query_refusal-is (Block BlockRefusal.BadStart) = refl
query_refusal-is (Block BlockRefusal.BadSymbol) = refl
query_refusal-is (Block BlockRefusal.BadPrecedence) = refl
query_refusal-is RoomShort = refl
query_refusal-is NoSuch = refl

-- an answer read back, by what an answer of the theory is in the code
abbrev asked : {A B : Type 0} → (A → B) → Answer A → Result B QueryRefusal
asked f (is a) = Ok (f a)
asked f (refused []) = Err NoSuch
asked f (refused (n ∷ more)) = Err (query_refusal n)

found-is : (r : Result ℕ QueryRefusal) → r ≡ asked (λ w. w) (found_of r)
found-is (Ok w) = refl
found-is (Err e) = ap Err (query_refusal-is e)

pub found-one : ClaimFound
found-one a r r' e e' = found-is r ∙ ap (asked (λ w. w)) (e ∙ sym e') ∙ sym (found-is r')

acts-is : (r : Result Action QueryRefusal) → r ≡ asked action (acted_of r)
acts-is (Ok Error) = refl
acts-is (Ok (Shift u)) = refl
acts-is (Ok (Reduce p)) = refl
acts-is (Ok Accept) = refl
acts-is (Err e) = ap Err (query_refusal-is e)

pub acts-one : ClaimActs
acts-one a r r' e e' = acts-is r ∙ ap (asked action) (e ∙ sym e') ∙ sym (acts-is r')

-- ---- sets, tests, rows, symbols
abbrev set_of : List ℕ → TokenSet
set_of w = record { words = w }

pub set-one : ClaimSet
set-one w r r' e e' = ap set_of (e ∙ sym e')

pub yes-one : ClaimYes
yes-one P true true e e' = refl
yes-one P false false e e' = refl
yes-one P true false e e' = sym (e'.1 (e.0 refl))
yes-one P false true e e' = e.1 (e'.0 refl)

pub rows-one : ClaimRows
rows-one rs before n n' after after' w w' = (w.count ∙ sym w'.count, w.words ∙ sym w'.words)

pub sights-one : ClaimSights
sights-one xs r r' w w' = (w.count ∙ sym w'.count, w.symbols ∙ sym w'.symbols)
