-- What the call `graph` answers is what rules 3 to 7 say, its work room is bounded, and the contract leaves one outcome. Assumes nothing.
use mathlib.Core.Bool.{Bool, true, false, cond, true≢false}
use mathlib.Core.List.{List}
use mathlib.Core.Path.{◌≡◌, refl, sym, ap, ◌∙◌}
use Prim.Native.Nat.{ℕ, zero, suc}
use Rattle.std.specs.Prelude.{Result, Ok, Err}
use native.Mathlib.Omega.{arith}
use lib.ListN.{get_or}
use Rattle.block.specs.Refusal.{refusal_of, Good}
use Rattle.block.specs.First.{firsts_of}
use Rattle.block.proofs.Good.{placed}
use Rattle.block.proofs.Valid.{good-valid}
use Rattle.itemset.proofs.GoodReady.{good-ready}
use Rattle.pager.specs.Lists.{Answer, is, refused, unless}
use Rattle.pager.specs.Place.{Limits}
use Rattle.pager.specs.Graph.{graph_of}
use Rattle.pager.specs.Given.{Given}
use Rattle.pager.specs.Rules3to5.{Usable}
use Rattle.pager.specs.Rules3to7.{Rules3to7}
use Rattle.pager.specs.Call.{Buffers, is_short, or_else, turned_away, graph_call, answer_of}
use Rattle.pager.specs.CallSteps.{Roomy}
use Rattle.pager.specs.CallRules.{ClaimCall, ClaimWork, ClaimOne}
use Rattle.pager.specs.declared.call.Kept.{Kept}
use Rattle.block.specs.declared.refusal.BlockRefusal.TheVariants.{BadHeader, TooLarge, BadProduction, BadStart, BadSymbol, BadPrecedence}
use Rattle.pager.specs.declared.refusal.GraphRefusal.{GraphRefusal}
use Rattle.pager.specs.declared.refusal.GraphRefusal.TheVariants.{Block, RoomShort, StateRoom, ItemRoom}
use Rattle.pager.specs.Held.{number_of}
use Rattle.pager.proofs.CallLaws.{roomy}
use Rattle.pager.proofs.Collected.{rules-3-to-7}

-- a good block has all that rules 3 to 7 ask
pub usable : {b : List ℕ} → Good b → Usable b (firsts_of b)
usable g = record { ready = good-ready g; valid = good-valid g; few = (placed g).tokens-most }

-- ---- a call that is not turned away has a good block and room
else-zero : (n k : ℕ) → or_else n k ≡ 0 → (n ≡ 0) × (k ≡ 0)
else-zero zero k e = (refl, e)
else-zero (suc n) k e = absurd (omega arith)

not_short : (t : Bool) → ◌≡◌ {A = ℕ} (cond t 7 0) 0 → t ≡ false
not_short true e = absurd (omega arith)
not_short false e = refl

pub let-in : (b : List ℕ) (m : Limits) (l : Buffers) → turned_away b m l ≡ 0 → Roomy b (record { states = m.states; items = m.items }) l
unfolding turned_away
let-in b m l e =
    let (g, s) = else-zero (refusal_of b) (cond (is_short b m l) 7 0) e in
    roomy b (record { states = m.states; items = m.items }) l g (not_short (is_short b m l) s)

-- ---- rules 3 to 7
pub call-rules : ClaimCall
unfolding graph_call
call-rules b m l = go (turned_away b m l) refl
  where
    go : (n : ℕ) → turned_away b m l ≡ n → Given (unless n (graph_of b (firsts_of b) m)) (Rules3to7 b m)
    go zero e = let R = let-in b m l e in rules-3-to-7 b (firsts_of b) (usable R.good) m R.some-states R.some-items
    go (suc n) e = tt

-- ---- work room
pub work-bounded : ClaimWork
work-bounded b m n e = (omega arith, omega arith, omega arith)

-- ---- one outcome
-- the values of an answer, d for a refusal; its number, 0 for none; and which of the two it is
abbrev kept_in : Kept → Answer Kept → Kept
kept_in d (is k) = k
kept_in d (refused why) = d

abbrev number_in : Answer Kept → ℕ
number_in (is k) = 0
number_in (refused why) = get_or why 0 0

abbrev is-given : Answer Kept → Bool
is-given (is k) = true
is-given (refused why) = false

-- the refusal of a number: each has its own
abbrev refusal_in : ℕ → GraphRefusal
refusal_in zero = RoomShort
refusal_in (suc zero) = Block BadHeader
refusal_in (suc (suc zero)) = Block TooLarge
refusal_in (suc (suc (suc zero))) = Block BadProduction
refusal_in (suc (suc (suc (suc zero)))) = Block BadStart
refusal_in (suc (suc (suc (suc (suc zero))))) = Block BadSymbol
refusal_in (suc (suc (suc (suc (suc (suc zero)))))) = Block BadPrecedence
refusal_in (suc (suc (suc (suc (suc (suc (suc zero))))))) = RoomShort
refusal_in (suc (suc (suc (suc (suc (suc (suc (suc zero)))))))) = StateRoom
refusal_in (suc (suc (suc (suc (suc (suc (suc (suc (suc n))))))))) = ItemRoom

back : (e : GraphRefusal) → refusal_in (number_of e) ≡ e
back (Block BadHeader) = refl
back (Block TooLarge) = refl
back (Block BadProduction) = refl
back (Block BadStart) = refl
back (Block BadSymbol) = refl
back (Block BadPrecedence) = refl
back RoomShort = refl
back StateRoom = refl
back ItemRoom = refl

pub answer-one : (r r' : Result Kept GraphRefusal) → answer_of r ≡ answer_of r' → r ≡ r'
answer-one (Ok k) (Ok k') e = ap Ok (ap (kept_in k) e)
answer-one (Ok k) (Err n) e = absurd (true≢false (ap is-given e))
answer-one (Err n) (Ok k) e = absurd (true≢false (sym (ap is-given e)))
answer-one (Err n) (Err n') e = ap Err (sym (back n) ∙ ap refusal_in (ap number_in e) ∙ back n')

pub one-outcome : ClaimOne
one-outcome b m before r r' after after' A B = (answer-one r r' (A.answer ∙ sym B.answer), A.buffers ∙ sym B.buffers)
