-- `states::fill_named` meets its contract. Assumes nothing.
use Rattle.std.proofs.Common.{rules, ap₂, List, ◌++◌, ◌≡◌, ℕ, ◌+◌, ◌*◌, drop}
use Rattle.block.specs.Limits.{ITEM}
use Rattle.pager.specs.Call.{closed_part, zeroed}
use Rattle.statetable.proofs.FirstWords.{states-of, named-of, closed-zeroed}
use Rattle.statetable.proofs.states.fill_named.Goals as goal

pub returns : goal.returns
returns c =
    let p = c.fill_states-filled in
    let t = c.tokens.result in
    let work : ℕ = ITEM * (c.symbols.result + c.productions.result) in
    let work-is : work ≡ closed_part c.args.grammar.words.now = ap₂ (λ (x y : ℕ). ITEM * (x + y)) c.symbols.ensures c.productions.ensures in
    let before : List ℕ = p.new.closed ++ drop work c.args.closed.now in
    let cleared : c.fill.new.self ++ drop work before ≡ zeroed work before = search rules in
    let left = rw c.new-firsts.ensures at p.ensures in
    record {
      filled = λ ss S.
          named-of S t work c.tokens.ensures work-is p.result p.new.actions p.new.offered p.new.rr p.new.sr
          (left ss (states-of S t work c.tokens.ensures work-is)) p.auto.actions p.auto.offered p.auto.rr p.auto.sr;
      closed = closed-zeroed c.requires.1 t work c.tokens.ensures work-is p.new.closed _ p.auto.closed cleared;
    }

pub fill_states-filled-requires : goal.fill_states-filled-requires
fill_states-filled-requires c =
    let work-is : ITEM * (c.symbols.result + c.productions.result) ≡ closed_part c.args.grammar.words.now =
    ap₂ (λ (x y : ℕ). ITEM * (x + y)) c.symbols.ensures c.productions.ensures in
    (c.requires.0, rw c.new-firsts.ensures (states-of c.requires.1 c.tokens.result _ c.tokens.ensures work-is))
