-- `states::fill_states` meets its contract. Assumes nothing.
use Rattle.std.proofs.Common.{add-one, ◌≡◌, ap, ap₂, ℕ, ◌+◌, ◌*◌, ◌<◌, ◌≤◌}
use Rattle.std.proofs.lemmas.Result.{err_from_is_err_and}
use Rattle.block.specs.Limits.{TOKENS, RULES}
use Rattle.block.specs.Block.{tokens, rules}
use Rattle.pager.specs.Held.{STATES}
use Rattle.statetable.specs.ForTables.{ForStates}
use Rattle.statetable.proofs.RowByRow.{done_none, for-one, done_next, filled-all, filled-stop}
use Rattle.statetable.proofs.RowByRow.{to-fits, bytes_fit, row-width, wide_fits}
use Rattle.statetable.proofs.RowByRow.{edges-in, kernel-in}
use Rattle.statetable.proofs.states.fill_states.Goals as goal
use Rattle.statetable.proofs.states.fill_states.Goals.{After-kernel_of}

at-is : (c : After-kernel_of) → c.loop-s.s * c.tokens-tokens.result ≡ c.loop-s.s * tokens c.args.firsts.now.grammar.words.now
at-is c = ap (λ (t : ℕ). c.loop-s.s * t) c.tokens-tokens.ensures

wide_is : (c : After-kernel_of) → let b = c.args.firsts.now.grammar.words.now in c.rules.result + c.tokens-tokens.result ≡ rules b + tokens b
wide_is c = ap₂ (λ (r t : ℕ). r + t) c.rules.ensures c.tokens-tokens.ensures

from_is : (c : After-kernel_of) → let b = c.args.firsts.now.grammar.words.now in c.loop-s.s * (c.rules.result + c.tokens-tokens.result) ≡ c.loop-s.s * (rules b + tokens b)
from_is c = ap (λ (w : ℕ). c.loop-s.s * w) (wide_is c)

pub loop-s-init : goal.loop-s-init
loop-s-init c = λ ss S. done_none S

pub overflow_add-to : goal.overflow_add-to
overflow_add-to c =
    let lent : let a = c.args in
    ForStates a.firsts.now.grammar.words.now a.caps a.states a.items.now a.spans.now a.edges.now a.closed.now
    a.actions.now a.offered.now a.rr.now a.sr.now c.requires.0 = c.requires.1 in
    let tokens-are : c.tokens-tokens.result ≡ tokens c.args.firsts.now.grammar.words.now = c.tokens-tokens.ensures in
    let rules-are : c.rules.result ≡ rules c.args.firsts.now.grammar.words.now = c.rules.ensures in
    let low : c.loop-s.s < c.args.states = c.loop-s-test.true in
    let edge_row : c.loop-s.s * (c.rules.result + c.tokens-tokens.result) + (c.rules.result + c.tokens-tokens.result) ≤ STATES * (RULES + TOKENS) = wide_fits lent c.loop-s.s low _ tokens-are _ rules-are in
    record { fits = to-fits _ _ edge_row }

pub kernel_of-requires : goal.kernel_of-requires
kernel_of-requires c =
    let lent : let a = c.args in
    ForStates a.firsts.now.grammar.words.now a.caps a.states a.items.now a.spans.now a.edges.now a.closed.now
    a.actions.now a.offered.now a.rr.now a.sr.now c.requires.0 = c.requires.1 in
    let low : c.loop-s.s < c.args.states = c.loop-s-test.true in
    kernel-in lent c.loop-s.s low

pub offset_bounds-edges-from : goal.offset_bounds-edges-from
offset_bounds-edges-from c =
    let lent : let a = c.args in
    ForStates a.firsts.now.grammar.words.now a.caps a.states a.items.now a.spans.now a.edges.now a.closed.now
    a.actions.now a.offered.now a.rr.now a.sr.now c.requires.0 = c.requires.1 in
    let tokens-are : c.tokens-tokens.result ≡ tokens c.args.firsts.now.grammar.words.now = c.tokens-tokens.ensures in
    let rules-are : c.rules.result ≡ rules c.args.firsts.now.grammar.words.now = c.rules.ensures in
    let low : c.loop-s.s < c.args.states = c.loop-s-test.true in
    let edge_row : c.loop-s.s * (c.rules.result + c.tokens-tokens.result) + (c.rules.result + c.tokens-tokens.result) ≤ STATES * (RULES + TOKENS) = wide_fits lent c.loop-s.s low _ tokens-are _ rules-are in
    record { fits = bytes_fit _ _ edge_row }

pub slice_bounds-fill_state-end : goal.slice_bounds-fill_state-end
slice_bounds-fill_state-end c =
    let lent : let a = c.args in
    ForStates a.firsts.now.grammar.words.now a.caps a.states a.items.now a.spans.now a.edges.now a.closed.now
    a.actions.now a.offered.now a.rr.now a.sr.now c.requires.0 = c.requires.1 in
    let tokens-are : c.tokens-tokens.result ≡ tokens c.args.firsts.now.grammar.words.now = c.tokens-tokens.ensures in
    let rules-are : c.rules.result ≡ rules c.args.firsts.now.grammar.words.now = c.rules.ensures in
    let low : c.loop-s.s < c.args.states = c.loop-s-test.true in
    edges-in lent c.loop-s.s low _ tokens-are _ rules-are

pub fill_state-requires : goal.fill_state-requires
fill_state-requires c =
    let lent : let a = c.args in
    ForStates a.firsts.now.grammar.words.now a.caps a.states a.items.now a.spans.now a.edges.now a.closed.now
    a.actions.now a.offered.now a.rr.now a.sr.now c.requires.0 = c.requires.1 in
    let tokens-are : c.tokens-tokens.result ≡ tokens c.args.firsts.now.grammar.words.now = c.tokens-tokens.ensures in
    let p = (goal.at.fill_state-requires c).After-kernel_of in (
      _,
      _,
      for-one lent (c.loop-s.invariant c.requires.0 lent) c.loop-s-test.true _ _ (at-is p) (row-width _ tokens-are) _ _ (from_is p) (row-width _ (wide_is p)) _
          c.kernel_of.ensures _ c.loop-s.auto.closed,
    )

pub loop-s-preserved : goal.loop-s-preserved
loop-s-preserved c =
    let tokens-are : c.tokens-tokens.result ≡ tokens c.args.firsts.now.grammar.words.now = c.tokens-tokens.ensures in
    let low : c.loop-s.s < c.args.states = c.loop-s-test.true in
    let l = c.loop-s in
    let p = (goal.at.loop-s-preserved c).After-kernel_of in
    λ ss S.
    let T = l.invariant ss S in
    done_next S T low _ _ (at-is p) (row-width _ tokens-are) _ _ _ _ _
    (c.in_ok-n.ensures _ _
    (for-one S T low _ _ (at-is p) (row-width _ tokens-are) _ _ (from_is p) (row-width _ (wide_is p)) _ c.kernel_of.ensures _ l.auto.closed))
    _ (add-one l.s)

pub returns-in_err-n : goal.returns-in_err-n
returns-in_err-n c =
    let tokens-are : c.tokens-tokens.result ≡ tokens c.args.firsts.now.grammar.words.now = c.tokens-tokens.ensures in
    let low : c.loop-s.s < c.args.states = c.loop-s-test.true in
    let l = c.loop-s in
    let p = (goal.at.returns-in_err-n c).After-kernel_of in
    let e = err_from_is_err_and c.from_residual.result c.from_residual.ensures.1 in
    rw (e.1, e.2)
    (λ ss S.
    let T = l.invariant ss S in
    filled-stop S T low _ _ _ _ _ _
    (c.in_err-n.ensures _ _
    (for-one S T low _ _ (at-is p) (row-width _ tokens-are) _ _ (from_is p) (row-width _ (wide_is p)) _ c.kernel_of.ensures _ l.auto.closed))
    _ _ _ _)

pub returns : goal.returns
returns c = λ ss S. filled-all (c.loop-s.invariant ss S) S.number c.loop-s-test.false
