-- `moves::step` meets its contract. Assumes nothing.
use Rattle.std.proofs.Common.{sym, ap, ◌∙◌, refl, zero}
use Rattle.std.proofs.Math.Numerals.{add-one}
use Rattle.block.specs.Grammar.{grammar_of}
use Rattle.knuth.specs.Tables.{Action}
use Rattle.statetable.specs.Named.{action_of}
use Rattle.statetable.specs.Read.{tables_in}
use Rattle.machine.proofs.Stepping.{top-known, token-below, acts, as-next, accepts, accept-early, rejects}
use Rattle.machine.proofs.Standing.{run_is}
use Rattle.machine.specs.Moves.{lent}
use Rattle.machine.proofs.moves.step.Goals as goal

pub action-requires : goal.action-requires
action-requires c =
    let R = c.requires.2 in
    let t = c.lookahead-token in
    record { state = top-known R; token = token-below R t.result t.ensures }

pub returns-in-Shift : goal.returns-in-Shift
returns-in-Shift c =
    let s = c.args in
    let x = s.tables in
    let t = c.lookahead-token in
    let G = grammar_of x.grammar.words.now in
    let T = tables_in x.grammar.words.now x.states x.actions.now x.gotos.now in
    let e = sym c.action.ensures ∙ ap action_of c.in-Shift.is in
    λ old d R.
    as-next (lent zero s.stack.now s.output.now) _ _ (acts R t.result t.ensures (Action.shift c.in-Shift.to) e)
    (c.shift_step.ensures x.grammar.words.now x.actions.now x.gotos.now s.output.now old d G T refl R)

pub returns-in-Reduce : goal.returns-in-Reduce
returns-in-Reduce c =
    let s = c.args in
    let t = c.lookahead-token in
    let e = sym c.action.ensures ∙ ap action_of c.in-Reduce.is in
    λ old d R.
    as-next (lent zero s.stack.now s.output.now) _ _ (acts R t.result t.ensures (Action.reduce c.in-Reduce.p) e)
    (c.reduce_step.ensures s.input.now old d R)

pub returns-then-run-input : goal.returns-then-run-input
returns-then-run-input c =
    let s = c.args in
    let x = s.tables in
    let t = c.lookahead-token in
    let G = grammar_of x.grammar.words.now in
    let T = tables_in x.grammar.words.now x.states x.actions.now x.gotos.now in
    let e = sym c.action.ensures ∙ ap action_of c.in-Accept.is in
    λ old d R. as-next (lent zero s.stack.now s.output.now) _ _ (acts R t.result t.ensures Action.accept e) (accept-early G T d R c.if-run-input.true)

pub returns-else-run-input : goal.returns-else-run-input
returns-else-run-input c =
    let s = c.args in
    let x = s.tables in
    let t = c.lookahead-token in
    let G = grammar_of x.grammar.words.now in
    let T = tables_in x.grammar.words.now x.states x.actions.now x.gotos.now in
    let e = sym c.action.ensures ∙ ap action_of c.in-Accept.is in
    λ old d R.
    as-next (lent zero s.stack.now s.output.now) _ _ (acts R t.result t.ensures Action.accept e)
    (accepts G T d R c.if-run-input.false _ (run_is refl refl (add-one s.run.steps) refl))

pub returns-in-Error : goal.returns-in-Error
returns-in-Error c =
    let s = c.args in
    let x = s.tables in
    let t = c.lookahead-token in
    let G = grammar_of x.grammar.words.now in
    let T = tables_in x.grammar.words.now x.states x.actions.now x.gotos.now in
    let e = sym c.action.ensures ∙ ap action_of c.in-Error.is in
    λ old d R.
    as-next (lent zero s.stack.now s.output.now) _ _ (acts R t.result t.ensures Action.error e) (rejects G T d R _ (run_is refl refl (add-one s.run.steps) refl))
