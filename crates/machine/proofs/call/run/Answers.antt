-- `call::run` meets its contract. Assumes nothing.
use Rattle.std.proofs.Common.{sym, ◌∙◌, length}
use Rattle.machine.specs.Call.{called, bad_token}
use Rattle.machine.proofs.Tokens.{found_at, found_none}
use Rattle.machine.proofs.CallWays.{told-bad, call-refused, call-short, call_token, ran, call-ran, begun, moved, fitting}
use Rattle.machine.proofs.call.run.Goals as goal

pub returns-in_err-grammar : goal.returns-in_err-grammar
returns-in_err-grammar c =
    let s = c.args in
    let a = called s.block.now s.states s.actions.now s.gotos.now s.input.now s.limit s.stack.now s.output.now in
    let r = c.in_err-grammar.field-0.0 in
    let both = call-refused a r c.in_err-grammar.ensures.refusal in
    record { answer = told-bad c.from_residual.result r c.from_residual.ensures.1 ∙ both.0; stack = both.1.0; output = both.1.1 }

pub returns-then-room_short : goal.returns-then-room_short
returns-then-room_short c =
    let s = c.args in
    let g = c.in_ok-grammar.grammar in
    let a = called g.words.now s.states s.actions.now s.gotos.now s.input.now s.limit s.stack.now s.output.now in
    let both = moved a s.block.now c.in_ok-grammar.ensures.words _ _ _
    (call-short a g.good.unrefused (sym c.room_short.ensures ∙ c.if-room_short.true)) in
    record { answer = both.0; stack = both.1.0; output = both.1.1 }

pub returns-in-Some : goal.returns-in-Some
returns-in-Some c =
    let s = c.args in
    let g = c.in_ok-grammar.grammar in
    let a = called g.words.now s.states s.actions.now s.gotos.now s.input.now s.limit s.stack.now s.output.now in
    let both = moved a s.block.now c.in_ok-grammar.ensures.words _ _ _
    (call_token a g.good.unrefused (sym c.room_short.ensures ∙ c.if-room_short.false) c.in-Some.place (found_at (bad_token g.words.now) s.input.now c.in-Some.place c.in-Some.ensures)) in
    record { answer = both.0; stack = both.1.0; output = both.1.1 }

pub invariant_of-tables : goal.invariant_of-tables
invariant_of-tables c =
    let s = c.args in
    let g = c.in_ok-grammar.grammar in
    let f = fitting g.words.now s.states (length s.actions.now) (length s.gotos.now) (length s.input.now) s.limit (length s.stack.now) (sym c.room_short.ensures ∙ c.if-room_short.false) in
    record { states_most = f.states-most; actions_long = f.actions-long; gotos_long = f.gotos-long }

pub run_from-requires : goal.run_from-requires
run_from-requires c =
    let s = c.args in
    let g = c.in_ok-grammar.grammar in
    let clean = found_none (bad_token g.words.now) s.input.now (sym c.in_default.is ∙ c.bad_token.ensures) in
    begun g.words.now s.states s.actions.now s.gotos.now s.input.now s.limit s.stack.now s.output.now _ c.fill.auto.self
    g.good.unrefused (sym c.room_short.ensures ∙ c.if-room_short.false) clean (c.fill.ensures.after (λ y e. e))

pub returns : goal.returns
returns c =
    let s = c.args in
    let g = c.in_ok-grammar.grammar in
    let a = called g.words.now s.states s.actions.now s.gotos.now s.input.now s.limit s.stack.now s.output.now in
    let clean = found_none (bad_token g.words.now) s.input.now (sym c.in_default.is ∙ c.bad_token.ensures) in
    let both = moved a s.block.now c.in_ok-grammar.ensures.words _ _ _
    (call-ran g.words.now s.states s.actions.now s.gotos.now s.input.now s.limit s.stack.now s.output.now _ c.fill.auto.self _ _ _
    (c.run_from.ensures.answer, (c.run_from.ensures.stack, c.run_from.ensures.output)) (ran a g.good.unrefused (sym c.room_short.ensures ∙ c.if-room_short.false) clean)) in
    record { answer = both.0; stack = both.1.0; output = both.1.1 }
