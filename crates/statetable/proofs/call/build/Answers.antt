-- `call::build` meets its contract. Assumes nothing.
use Rattle.std.proofs.Common.{true, false, ◌≡◌, sym, ap, ◌∙◌}
use Rattle.std.proofs.lemmas.Result.{err_from_is_err_and}
use Rattle.block.specs.Refusal.{refusal_of}
use Rattle.pager.specs.Call.{lent, is_short}
use Rattle.statetable.specs.Build.{lent_all, limits_of, counted}
use Rattle.statetable.proofs.BuildLaws.{tables-short, some-number, call-bad, call-short, states-few, call-tables-short, call-roomy, call-made}
use Rattle.statetable.proofs.call.build.Goals as goal

pub returns-in_err-grammar : goal.returns-in_err-grammar
returns-in_err-grammar c =
    let e = err_from_is_err_and c.from_residual.result c.from_residual.ensures.1 in
    let w = call-bad c.args.words.now c.args.named (lent_all (lent c.args.items.now c.args.spans.now c.args.edges.now c.args.marks.now c.args.closed.now c.args.kernel.now) c.args.actions.now c.args.gotos.now c.args.offered.now c.args.shifts.now c.args.cores.now c.args.only.now c.args.rr.now c.args.sr.now) _ c.in_err-grammar.ensures.refusal (some-number c.in_err-grammar.field-0.0) in
    rw (e.1, e.2) (record { answer = ap counted w.0; buffers = w.1 })

pub returns-then-room_short : goal.returns-then-room_short
returns-then-room_short c =
    let W : c.in_ok-grammar.grammar.words.now ≡ c.args.words.now = c.in_ok-grammar.ensures.words in
    let good : refusal_of c.args.words.now ≡ 0 = sym c.in_ok-grammar.ensures.refusal in
    let short : is_short c.args.words.now (limits_of c.args.named) (lent_all (lent c.args.items.now c.args.spans.now c.args.edges.now c.args.marks.now c.args.closed.now c.args.kernel.now) c.args.actions.now c.args.gotos.now c.args.offered.now c.args.shifts.now c.args.cores.now c.args.only.now c.args.rr.now c.args.sr.now).graph ≡ true = sym (rw W at c.room_short.ensures) ∙ c.if-room_short.true in
    let w = call-short c.args.words.now c.args.named (lent_all (lent c.args.items.now c.args.spans.now c.args.edges.now c.args.marks.now c.args.closed.now c.args.kernel.now) c.args.actions.now c.args.gotos.now c.args.offered.now c.args.shifts.now c.args.cores.now c.args.only.now c.args.rr.now c.args.sr.now) good short in
    record { answer = ap counted w.0; buffers = w.1 }

pub tables_short-requires : goal.tables_short-requires
tables_short-requires c =
    let W : c.in_ok-grammar.grammar.words.now ≡ c.args.words.now = c.in_ok-grammar.ensures.words in
    let good : refusal_of c.args.words.now ≡ 0 = sym c.in_ok-grammar.ensures.refusal in
    let long : is_short c.args.words.now (limits_of c.args.named) (lent_all (lent c.args.items.now c.args.spans.now c.args.edges.now c.args.marks.now c.args.closed.now c.args.kernel.now) c.args.actions.now c.args.gotos.now c.args.offered.now c.args.shifts.now c.args.cores.now c.args.only.now c.args.rr.now c.args.sr.now).graph ≡ false = sym (rw W at c.room_short.ensures) ∙ c.if-room_short.false in
    states-few c.args.words.now c.args.named (lent_all (lent c.args.items.now c.args.spans.now c.args.edges.now c.args.marks.now c.args.closed.now c.args.kernel.now) c.args.actions.now c.args.gotos.now c.args.offered.now c.args.shifts.now c.args.cores.now c.args.only.now c.args.rr.now c.args.sr.now) good long

pub returns-then-tables_short : goal.returns-then-tables_short
returns-then-tables_short c =
    let W : c.in_ok-grammar.grammar.words.now ≡ c.args.words.now = c.in_ok-grammar.ensures.words in
    let good : refusal_of c.args.words.now ≡ 0 = sym c.in_ok-grammar.ensures.refusal in
    let long : is_short c.args.words.now (limits_of c.args.named) (lent_all (lent c.args.items.now c.args.spans.now c.args.edges.now c.args.marks.now c.args.closed.now c.args.kernel.now) c.args.actions.now c.args.gotos.now c.args.offered.now c.args.shifts.now c.args.cores.now c.args.only.now c.args.rr.now c.args.sr.now).graph ≡ false = sym (rw W at c.room_short.ensures) ∙ c.if-room_short.false in
    let short-tables : tables-short c.args.words.now c.args.named (lent_all (lent c.args.items.now c.args.spans.now c.args.edges.now c.args.marks.now c.args.closed.now c.args.kernel.now) c.args.actions.now c.args.gotos.now c.args.offered.now c.args.shifts.now c.args.cores.now c.args.only.now c.args.rr.now c.args.sr.now) ≡ true = sym (rw W at c.tables_short.ensures) ∙ c.if-tables_short.true in
    let w = call-tables-short c.args.words.now c.args.named (lent_all (lent c.args.items.now c.args.spans.now c.args.edges.now c.args.marks.now c.args.closed.now c.args.kernel.now) c.args.actions.now c.args.gotos.now c.args.offered.now c.args.shifts.now c.args.cores.now c.args.only.now c.args.rr.now c.args.sr.now) good long short-tables in
    record { answer = ap counted w.0; buffers = w.1 }

pub make-requires : goal.make-requires
make-requires c =
    let W : c.in_ok-grammar.grammar.words.now ≡ c.args.words.now = c.in_ok-grammar.ensures.words in
    let good : refusal_of c.args.words.now ≡ 0 = sym c.in_ok-grammar.ensures.refusal in
    let long : is_short c.args.words.now (limits_of c.args.named) (lent_all (lent c.args.items.now c.args.spans.now c.args.edges.now c.args.marks.now c.args.closed.now c.args.kernel.now) c.args.actions.now c.args.gotos.now c.args.offered.now c.args.shifts.now c.args.cores.now c.args.only.now c.args.rr.now c.args.sr.now).graph ≡ false = sym (rw W at c.room_short.ensures) ∙ c.if-room_short.false in
    let long-tables : tables-short c.args.words.now c.args.named (lent_all (lent c.args.items.now c.args.spans.now c.args.edges.now c.args.marks.now c.args.closed.now c.args.kernel.now) c.args.actions.now c.args.gotos.now c.args.offered.now c.args.shifts.now c.args.cores.now c.args.only.now c.args.rr.now c.args.sr.now) ≡ false = sym (rw W at c.tables_short.ensures) ∙ c.if-tables_short.false in
    rw W (call-roomy c.args.words.now c.args.named (lent_all (lent c.args.items.now c.args.spans.now c.args.edges.now c.args.marks.now c.args.closed.now c.args.kernel.now) c.args.actions.now c.args.gotos.now c.args.offered.now c.args.shifts.now c.args.cores.now c.args.only.now c.args.rr.now c.args.sr.now) good long long-tables)

pub returns : goal.returns
returns c =
    let W : c.in_ok-grammar.grammar.words.now ≡ c.args.words.now = c.in_ok-grammar.ensures.words in
    let good : refusal_of c.args.words.now ≡ 0 = sym c.in_ok-grammar.ensures.refusal in
    let long : is_short c.args.words.now (limits_of c.args.named) (lent_all (lent c.args.items.now c.args.spans.now c.args.edges.now c.args.marks.now c.args.closed.now c.args.kernel.now) c.args.actions.now c.args.gotos.now c.args.offered.now c.args.shifts.now c.args.cores.now c.args.only.now c.args.rr.now c.args.sr.now).graph ≡ false = sym (rw W at c.room_short.ensures) ∙ c.if-room_short.false in
    let long-tables : tables-short c.args.words.now c.args.named (lent_all (lent c.args.items.now c.args.spans.now c.args.edges.now c.args.marks.now c.args.closed.now c.args.kernel.now) c.args.actions.now c.args.gotos.now c.args.offered.now c.args.shifts.now c.args.cores.now c.args.only.now c.args.rr.now c.args.sr.now) ≡ false = sym (rw W at c.tables_short.ensures) ∙ c.if-tables_short.false in
    let w = call-made c.args.words.now c.args.named (lent_all (lent c.args.items.now c.args.spans.now c.args.edges.now c.args.marks.now c.args.closed.now c.args.kernel.now) c.args.actions.now c.args.gotos.now c.args.offered.now c.args.shifts.now c.args.cores.now c.args.only.now c.args.rr.now c.args.sr.now) (call-roomy c.args.words.now c.args.named (lent_all (lent c.args.items.now c.args.spans.now c.args.edges.now c.args.marks.now c.args.closed.now c.args.kernel.now) c.args.actions.now c.args.gotos.now c.args.offered.now c.args.shifts.now c.args.cores.now c.args.only.now c.args.rr.now c.args.sr.now) good long long-tables) in
    let g = rw W at c.make.ensures in
    record { answer = g.answer ∙ ap counted w.0; buffers = g.buffers ∙ w.1 }
