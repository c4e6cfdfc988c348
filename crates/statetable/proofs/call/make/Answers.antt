-- `call::make` meets its contract. Assumes nothing.
use Rattle.std.proofs.Common.{◌≡◌, sym, ap, ap₂, ◌∙◌}
use Rattle.std.proofs.lemmas.Result.{err_from_is_err_and}
use Rattle.statetable.specs.Build.{answer_of}
use Rattle.statetable.proofs.FromGraph.{states-made, states_in, for-tabulate, ended_by, answer-made, buffers-made}
use Rattle.statetable.proofs.call.make.Goals as goal
use Rattle.statetable.proofs.call.make.Goals.{in-Ok, in-Err}

pub tabulate-told-requires : goal.tabulate-told-requires
tabulate-told-requires c =
    let R = c.requires in
    let g = c.graph-graphed in
    let states-are : c.match-graphed.states ≡ states_in g.result =
    elim c.match-graphed.branch [ in-Ok w ↦ w.states-is ∙ ap states_in (sym w.in-Ok.is) | in-Err w ↦ w.states-is ∙ ap states_in (sym w.in-Err.is) ] in
    (states-made R, for-tabulate R g.result g.new.items g.new.spans g.new.edges g.new.marks g.new.closed g.new.kernel g.ensures.answer g.ensures.buffers c.match-graphed.states states-are)

pub returns-in_err-kept : goal.returns-in_err-kept
returns-in_err-kept c =
    let R = c.requires in
    let g = c.graph-graphed in
    let t = c.tabulate-told in
    let states-are : c.match-graphed.states ≡ states_in g.result =
    elim c.match-graphed.branch [ in-Ok w ↦ w.states-is ∙ ap states_in (sym w.in-Ok.is) | in-Err w ↦ w.states-is ∙ ap states_in (sym w.in-Err.is) ] in
    let same : c.match-graphed.graphed ≡ g.result = elim c.match-graphed.branch [ in-Ok w ↦ w.graphed-is ∙ sym w.in-Ok.is | in-Err w ↦ w.graphed-is ] in
    let T = t.ensures.tables (states-made R) (for-tabulate R g.result g.new.items g.new.spans g.new.edges g.new.marks g.new.closed g.new.kernel g.ensures.answer g.ensures.buffers c.match-graphed.states states-are) in
    let buffers = buffers-made R g.result g.new.items g.new.spans g.new.edges g.new.marks g.new.closed g.new.kernel g.ensures.answer g.ensures.buffers t.result t.new.items t.new.spans t.new.edges t.new.closed t.new.actions t.new.gotos t.new.offered t.new.shifts t.new.cores t.new.only t.new.rr t.new.sr T t.ensures.closed in
    let answer = answer-made R g.result g.new.items g.new.spans g.new.edges g.new.marks g.new.closed g.new.kernel g.ensures.answer g.ensures.buffers t.result T.tally in
    let e = err_from_is_err_and c.from_residual.result c.from_residual.ensures.1 in
    rw (e.1, e.2) (record { answer = ap (λ x. answer_of (ended_by x t.result)) (sym c.in_err-kept.was ∙ same) ∙ answer; buffers = buffers })

pub returns-in_err-tally : goal.returns-in_err-tally
returns-in_err-tally c =
    let R = c.requires in
    let g = c.graph-graphed in
    let t = c.tabulate-told in
    let states-are : c.match-graphed.states ≡ states_in g.result =
    elim c.match-graphed.branch [ in-Ok w ↦ w.states-is ∙ ap states_in (sym w.in-Ok.is) | in-Err w ↦ w.states-is ∙ ap states_in (sym w.in-Err.is) ] in
    let same : c.match-graphed.graphed ≡ g.result = elim c.match-graphed.branch [ in-Ok w ↦ w.graphed-is ∙ sym w.in-Ok.is | in-Err w ↦ w.graphed-is ] in
    let T = t.ensures.tables (states-made R) (for-tabulate R g.result g.new.items g.new.spans g.new.edges g.new.marks g.new.closed g.new.kernel g.ensures.answer g.ensures.buffers c.match-graphed.states states-are) in
    let buffers = buffers-made R g.result g.new.items g.new.spans g.new.edges g.new.marks g.new.closed g.new.kernel g.ensures.answer g.ensures.buffers t.result t.new.items t.new.spans t.new.edges t.new.closed t.new.actions t.new.gotos t.new.offered t.new.shifts t.new.cores t.new.only t.new.rr t.new.sr T t.ensures.closed in
    let answer = answer-made R g.result g.new.items g.new.spans g.new.edges g.new.marks g.new.closed g.new.kernel g.ensures.answer g.ensures.buffers t.result T.tally in
    let e = err_from_is_err_and c.from_residual-in_err-tally.result c.from_residual-in_err-tally.ensures.1 in
    rw (e.1, e.2) (record { answer = ap₂ (λ x y. answer_of (ended_by x y)) (sym c.in_ok-kept.was ∙ same) (sym c.in_err-tally.was) ∙ answer; buffers = buffers })

pub returns : goal.returns
returns c =
    let R = c.requires in
    let g = c.graph-graphed in
    let t = c.tabulate-told in
    let states-are : c.match-graphed.states ≡ states_in g.result =
    elim c.match-graphed.branch [ in-Ok w ↦ w.states-is ∙ ap states_in (sym w.in-Ok.is) | in-Err w ↦ w.states-is ∙ ap states_in (sym w.in-Err.is) ] in
    let same : c.match-graphed.graphed ≡ g.result = elim c.match-graphed.branch [ in-Ok w ↦ w.graphed-is ∙ sym w.in-Ok.is | in-Err w ↦ w.graphed-is ] in
    let T = t.ensures.tables (states-made R) (for-tabulate R g.result g.new.items g.new.spans g.new.edges g.new.marks g.new.closed g.new.kernel g.ensures.answer g.ensures.buffers c.match-graphed.states states-are) in
    let buffers = buffers-made R g.result g.new.items g.new.spans g.new.edges g.new.marks g.new.closed g.new.kernel g.ensures.answer g.ensures.buffers t.result t.new.items t.new.spans t.new.edges t.new.closed t.new.actions t.new.gotos t.new.offered t.new.shifts t.new.cores t.new.only t.new.rr t.new.sr T t.ensures.closed in
    let answer = answer-made R g.result g.new.items g.new.spans g.new.edges g.new.marks g.new.closed g.new.kernel g.ensures.answer g.ensures.buffers t.result T.tally in
    record { answer = ap₂ (λ x y. answer_of (ended_by x y)) (sym c.in_ok-kept.was ∙ same) (sym c.in_ok-tally.was) ∙ answer; buffers = buffers }
