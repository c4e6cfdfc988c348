-- `call::graph` meets its contract. Assumes nothing.
use Rattle.std.proofs.Common.{sym, ap, ◌∙◌, subst, List, ℕ}
use Rattle.std.proofs.lemmas.Result.{err_from_is_err_and}
use Rattle.block.specs.First.{firsts_of}
use Rattle.pager.specs.Graph.{graph_of}
use Rattle.pager.specs.Call.{lent, named, counted, written, is_short}
use Rattle.pager.specs.CallSteps.{Roomy}
use Rattle.pager.proofs.CallLaws.{roomy, number-some, call-bad, call-short, call-graph}
use Rattle.pager.proofs.call.graph.Goals as goal

pub returns-in_err-grammar : goal.returns-in_err-grammar
returns-in_err-grammar c =
    let a = c.args in
    let r = c.from_residual in
    let p = err_from_is_err_and r.result r.ensures.1 in
    let e = c.in_err-grammar in
    let w = call-bad a.words.now (named a.states a.most) (lent a.items.now a.spans.now a.edges.now a.marks.now a.closed.now a.kernel.now) _ e.ensures.refusal (number-some e.field-0.0) in
    record { answer = rw (p.1, p.2) (ap counted w.0); buffers = w.1 }

pub returns-then-room_short : goal.returns-then-room_short
returns-then-room_short c =
    let a = c.args in
    let g = c.in_ok-grammar.ensures in
    let l = lent a.items.now a.spans.now a.edges.now a.marks.now a.closed.now a.kernel.now in
    let w = call-short a.words.now (named a.states a.most) l (sym g.refusal)
    (sym (ap (λ (b : List ℕ). is_short b (named a.states a.most) l) g.words) ∙ sym c.room_short.ensures ∙ c.if-room_short.true) in
    record { answer = ap counted w.0; buffers = w.1 }

pub build-requires : goal.build-requires
build-requires c =
    let a = c.args in
    let g = c.in_ok-grammar.ensures in
    let l = lent a.items.now a.spans.now a.edges.now a.marks.now a.closed.now a.kernel.now in
    subst (λ (b : List ℕ). Roomy b (record { states = a.states; items = a.most }) l) (sym (c.new-firsts.ensures ∙ g.words))
    (roomy a.words.now (record { states = a.states; items = a.most }) l (sym g.refusal)
    (sym (ap (λ (b : List ℕ). is_short b (named a.states a.most) l) g.words) ∙ sym c.room_short.ensures ∙ c.if-room_short.false))

pub returns : goal.returns
returns c =
    let a = c.args in
    let g = c.in_ok-grammar.ensures in
    let m = named a.states a.most in
    let l = lent a.items.now a.spans.now a.edges.now a.marks.now a.closed.now a.kernel.now in
    let w = call-graph a.words.now m l (sym g.refusal)
    (sym (ap (λ (b : List ℕ). is_short b m l) g.words) ∙ sym c.room_short.ensures ∙ c.if-room_short.false) in
    let e = c.new-firsts.ensures ∙ g.words in
    record {
      answer = c.build.ensures.answer ∙ ap (λ (b : List ℕ). counted (graph_of b (firsts_of b) m)) e ∙ ap counted w.0;
      buffers = c.build.ensures.buffers ∙ ap (λ (b : List ℕ). written (graph_of b (firsts_of b) m) b m l) e ∙ w.1;
    }
