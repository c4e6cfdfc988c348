-- `find_body` meets its contract. Assumes nothing.
use Rattle.std.proofs.Common.{◌≡◌, sym, ap, ◌∙◌, arith, rules}
use Rattle.block.specs.Block.{prods}
use Rattle.block.specs.Refused.{number_of}
use Rattle.block.specs.Refusal.{body_refusal}
use Rattle.block.proofs.Ways.{number-some, refusal-given, refusal-none, refusal-past}
use Rattle.block.proofs.queries.find_body.Goals as goal

pub returns-in_err-grammar-clause-refusal : goal.returns-in_err-grammar-clause-refusal
returns-in_err-grammar-clause-refusal c =
    let b = c.args.words.now in
    let e = c.in_err-grammar.field-0.0 in
    let n : number_of e ≡ body_refusal b c.args.p = refusal-given b c.args.p (number_of e) c.in_err-grammar.ensures.refusal (number-some e) in
    search rules

pub returns-then-productions-p-clause-refusal : goal.returns-then-productions-p-clause-refusal
returns-then-productions-p-clause-refusal c =
    let n : c.productions.result ≡ prods c.args.words.now = c.productions.ensures ∙ ap prods c.in_ok-grammar.ensures.words in
    refusal-past c.args.words.now c.args.p (sym c.in_ok-grammar.ensures.refusal) (omega arith)

pub returns-clause-refusal : goal.returns-clause-refusal
returns-clause-refusal c =
    let n : c.productions.result ≡ prods c.args.words.now = c.productions.ensures ∙ ap prods c.in_ok-grammar.ensures.words in
    refusal-none c.args.words.now c.args.p (sym c.in_ok-grammar.ensures.refusal) (omega arith)
