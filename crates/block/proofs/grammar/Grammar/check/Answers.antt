-- `Grammar::check` meets its contract. Assumes nothing.
use Rattle.std.proofs.Common.{sym, ◌∙◌, rules}
use Rattle.block.proofs.Good.{placed, inside, clear-rule}
use Rattle.block.proofs.Exact.{good-clear}
use Rattle.block.proofs.Stages.{checked-refused, checked-good}
use Rattle.block.proofs.grammar.Grammar.check.Goals as goal

pub returns-in_err-check_words-clause-refusal : goal.returns-in_err-check_words-clause-refusal
returns-in_err-check_words-clause-refusal c =
    let e = checked-refused c.args.words.now _ (sym c.check_words.ensures ∙ c.in_err-check_words.was) in search rules

pub invariant_of-result : goal.invariant_of-result
invariant_of-result c =
    let g = checked-good (sym c.check_words.ensures ∙ c.in_ok-check_words.was) in
    record { good = g; placed = placed g; inside = record { body = inside g }; rules_below = record { rule = clear-rule (good-clear g).productions } }
