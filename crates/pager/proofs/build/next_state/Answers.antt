use Rattle.std.proofs.Common.{add-one, ap, ◌∙◌, ℕ, drop}
use Rattle.pager.specs.Lists.{find}
use Rattle.pager.specs.Held.{as_option}
use Rattle.pager.proofs.ByIndex.{none-left}
use Rattle.pager.proofs.Marked.{unclosed, next-later, next-first}
use Rattle.pager.proofs.build.next_state.Goals as goal

pub returns-in-Some : goal.returns-in-Some
returns-in-Some c =
    λ N ss z M e.
    let a = c.args in
    let h = c.in-Some in
    next-later a.last ss h.s (h.ensures N ss z M e ∙ ap (λ (k : ℕ). as_option (find unclosed k (drop k ss))) (add-one a.last))

pub returns : goal.returns
returns c =
    λ N ss z M e.
    let a = c.args in
    let f = c.marked_from in
    let q = c.marked_from-2 in
    next-first a.last ss
    (none-left f.result (f.ensures N ss z M e ∙ ap (λ (k : ℕ). as_option (find unclosed k (drop k ss))) (add-one a.last)) c.in_default.not-Some)
    q.result (q.ensures N ss z M e)
