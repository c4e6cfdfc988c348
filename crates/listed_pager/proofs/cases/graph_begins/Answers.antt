-- `graph_begins` compares part after part. Assumes nothing.
use mathlib.Core.Bool.{true}
use mathlib.Core.List.{◌++◌}
use mathlib.Core.Logic.{◌↔◌}
use mathlib.Core.Path.{◌≡◌, subst, ap, ◌∙◌}
use Rattle.words.specs.Given.{as_part}
use Rattle.words.specs.Parts.{behind_of}
use Rattle.words.proofs.Answers.{says-no, refuted, granted}
use Rattle.listed_pager.proofs.ThreeParts.{first, second, third, three}
use Rattle.listed_pager.proofs.cases.graph_begins.Goals as goal

pub returns-then-not-begins : goal.returns-then-not-begins
returns-then-not-begins c =
    let a = c.args in
    says-no (λ e. refuted _ c.begins.ensures c.if-not-begins.true (first a.expected.now a.items.now a.spans.now a.edges.now _ e))

pub returns-then-not-begins-2 : goal.returns-then-not-begins-2
returns-then-not-begins-2 c =
    let spans-begin : let a = c.args in
    (c.begins-2.result ≡ true) ↔ (behind_of a.expected.now ≡ as_part a.spans.now ++ behind_of (behind_of a.expected.now)) = let a = c.args in
    subst (λ x. (c.begins-2.result ≡ true) ↔ (x ≡ as_part a.spans.now ++ behind_of x)) c.behind-next.ensures c.begins-2.ensures in
    let a = c.args in
    says-no (λ e. refuted _ (spans-begin) c.if-not-begins-2.true (second a.expected.now a.items.now a.spans.now a.edges.now _ e))

pub returns : goal.returns
returns c =
    let spans-begin : let a = c.args in
    (c.begins-2.result ≡ true) ↔ (behind_of a.expected.now ≡ as_part a.spans.now ++ behind_of (behind_of a.expected.now)) = let a = c.args in
    subst (λ x. (c.begins-2.result ≡ true) ↔ (x ≡ as_part a.spans.now ++ behind_of x)) c.behind-next.ensures c.begins-2.ensures in
    let a = c.args in
    let next = c.behind.ensures ∙ ap behind_of c.behind-next.ensures in
    let i = subst (λ x. (c.begins-3.result ≡ true) ↔ (x ≡ as_part a.edges.now ++ behind_of x)) next c.begins-3.ensures in (
      λ t. three a.expected.now a.items.now a.spans.now a.edges.now
          (granted _ c.begins.ensures c.if-not-begins.false)
          (granted _ (spans-begin) c.if-not-begins-2.false)
          (i.0 t),
      λ e. i.1 (third a.expected.now a.items.now a.spans.now a.edges.now _ e),
    )
