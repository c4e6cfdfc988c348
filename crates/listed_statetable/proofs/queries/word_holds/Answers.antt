-- `word_holds` asks for the word, and for a cell also for the action. Assumes nothing.
use mathlib.Core.Bool.{true}
use mathlib.Core.List.{[], ◌∷◌}
use mathlib.Core.Logic.{◌↔◌}
use mathlib.Core.Path.{◌≡◌, subst}
use native.Mathlib.Omega.{arith}
use lib.ListN.{length, get_or}
use Rattle.words.proofs.Answers.{refuted}
use Rattle.listed_statetable.specs.Queries.{found_words}
use Rattle.listed_block.specs.Rooms.{BLOCK}
use Rattle.words.proofs.GivenLaws.{case-by, case-not}
use Rattle.listed_statetable.proofs.WordCases.{case-four, case-none, case-told, answer-by}
use Rattle.listed_statetable.proofs.queries.word_holds.Goals as goal
use Rattle.listed_statetable.proofs.queries.word_holds.Goals.{then-kind-eq5+else-i-ne0, else-kind-eq5}

pub returns-then-last-ne4 : goal.returns-then-last-ne4
returns-then-last-ne4 c =
    let a = c.args in
    let g = c.in-Some in
    case-not BLOCK a.rest.now g.table.now g.last.now g.ensures
    (λ h. c.if-last-ne4.true (case-four a.kind a.block.now a.states _ g.last.now h))

pub returns-then-i-ne0 : goal.returns-then-i-ne0
returns-then-i-ne0 c =
    let a = c.args in
    let g = c.in-Some in
    let i = c.index-i in
    case-not BLOCK a.rest.now g.table.now g.last.now g.ensures
    (λ h. c.if-i-ne0.true (case-none a.kind a.block.now a.states _ g.last.now i.result i.ensures c.if-kind-eq5.true h))

pub returns-then-not-acts_is : goal.returns-then-not-acts_is
returns-then-not-acts_is c =
    let a = c.args in
    let g = c.in-Some in
    let s = c.index-s in
    let i = c.index-i in
    let k = c.if-kind-eq0.true in
    let x = c.action in
    case-not BLOCK a.rest.now g.table.now g.last.now g.ensures
    (λ h. refuted _ c.acts_is.ensures c.if-not-acts_is.true (case-told a.kind a.block.now a.states _ g.last.now
    s.result i.result s.ensures i.ensures c.if-last-ne4.false x.result k x.ensures h))

pub returns : goal.returns
returns c =
    let a = c.args in
    let g = c.in-Some in
    let s = c.index-s in
    let i = c.index-i in
    let l : length g.last.now ≡ 4 = c.if-last-ne4.false in
    let none : a.kind ≡ 5 → i.result ≡ 0 = elim c.if-kind-eq5.branch [ then-kind-eq5+else-i-ne0 w ↦ λ e. w.if-i-ne0.false | else-kind-eq5 w ↦ λ e. absurd (w.if-kind-eq5.false e) ] in
    case-by BLOCK a.rest.now g.table.now g.last.now g.ensures
    (answer-by a.kind a.block.now a.states _ g.last.now s.result i.result s.ensures i.ensures l
    none
    (subst (λ f. (c.found_is.result ≡ true) ↔ (get_or g.last.now 2 0 ∷ get_or g.last.now 3 0 ∷ [] ≡ found_words f)) c.found_of.ensures c.found_is.ensures))
