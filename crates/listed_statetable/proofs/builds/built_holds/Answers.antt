-- `built_holds` lends the fronts of its rooms. Assumes nothing.
use mathlib.Core.Bool.{true}
use mathlib.Core.Logic.{◌↔◌}
use mathlib.Core.Path.{◌≡◌, subst}
use Rattle.listed_statetable.specs.Builds.{BuildSeen}
use Rattle.listed_statetable.proofs.Lending.{fronts-are}
use Rattle.listed_statetable.proofs.builds.built_holds.Goals as goal

pub returns : goal.returns
returns c =
    let a = c.args in
    subst (λ l. (c.call_holds.result ≡ true) ↔ BuildSeen a.block.now a.named a.fill l a.expected.now)
    (fronts-are c.requires a.fill a.lengths.now
    (c.room_at.ensures.length, c.room_at.ensures.most)
    (c.room_at-2.ensures.length, c.room_at-2.ensures.most)
    (c.room_at-3.ensures.length, c.room_at-3.ensures.most)
    (c.room_at-4.ensures.length, c.room_at-4.ensures.most)
    (c.room_at-5.ensures.length, c.room_at-5.ensures.most)
    (c.room_at-6.ensures.length, c.room_at-6.ensures.most)
    (c.room_at-7.ensures.length, c.room_at-7.ensures.most)
    (c.room_at-8.ensures.length, c.room_at-8.ensures.most)
    (c.room_at-9.ensures.length, c.room_at-9.ensures.most)
    (c.room_at-10.ensures.length, c.room_at-10.ensures.most)
    (c.room_at-11.ensures.length, c.room_at-11.ensures.most)
    (c.lent.ensures.lent, c.lent.ensures.most)
    (c.lent-2.ensures.lent, c.lent-2.ensures.most)
    (c.lent-3.ensures.lent, c.lent-3.ensures.most))
    c.call_holds.ensures
