-- `cleared` looks at the two parts of the room. Assumes nothing.
use Rattle.std.proofs.Common.{◌∙◌}
use Rattle.words.proofs.Answers.{says-no, refuted}
use Rattle.listed_pager.proofs.Cleared.{cleared-is}
use Rattle.listed_pager.proofs.work.cleared.Goals as goal

pub returns-then-not-full : goal.returns-then-not-full
returns-then-not-full g c =
    let a = c.args in
    let w = g.met.T.Word.each in
    let s = c.split_at in
    let r = s.result in
    let is = cleared-is g.T.Word.number a.room.now r.0.now r.1.now s.ensures.by_index.0 _ _ _ (w a.room.now) (w r.0.now) (w r.1.now) a.zeros a.fill (s.ensures.front_len ∙ c.min.ensures) in
    says-no (λ e. refuted c.full.result c.full.ensures c.if-not-full.true (is.0 e).0)

pub returns : goal.returns
returns g c =
    let a = c.args in
    let w = g.met.T.Word.each in
    let s = c.split_at in
    let r = s.result in
    let is = cleared-is g.T.Word.number a.room.now r.0.now r.1.now s.ensures.by_index.0 _ _ _ (w a.room.now) (w r.0.now) (w r.1.now) a.zeros a.fill (s.ensures.front_len ∙ c.min.ensures) in
    (λ t. is.1 (c.full.ensures.0 c.if-not-full.false, c.full-2.ensures.0 t), λ e. c.full-2.ensures.1 (is.0 e).1)
