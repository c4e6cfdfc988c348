use Rattle.std.proofs.Common.{arith, ap, ap₂, ◌∙◌, ◌*◌, ℕ}
use Rattle.block.specs.Limits.{DOTS}
use Rattle.block.specs.Sets.{with}
use Rattle.pager.proofs.Beginning.{end-small, start_small, start-items, begun}
use Rattle.pager.proofs.build.begin.Goals as goal

pub with-requires : goal.with-requires
with-requires c = omega (arith, c.end-end.ensures, end-small c.requires.4)

pub overflow_mul-items : goal.overflow_mul-items
overflow_mul-items c = record { fits = omega (arith, c.start-start.ensures, start_small c.requires.4) }

pub returns : goal.returns
returns c =
    λ edges closed kernel z E.
    begun E _
    (start-items E _ _ _ (ap (λ (p : ℕ). DOTS * p) c.start-start.ensures)
    (c.with.ensures.words ∙ ap₂ with c.empty.ensures.words c.end-end.ensures) c.store.ensures)
