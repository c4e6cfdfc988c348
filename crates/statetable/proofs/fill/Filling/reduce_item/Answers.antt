-- `Filling::reduce_item` meets its contract. Assumes nothing.
use Rattle.std.proofs.Common.{arith, ◌≡◌, refl, ap, ◌∙◌}
use Rattle.std.proofs.lemmas.Result.{err_from_is_err_and}
use Rattle.block.specs.declared.set.Tokens.{Tokens}
use Rattle.statetable.proofs.Folds.{here-start, here-one, one-stuck, here-done}
use Rattle.statetable.proofs.SameRoom.{same_on}
use Rattle.statetable.proofs.Coming.{tokens-all, tokens-end, tokens-next, tokens-past}
use Rattle.statetable.proofs.fill.Filling.reduce_item.Goals as goal

pub loop-t-init : goal.loop-t-init
loop-t-init c =
    let same : c.into_iter-t-iterator.result ≡ c.tokens-t-items.result = c.into_iter-t-iterator.ensures.into_iter_gives in
    let zero-from = ap (λ (x : Tokens). x.from) same ∙ c.tokens-t-items.ensures.1 in (
      ap (λ (x : Tokens). x.set.words) same ∙ c.tokens-t-items.ensures.0,
      record { cells = refl; offered = refl; rr = refl; sr = refl; caps = refl; state = refl },
      rw zero-from (λ f L. here-start _ _ (tokens-all _ _ _) (omega arith) L),
    )

pub complete_at-requires : goal.complete_at-requires
complete_at-requires c =
    let l = c.loop-t in
    let S = l.invariant.1 in
    let H = l.invariant.2 _ c.requires.1.1 in
    (c.requires.0, omega (arith, c.tokens-tokens.ensures, c.if-tokens-t.false), (H.row, rw (S.caps, S.state) H.laid))

pub loop-t-preserved : goal.loop-t-preserved
loop-t-preserved c =
    let l = c.loop-t in
    let W = l.invariant.0 in
    let S = l.invariant.1 in
    let N = rw W at c.in-Some.ensures.steps.0 in
    let M = c.in-Some.ensures.steps in
    let left = rw (S.caps, S.state) at c.in_ok-complete_at.ensures.left in (
      M.2 ∙ W,
      same_on S c.complete_at.ensures.same,
      λ f L.
          let H = l.invariant.2 f L in
          here-one H _ _ (tokens-next _ _ _ _ _ N.0 N.2 _ (omega (arith, c.tokens-tokens.ensures, c.if-tokens-t.false)) N.1 M.3.1) (left H.row H.laid),
    )

pub returns-in_err-complete_at-clause-left : goal.returns-in_err-complete_at-clause-left
returns-in_err-complete_at-clause-left c =
    let l = c.loop-t in
    let W = l.invariant.0 in
    let S = l.invariant.1 in
    let N = rw W at c.in-Some.ensures.steps.0 in
    let e = err_from_is_err_and c.from_residual.result c.from_residual.ensures.1 in
    let left = rw (S.caps, S.state) at c.in_err-complete_at.ensures.left in
    rw (e.1, e.2)
    (λ f L.
    let H = l.invariant.2 f L in
    one-stuck H _ _ (tokens-next _ _ _ _ _ N.0 N.2 _ (omega (arith, c.tokens-tokens.ensures, c.if-tokens-t.false)) N.1 refl)
    _ _ _ _ _ _ (left H.row H.laid) _ _ _ _ _)

pub returns-in_err-complete_at-clause-same : goal.returns-in_err-complete_at-clause-same
returns-in_err-complete_at-clause-same c = same_on c.loop-t.invariant.1 c.complete_at.ensures.same

pub returns-then-tokens-t-clause-left : goal.returns-then-tokens-t-clause-left
returns-then-tokens-t-clause-left c =
    let l = c.loop-t in
    let N = rw l.invariant.0 at c.in-Some.ensures.steps.0 in
    λ f L. here-done (l.invariant.2 f L) (tokens-past _ _ _ _ _ N.0 N.2 (omega (arith, c.tokens-tokens.ensures, c.if-tokens-t.true)))

pub returns-then-tokens-t-clause-same : goal.returns-then-tokens-t-clause-same
returns-then-tokens-t-clause-same c = c.loop-t.invariant.1

pub returns-in-None-clause-left : goal.returns-in-None-clause-left
returns-in-None-clause-left c =
    let l = c.loop-t in
    let N = rw l.invariant.0 at c.in-None.ensures.steps.0 in
    λ f L. here-done (l.invariant.2 f L) (tokens-end _ _ _ _ N)

pub returns-in-None-clause-same : goal.returns-in-None-clause-same
returns-in-None-clause-same c = c.loop-t.invariant.1
