use Rattle.std.proofs.Common.{add-one, refl, ◌∙◌}
use Rattle.pager.proofs.Rooms.{scratch-refl, scratch-trans}
use Rattle.std.proofs.lemmas.Result.{err_from_is_err_and}
use Rattle.pager.proofs.Step.{closed-rows}
use Rattle.pager.proofs.Walking.{sight-low, sight-all, sight-at, for-one, site_of, walked_none, walked_next, walked_all, walked-refused}
use Rattle.pager.proofs.build.place_all.Goals as goal

pub sights_of-sights-requires : goal.sights_of-sights-requires
sights_of-sights-requires c = (_, closed-rows c.requires.1)

pub loop-symbol-init : goal.loop-symbol-init
loop-symbol-init c = (refl, refl, refl, refl, scratch-refl _ _, λ s G. walked_none _ _ _ s G)

pub as_slice-symbol-items-requires : goal.as_slice-symbol-items-requires
as_slice-symbol-items-requires c = (_, c.sights_of-sights.ensures _ (closed-rows c.requires.1))

pub place_edge-requires : goal.place_edge-requires
place_edge-requires c =
    let l = c.loop-symbol in
    let s = c.requires.0 in
    let G = c.requires.1 in
    let S = c.as_slice-symbol-items.ensures _ (c.sights_of-sights.ensures _ (closed-rows G)) in
    let T = l.invariant.5 s G in
    let i = sight-low S l.symbol-index c.loop-symbol-test.true in
    (site_of _ _ _ s T, for-one _ _ _ s G T i _ (sight-at S l.symbol-index) _ l.invariant.4.size)

pub loop-symbol-preserved : goal.loop-symbol-preserved
loop-symbol-preserved c =
    let l = c.loop-symbol in
    let p = c.place_edge in (
      p.auto.items ∙ l.invariant.0,
      p.auto.spans ∙ l.invariant.1,
      p.auto.edges ∙ l.invariant.2,
      p.auto.marks ∙ l.invariant.3,
      scratch-trans l.invariant.4 c.in_ok-count.ensures.kernel,
      λ s G.
          let S = c.as_slice-symbol-items.ensures _ (c.sights_of-sights.ensures _ (closed-rows G)) in
          let T = l.invariant.5 s G in
          let i = sight-low S l.symbol-index c.loop-symbol-test.true in
          walked_next _ _ _ s G T i _ (sight-at S l.symbol-index) _ (add-one l.symbol-index)
          (c.in_ok-count.ensures.built (site_of _ _ _ s T) (for-one _ _ _ s G T i _ (sight-at S l.symbol-index) _ l.invariant.4.size)),
    )

pub returns-in_err-count : goal.returns-in_err-count
returns-in_err-count c =
    let l = c.loop-symbol in
    let r = c.from_residual in
    let p = err_from_is_err_and r.result r.ensures.1 in
    record {
      built = λ s G.
          let S = c.as_slice-symbol-items.ensures _ (c.sights_of-sights.ensures _ (closed-rows G)) in
          let T = l.invariant.5 s G in
          let i = sight-low S l.symbol-index c.loop-symbol-test.true in
          rw (p.1, p.2)
          (walked-refused _ _ _ s G T i _ (sight-at S l.symbol-index) _ _ _ _ _
          (c.in_err-count.ensures.built (site_of _ _ _ s T) (for-one _ _ _ s G T i _ (sight-at S l.symbol-index) _ l.invariant.4.size)));
      kernel = scratch-trans l.invariant.4 c.in_err-count.ensures.kernel;
    }

pub returns : goal.returns
returns c =
    let l = c.loop-symbol in
    record {
      built = λ s G.
          let S = c.as_slice-symbol-items.ensures _ (c.sights_of-sights.ensures _ (closed-rows G)) in
          walked_all _ _ _ s (l.invariant.5 s G) (sight-all S l.symbol-index c.loop-symbol-test.false);
      kernel = l.invariant.4;
    }
