use Rattle.std.proofs.Common.{arith, add-one, sym, length-take-le}
use Rattle.std.proofs.lemmas.Result.{err_from_is_err_and}
use Rattle.pager.proofs.Step.{for-goto, view_of, symbol-small, goto-few, goto-fits, goto-scratch, place-ready, draw-needs, drawn, not-drawn}
use Rattle.pager.proofs.build.place_edge.Goals as goal

-- src/build.rt:104:9
pub goto_kernel-k-requires : goal.goto_kernel-k-requires
goto_kernel-k-requires c = (_, for-goto c.requires.1.gotos)

-- src/build.rt:105:54
pub overflow_add-x : goal.overflow_add-x
overflow_add-x c = record { fits = omega (arith, symbol-small c.requires.1) }

-- src/build.rt:105:53
pub overflow_cast-x : goal.overflow_cast-x
overflow_cast-x c = record { fits = omega (arith, symbol-small c.requires.1) }

-- src/build.rt:105:79
pub overflow_mul-k : goal.overflow_mul-k
overflow_mul-k c =
    let G = c.requires.1 in
    let q = c.goto_kernel-k in
    let W = q.ensures _ (for-goto G.gotos) in
    record { fits = omega (arith, goto-few G _ _ W) }

-- src/build.rt:105:69
pub slice_bounds-place-end : goal.slice_bounds-place-end
slice_bounds-place-end c =
    let G = c.requires.1 in
    let q = c.goto_kernel-k in
    let W = q.ensures _ (for-goto G.gotos) in
    goto-fits G _ _ W

-- src/build.rt:105:69
pub slice_bounds-place-end-2 : goal.slice_bounds-place-end-2
slice_bounds-place-end-2 c =
    let G = c.requires.1 in
    let q = c.goto_kernel-k in
    let W = q.ensures _ (for-goto G.gotos) in
    sym (length-take-le _ _ (goto-fits G _ _ W))

-- src/build.rt:105:9
pub place-requires : goal.place-requires
place-requires c =
    let G = c.requires.1 in
    let q = c.goto_kernel-k in
    let W = q.ensures _ (for-goto G.gotos) in
    (view_of G, place-ready G _ _ W _ (add-one c.args.x))

pub draw_edge-requires : goal.draw_edge-requires
draw_edge-requires c =
    let G = c.requires.1 in
    let q = c.goto_kernel-k in
    let W = q.ensures _ (for-goto G.gotos) in
    let R = c.in_ok-put.ensures (view_of G) (place-ready G _ _ W _ (add-one c.args.x)) in
    draw-needs G _ _ _ _ R

pub returns-in_err-put : goal.returns-in_err-put
returns-in_err-put c =
    let q = c.goto_kernel-k in
    let r = c.from_residual in
    let p = err_from_is_err_and r.result r.ensures.1 in
    record {
      built = λ s G.
          let W = q.ensures _ (for-goto G.gotos) in
          rw (p.1, p.2) (not-drawn G _ _ _ _ (c.in_err-put.ensures (view_of G) (place-ready G _ _ W _ (add-one c.args.x))));
      kernel = let G = c.requires.1 in goto-scratch G _ _ (q.ensures _ (for-goto G.gotos));
    }

pub returns : goal.returns
returns c =
    let q = c.goto_kernel-k in
    record {
      built = λ s G.
          let W = q.ensures _ (for-goto G.gotos) in
          drawn G _ _ _ _ (c.in_ok-put.ensures (view_of G) (place-ready G _ _ W _ (add-one c.args.x))) _ c.draw_edge.ensures;
      kernel = let G = c.requires.1 in goto-scratch G _ _ (q.ensures _ (for-goto G.gotos));
    }
