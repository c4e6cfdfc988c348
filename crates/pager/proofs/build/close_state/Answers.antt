use Rattle.std.proofs.Common.{arith, sym, length-take-le}
use Rattle.pager.proofs.Closing.{marked, mark-inside, rows_inside, for-closure, closed-few, closed-scratch, closed-fits, for-gotos, closes}
use Rattle.pager.proofs.build.close_state.Goals as goal

-- src/build.rt:164:5
pub bounds-marks-n : goal.bounds-marks-n
bounds-marks-n c = mark-inside c.requires.2

-- src/build.rt:165:46
pub kernel_of-requires : goal.kernel_of-requires
kernel_of-requires c = rows_inside c.requires.2

-- src/build.rt:165:9
pub close-rows-requires : goal.close-rows-requires
close-rows-requires c = (_, for-closure c.requires.2 _ c.kernel_of.ensures)

-- src/build.rt:166:35
pub overflow_mul-rows : goal.overflow_mul-rows
overflow_mul-rows c =
    let S = c.requires.2 in
    let q = c.close-rows in
    let W = q.ensures _ (for-closure S _ c.kernel_of.ensures) in
    record { fits = omega (arith, closed-few S _ _ W) }

-- src/build.rt:166:25
pub slice_bounds-place_all-end : goal.slice_bounds-place_all-end
slice_bounds-place_all-end c =
    let S = c.requires.2 in
    let q = c.close-rows in
    let W = q.ensures _ (for-closure S _ c.kernel_of.ensures) in
    closed-fits S _ _ W

-- src/build.rt:166:25
pub slice_bounds-place_all-end-2 : goal.slice_bounds-place_all-end-2
slice_bounds-place_all-end-2 c =
    let S = c.requires.2 in
    let q = c.close-rows in
    let W = q.ensures _ (for-closure S _ c.kernel_of.ensures) in
    sym (length-take-le _ _ (closed-fits S _ _ W))

-- src/build.rt:166:5
pub place_all-requires : goal.place_all-requires
place_all-requires c =
    let S = c.requires.2 in
    let q = c.close-rows in
    let W = q.ensures _ (for-closure S _ c.kernel_of.ensures) in
    (marked S, for-gotos S _ _ W)

-- src/build.rt:143:1
pub returns : goal.returns
returns c =
    let q = c.close-rows in
    let p = c.place_all in
    record {
      built = λ ss z S.
          let W = q.ensures _ (for-closure S _ c.kernel_of.ensures) in
          closes S _ _ _ _ _ (p.ensures.built (marked S) (for-gotos S _ _ W));
      closed = let S = c.requires.2 in closed-scratch S _ _ (q.ensures _ (for-closure S _ c.kernel_of.ensures));
      kernel = p.ensures.kernel;
    }
