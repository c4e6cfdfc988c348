-- The parts that hold the states are in the buffers. Assumes nothing.
use Rattle.std.proofs.Common.{sym, ◌*◌, arith, length-take-le}
use Rattle.block.specs.Limits.{ITEM}
use Rattle.pager.proofs.Collecting.Whole.{built-sizes, built-parts, collected}
use Rattle.pager.proofs.collect.collect_states.Goals as goal

pub overflow_mul-e : goal.overflow_mul-e
overflow_mul-e c = let r = built-sizes c.requires.0 c.requires.1 in record { fits = omega arith }

pub slice_bounds-collect_parts-end : goal.slice_bounds-collect_parts-end
slice_bounds-collect_parts-end c = (built-sizes c.requires.0 c.requires.1).items-in

pub slice_bounds-collect_parts-end-2 : goal.slice_bounds-collect_parts-end-2
slice_bounds-collect_parts-end-2 c = sym (length-take-le (ITEM * c.args.count.items) c.args.items.now (built-sizes c.requires.0 c.requires.1).items-in)

pub slice_bounds-collect_parts-end-3 : goal.slice_bounds-collect_parts-end-3
slice_bounds-collect_parts-end-3 c = (built-sizes c.requires.0 c.requires.1).spans-in

pub slice_bounds-collect_parts-end-4 : goal.slice_bounds-collect_parts-end-4
slice_bounds-collect_parts-end-4 c = sym (length-take-le (2 * c.args.count.states) c.args.spans.now (built-sizes c.requires.0 c.requires.1).spans-in)

pub slice_bounds-collect_parts-end-5 : goal.slice_bounds-collect_parts-end-5
slice_bounds-collect_parts-end-5 c = (built-sizes c.requires.0 c.requires.1).edges-in

pub slice_bounds-collect_parts-end-6 : goal.slice_bounds-collect_parts-end-6
slice_bounds-collect_parts-end-6 c = sym (length-take-le (c.args.count.states * c.args.width) c.args.edges.now (built-sizes c.requires.0 c.requires.1).edges-in)

pub slice_bounds-collect_parts-end-7 : goal.slice_bounds-collect_parts-end-7
slice_bounds-collect_parts-end-7 c = (built-sizes c.requires.0 c.requires.1).marks-in

pub slice_bounds-collect_parts-end-8 : goal.slice_bounds-collect_parts-end-8
slice_bounds-collect_parts-end-8 c = sym (length-take-le (2 * c.args.count.states) c.args.marks.now (built-sizes c.requires.0 c.requires.1).marks-in)

pub collect_parts-requires : goal.collect_parts-requires
collect_parts-requires c = (c.requires.0.states, built-parts c.requires.0 c.requires.1)

pub returns : goal.returns
returns c = λ v H. collected v H (c.collect_parts.ensures v.states (built-parts v H))
