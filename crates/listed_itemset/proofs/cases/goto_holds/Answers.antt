-- `goto_holds` compares the rows with the goto kernel, for which there is room. Assumes nothing.
use Rattle.std.proofs.Common.{true, List, ◌↔◌, ◌≡◌, subst, replicate, arith}
use Rattle.itemset.specs.Rows.{Row}
use Rattle.itemset.specs.Lent.{RowsIn, ForGoto}
use Rattle.itemset.proofs.Going.{gone-sets}
use Rattle.listed_itemset.proofs.Wrote.{wrote-fits, wrote-counts, wrote-part}
use Rattle.listed_itemset.proofs.cases.goto_holds.Goals as goal
use Rattle.listed_itemset.proofs.cases.goto_holds.Goals.{After-room-1}

-- what is lent to `goto_kernel` suffices
going : (c : After-room-1) (C : List Row) → let b = c.args.grammar.words.now in RowsIn b c.args.closed.now C → ForGoto b c.args.closed.now (replicate 4096 0) C
going c C R = record { closed = R; room = c.requires.room }

some : (c : After-room-1) → (C : List Row) × ForGoto c.args.grammar.words.now c.args.closed.now (replicate 4096 0) C
some c = let R = c.requires.closed in (R.0, going c R.0 R.1)

pub overflow_mul-room : goal.overflow_mul-room
overflow_mul-room c =
    let G = some (goal.at.overflow_mul-room c).After-room-1 in
    omega (arith, wrote-fits (gone-sets G.1 _) (c.goto_kernel-n.ensures G.0 G.1), c.goto_kernel-n.auto.out)

pub slice_bounds-room-end : goal.slice_bounds-room-end
slice_bounds-room-end c =
    let G = some (goal.at.slice_bounds-room-end c).After-room-1 in
    wrote-fits (gone-sets G.1 _) (c.goto_kernel-n.ensures G.0 G.1)

pub slice_bounds-same-end : goal.slice_bounds-same-end
slice_bounds-same-end c =
    let G = some (goal.at.slice_bounds-same-end c).After-room-1 in
    wrote-counts (gone-sets G.1 _) (c.goto_kernel-n.ensures G.0 G.1)

pub returns : goal.returns
returns c C R =
    let G = going (goal.at.returns c).After-room-1 C R in
    let a = c.args in
    subst (λ p. (c.same.result ≡ true) ↔ (a.rows.now ≡ p)) (wrote-part (gone-sets G a.x) (c.goto_kernel-n.ensures C G)) c.same.ensures
