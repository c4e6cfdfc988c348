-- The first i edges are moved. Assumes nothing.
use Rattle.std.proofs.Common.{arith}
use Rattle.pager.specs.Collecting.{number_in}
use Rattle.pager.proofs.Collecting.NewWord.{number-zero}
use Rattle.pager.proofs.Collecting.Move.{read-changed, move-changed}
use Rattle.pager.proofs.collect.move_edges.Goals as goal

pub new_word-requires : goal.new_word-requires
new_word-requires c =
    let l = c.loop-i in
    let a = c.args in
    omega (
      arith,
      c.requires.2 l.i (omega arith),
      read-changed a.edges.now l.edges a.a a.b l.i c.requires.0 (omega arith) (number_in a.marks.now) (number-zero a.marks.now) l.invariant,
    )

pub loop-i-preserved : goal.loop-i-preserved
loop-i-preserved c =
    let l = c.loop-i in
    let a = c.args in
    move-changed a.edges.now l.edges a.a a.b l.i c.requires.0 (omega arith) (number_in a.marks.now) (number-zero a.marks.now) l.invariant
    c.new_word.result c.new_word.ensures
