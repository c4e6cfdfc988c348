-- `call::tabulate` meets its contract. Assumes nothing.
use Rattle.std.proofs.Common.{refl, Ok, Err}
use Rattle.block.specs.First.{firsts_of}
use Rattle.statetable.specs.Cells.{cells_of}
use Rattle.statetable.specs.Build.{caps_of}
use Rattle.statetable.proofs.Tabulated.{to_fill, derivable, tabulated}
use Rattle.statetable.proofs.call.tabulate.Goals as goal

pub derive_tables-requires : goal.derive_tables-requires
derive_tables-requires c =
    let a = c.args in
    let n = c.fill_tables in
    derivable c.requires.1 (cells_of a.grammar.words.now (firsts_of a.grammar.words.now) (caps_of a.named) c.requires.0) (Ok c.in-Ok.tally) n.new.actions n.new.offered n.new.rr n.new.sr
    (c.in-Ok.ensures.filled c.requires.0 (to_fill c.requires.1))

pub derive_tables-requires-in-Err : goal.derive_tables-requires-in-Err
derive_tables-requires-in-Err c =
    let a = c.args in
    let n = c.fill_tables in
    derivable c.requires.1 (cells_of a.grammar.words.now (firsts_of a.grammar.words.now) (caps_of a.named) c.requires.0) (Err c.in-Err.refusal) n.new.actions n.new.offered n.new.rr n.new.sr
    (c.in-Err.ensures.filled c.requires.0 (to_fill c.requires.1))

pub returns-in-Ok : goal.returns-in-Ok
returns-in-Ok c =
    let a = c.args in
    let n = c.fill_tables in
    let d = c.derive_tables in
    record {
      tables = λ ss F.
          tabulated F (cells_of a.grammar.words.now (firsts_of a.grammar.words.now) (caps_of a.named) ss) (Ok c.in-Ok.tally) n.new.actions n.new.offered n.new.rr n.new.sr
          (c.in-Ok.ensures.filled ss (to_fill F)) _ _ _ d.new.gotos d.new.shifts d.new.cores d.new.only d.ensures refl refl refl;
      closed = c.in-Ok.ensures.closed;
    }

pub returns-in-Err : goal.returns-in-Err
returns-in-Err c =
    let a = c.args in
    let n = c.fill_tables in
    let d = c.derive_tables-in-Err in
    let g = c.clear_graph in
    record {
      tables = λ ss F.
          tabulated F (cells_of a.grammar.words.now (firsts_of a.grammar.words.now) (caps_of a.named) ss) (Err c.in-Err.refusal) n.new.actions n.new.offered n.new.rr n.new.sr
          (c.in-Err.ensures.filled ss (to_fill F)) g.new.items g.new.spans g.new.edges d.new.gotos d.new.shifts d.new.cores d.new.only d.ensures
          g.ensures.items g.ensures.spans g.ensures.edges;
      closed = c.in-Err.ensures.closed;
    }
