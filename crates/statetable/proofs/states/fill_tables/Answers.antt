-- `states::fill_tables` meets its contract. Assumes nothing.
use Rattle.std.proofs.Common.{List, ◌≡◌, sym, ap, ◌∙◌, ℕ, ◌*◌}
use Rattle.block.specs.Block.{tokens}
use Rattle.block.specs.First.{firsts_of}
use Rattle.pager.specs.Place.{State}
use Rattle.pager.specs.Call.{zeroed}
use Rattle.statetable.specs.Cells.{cells_of}
use Rattle.statetable.specs.ForTables.{ForNamed, ForTables}
use Rattle.statetable.proofs.FirstWords.{at_named, tables-named, tables-all, tables-stop}
use Rattle.statetable.proofs.states.fill_tables.Goals as goal

pub fill_named-filled-requires : goal.fill_named-filled-requires
fill_named-filled-requires c =
    let cells_are : let a = c.args in a.most * c.tokens.result ≡ a.most * tokens a.grammar.words.now = ap (λ (t : ℕ). c.args.most * t) c.tokens.ensures in
    let actions-zero : let a = c.args in c.clear_cells.new.actions ≡ zeroed (a.most * tokens a.grammar.words.now) a.actions.now = at_named _ _ c.args.actions.now cells_are c.clear_cells.ensures.actions in
    let offered-zero : let a = c.args in c.clear_cells.new.offered ≡ zeroed (a.most * tokens a.grammar.words.now) a.offered.now = at_named _ _ c.args.offered.now cells_are c.clear_cells.ensures.offered in
    let Lent : List State → Type 0 = λ ss. let a = c.args in
    ForTables a.grammar.words.now a.caps a.most a.states a.items.now a.spans.now a.edges.now a.closed.now
    a.actions.now a.offered.now a.rr.now a.sr.now ss in
    let named : (ss : List State) → Lent ss → let a = c.args in let k = c.clear_cells in
    ForNamed a.grammar.words.now a.caps a.states a.items.now a.spans.now a.edges.now a.closed.now
    k.new.actions k.new.offered k.new.rr k.new.sr ss = λ ss S. tables-named S actions-zero offered-zero c.clear_cells.ensures.rr c.clear_cells.ensures.sr in
    (c.requires.0, named c.requires.0 c.requires.1)

pub returns-then-is_err : goal.returns-then-is_err
returns-then-is_err c =
    let cells_are : let a = c.args in a.most * c.tokens.result ≡ a.most * tokens a.grammar.words.now = ap (λ (t : ℕ). c.args.most * t) c.tokens.ensures in
    let actions-zero : let a = c.args in c.clear_cells.new.actions ≡ zeroed (a.most * tokens a.grammar.words.now) a.actions.now = at_named _ _ c.args.actions.now cells_are c.clear_cells.ensures.actions in
    let offered-zero : let a = c.args in c.clear_cells.new.offered ≡ zeroed (a.most * tokens a.grammar.words.now) a.offered.now = at_named _ _ c.args.offered.now cells_are c.clear_cells.ensures.offered in
    let Lent : List State → Type 0 = λ ss. let a = c.args in
    ForTables a.grammar.words.now a.caps a.most a.states a.items.now a.spans.now a.edges.now a.closed.now
    a.actions.now a.offered.now a.rr.now a.sr.now ss in
    let named : (ss : List State) → Lent ss → let a = c.args in let k = c.clear_cells in
    ForNamed a.grammar.words.now a.caps a.states a.items.now a.spans.now a.edges.now a.closed.now
    k.new.actions k.new.offered k.new.rr k.new.sr ss = λ ss S. tables-named S actions-zero offered-zero c.clear_cells.ensures.rr c.clear_cells.ensures.sr in
    let x = c.args in
    let p = c.fill_named-filled in
    let q = c.clear_cells-then-is_err in
    record {
      filled = λ ss S.
          tables-stop S actions-zero offered-zero c.clear_cells.ensures.rr c.clear_cells.ensures.sr
          p.new.actions p.new.offered p.new.rr p.new.sr _ _ _ _
          (at_named _ _ p.new.actions cells_are q.ensures.actions) (at_named _ _ p.new.offered cells_are q.ensures.offered) q.ensures.rr q.ensures.sr
          (cells_of x.grammar.words.now (firsts_of x.grammar.words.now) x.caps ss) p.result (p.ensures.filled ss (named ss S)) (sym c.is_err.ensures.value ∙ c.if-is_err.true);
      closed = p.ensures.closed;
    }

pub returns-else-is_err : goal.returns-else-is_err
returns-else-is_err c =
    let cells_are : let a = c.args in a.most * c.tokens.result ≡ a.most * tokens a.grammar.words.now = ap (λ (t : ℕ). c.args.most * t) c.tokens.ensures in
    let actions-zero : let a = c.args in c.clear_cells.new.actions ≡ zeroed (a.most * tokens a.grammar.words.now) a.actions.now = at_named _ _ c.args.actions.now cells_are c.clear_cells.ensures.actions in
    let offered-zero : let a = c.args in c.clear_cells.new.offered ≡ zeroed (a.most * tokens a.grammar.words.now) a.offered.now = at_named _ _ c.args.offered.now cells_are c.clear_cells.ensures.offered in
    let Lent : List State → Type 0 = λ ss. let a = c.args in
    ForTables a.grammar.words.now a.caps a.most a.states a.items.now a.spans.now a.edges.now a.closed.now
    a.actions.now a.offered.now a.rr.now a.sr.now ss in
    let named : (ss : List State) → Lent ss → let a = c.args in let k = c.clear_cells in
    ForNamed a.grammar.words.now a.caps a.states a.items.now a.spans.now a.edges.now a.closed.now
    k.new.actions k.new.offered k.new.rr k.new.sr ss = λ ss S. tables-named S actions-zero offered-zero c.clear_cells.ensures.rr c.clear_cells.ensures.sr in
    let x = c.args in
    let p = c.fill_named-filled in
    record {
      filled = λ ss S.
          tables-all S actions-zero offered-zero c.clear_cells.ensures.rr c.clear_cells.ensures.sr
          p.new.actions p.new.offered p.new.rr p.new.sr
          (cells_of x.grammar.words.now (firsts_of x.grammar.words.now) x.caps ss) p.result (p.ensures.filled ss (named ss S)) p.auto.offered (sym c.is_err.ensures.value ∙ c.if-is_err.false);
      closed = p.ensures.closed;
    }
