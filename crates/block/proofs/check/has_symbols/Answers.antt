-- `check::has_symbols` meets its contract. Assumes nothing.
use Rattle.std.proofs.Common.{not, refl, sym, ap, ◌∙◌, arith}
use Rattle.block.specs.Block.{symbols, symbol_at}
use Rattle.block.specs.Refusal.{good_symbol, bad_symbol}
use Rattle.block.proofs.ListLaws.{left-all, left-stops, left-on, left-over}
use Rattle.block.proofs.check.has_symbols.Goals as goal

pub loop-i-init : goal.loop-i-init
loop-i-init c = let b = c.args.words.now in left-all (λ i. not (good_symbol b (symbol_at b i))) (symbols b)

pub returns-then-not-is_symbol : goal.returns-then-not-is_symbol
unfolding bad_symbol
returns-then-not-is_symbol c =
    let b = c.args.words.now in
    rw (left-stops (λ i. not (good_symbol b (symbol_at b i))) (symbols b) c.loop-i.i _ c.loop-i.invariant (omega arith) (ap not (sym c.is_symbol.ensures ∙ c.if-not-is_symbol.true))) refl

pub loop-i-preserved : goal.loop-i-preserved
loop-i-preserved c =
    let b = c.args.words.now in
    left-on (λ i. not (good_symbol b (symbol_at b i))) (symbols b) c.loop-i.i _ c.loop-i.invariant (omega arith) (ap not (sym c.is_symbol.ensures ∙ c.if-not-is_symbol.false))

pub returns : goal.returns
unfolding bad_symbol
returns c =
    let b = c.args.words.now in
    rw (left-over (λ i. not (good_symbol b (symbol_at b i))) (symbols b) c.loop-i.i _ c.loop-i.invariant (omega arith)) refl
