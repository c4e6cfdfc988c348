-- `TokenSet::meets` meets its contract. Assumes nothing.
use Rattle.std.proofs.Common.{true, false, arith}
use Rattle.block.specs.Limits.{WORDS}
use Rattle.block.proofs.Owned.{set-good}
use Rattle.block.proofs.SetLaws.{meets-found, meets-none, meets-told}
use Rattle.block.proofs.set.TokenSet.meets.Goals as goal

pub returns-then-self-i-ne0 : goal.returns-then-self-i-ne0
returns-then-self-i-ne0 c =
    let a = c.args.self.words in
    let b = c.args.other.words in
    let both = meets-told a b true (set-good c.args.self _ c.well_formed.0).1 (meets-found a b c.loop-i.i c.if-self-i-ne0.true) in
    record { words = both.0; members = both.1 }

pub returns : goal.returns
returns c =
    let a = c.args.self.words in
    let b = c.args.other.words in
    let f = set-good c.args.self _ c.well_formed.0 in
    let both = meets-told a b false f.1 (meets-none WORDS a b (omega (arith, f.0)) (λ k h. c.loop-i.invariant k (omega arith))) in
    record { words = both.0; members = both.1 }
