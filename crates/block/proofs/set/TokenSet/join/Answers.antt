-- `TokenSet::join` meets its contract. Assumes nothing.
use Rattle.std.proofs.Common.{List, ◌≡◌, sym, ap, ◌∙◌, ℕ, add-one, arith, rules, length, take_all}
use Rattle.block.specs.Limits.{WORDS}
use Rattle.block.specs.Sets.{mem, join}
use Rattle.block.proofs.Joins.{join-nil, join_more, mem-join}
use Rattle.block.proofs.set.TokenSet.join.Goals as goal

pub loop-i-init : goal.loop-i-init
loop-i-init c = sym (join-nil c.args.self.words)

pub loop-i-preserved : goal.loop-i-preserved
loop-i-preserved c =
    let here : length c.args.self.words ≡ WORDS = search rules in
    let there : length c.args.other.words ≡ WORDS = search rules in
    rw (add-one, c.loop-i.invariant) (join_more c.args.self.words c.args.other.words c.loop-i.i (omega arith) (omega arith))

pub returns-clause-members : goal.returns-clause-members
returns-clause-members c =
    let a = c.args.self.words in
    let b = c.args.other.words in
    let there : length b ≡ WORDS = search rules in
    λ u. ap (λ (w : List ℕ). mem w u) (c.loop-i.invariant ∙ ap (join a) (take_all c.loop-i.i b (omega arith))) ∙ mem-join a b u
