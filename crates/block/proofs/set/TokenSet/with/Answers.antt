-- `TokenSet::with` meets its contract. Assumes nothing.
use Rattle.std.proofs.Common.{List, ap, ◌≡◌, ◌∙◌, ℕ, ◌/◌, ◌%◌, arith, rules, length, slice_index_or, slice_set, bit_or}
use Rattle.block.specs.Limits.{WORDS}
use Rattle.block.specs.Sets.{mem, with}
use Rattle.block.proofs.Bits.{one_shl}
use Rattle.block.proofs.SetLaws.{mem-with}
use Rattle.block.proofs.set.TokenSet.with.Goals as goal

pub returns-clause-words : goal.returns-clause-words
unfolding with
returns-clause-words c =
    let ws = c.args.self.words in
    let t = c.args.token in
    ap (λ (x : ℕ). slice_set ws (t / 64) (bit_or (slice_index_or ws (t / 64) 0) x)) (one_shl (t % 64) (omega arith))

pub returns-clause-members : goal.returns-clause-members
unfolding with
returns-clause-members c =
    let ws = c.args.self.words in
    let t = c.args.token in
    let size : length ws ≡ WORDS = search rules in
    let e = ap (λ (x : ℕ). slice_set ws (t / 64) (bit_or (slice_index_or ws (t / 64) 0) x)) (one_shl (t % 64) (omega arith)) in
    λ u. ap (λ (w : List ℕ). mem w u) e ∙ mem-with ws t (omega arith) u
