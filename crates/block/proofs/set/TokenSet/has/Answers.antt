-- `TokenSet::has` meets its contract. Assumes nothing.
use Rattle.std.proofs.Common.{sym, ap, ◌∙◌, false, nat_lt, ℕ, ◌≡◌, ◌/◌, ◌%◌, ◌^◌, arith, rules, eqb, length, slice_index_or}
use Rattle.std.proofs.lemmas.Bool.Decides.{nat_tests}
use lib.Bits.{and_mask}
use Rattle.block.specs.Limits.{WORDS, TOKENS}
use Rattle.block.specs.Sets.{mem, bit}
use Rattle.block.proofs.SetLaws.{mem-out}
use Rattle.block.proofs.set.TokenSet.has.Goals as goal

pub returns-then-token-lt-TOKENS : goal.returns-then-token-lt-TOKENS
unfolding mem bit
returns-then-token-lt-TOKENS c =
    let t = c.args.token in
    ap (λ (x : ℕ). eqb x 1) (and_mask (slice_index_or c.args.self.words (t / 64) 0 / 2 ^ (t % 64)) 1)

pub returns-else-token-lt-TOKENS : goal.returns-else-token-lt-TOKENS
returns-else-token-lt-TOKENS c =
    let size : length c.args.self.words ≡ WORDS = search rules in
    let out : nat_lt c.args.token TOKENS ≡ false = grind (arith, nat_tests) in
    out ∙ sym (mem-out c.args.self.words c.args.token (omega arith))
