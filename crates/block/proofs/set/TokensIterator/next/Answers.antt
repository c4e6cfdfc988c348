-- `Tokens::next` meets its contract. Assumes nothing.
use Rattle.std.proofs.Common.{refl}
use Rattle.block.proofs.Next.{left-none, left-some}
use Rattle.block.proofs.set.TokensIterator.next.Goals as goal

pub returns-in_err-token-clause-steps : goal.returns-in_err-token-clause-steps
returns-in_err-token-clause-steps c =
    let s = c.args.self.now in
    let next = c.in_err-token.ensures.next in
    let none = left-none s.set.words s.from next in
    rw c.from_residual.ensures (next, (none, none), refl, refl)

pub returns-clause-steps : goal.returns-clause-steps
returns-clause-steps c =
    let s = c.args.self.now in
    let next = c.in_ok-token.ensures.next in
    (next, left-some s.set.words s.from c.in_ok-token.token c.in_ok-token.ensures.below next, refl, (c.in_ok-token.ensures.below, refl))
