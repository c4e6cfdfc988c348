-- `TokenSet::next` meets its contract. Assumes nothing.
use Rattle.std.proofs.Common.{true, false, ◌≡◌, rules, tests, length}
use Rattle.std.proofs.lemmas.Iterator.{first_from_Range}
use Rattle.block.specs.Limits.{WORDS}
use Rattle.block.specs.Sets.{mem}
use Rattle.block.proofs.Next.{Found, found-next, found-number}
use Rattle.block.proofs.set.TokenSet.next.Goals as goal
use Rattle.block.proofs.set.TokenSet.next.Goals.{After-find}

found : (c : After-find) → Found c.args.self.words c.args.from c.find.result
found c =
    let ws = c.args.self.words in
    first_from_Range _ _ _ _ (λ u. mem ws u ≡ true) (λ u. mem ws u ≡ false) c.find.ensures.ran
    (λ x q k. search (rules, tests)) (λ x q k. (search rules, search (rules, tests)))

pub returns-clause-next : goal.returns-clause-next
returns-clause-next c =
    let size : length c.args.self.words ≡ WORDS = search rules in
    found-next c.args.self.words c.args.from _ size (found c)

pub returns-clause-number : goal.returns-clause-number
returns-clause-number c =
    let size : length c.args.self.words ≡ WORDS = search rules in
    found-number c.args.self.words c.args.from _ size (found c)
