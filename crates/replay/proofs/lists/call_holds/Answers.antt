-- `call_holds` asks the function of the list. Assumes nothing.
use Rattle.std.proofs.Common.{true, ◌↔◌, ◌≡◌, subst, arith}
use Rattle.replay.specs.Lists.{CaseOf}
use Rattle.replay.proofs.ListLaws.{no-list}
use Rattle.replay.proofs.lists.call_holds.Goals as goal

pub returns-in-Some : goal.returns-in-Some
returns-in-Some c = subst (λ n. (c.call_holds.result ≡ true) ↔ CaseOf n c.args.words.now) c.in-Some.ensures c.call_holds.ensures

pub returns-in-None : goal.returns-in-None
returns-in-None c = no-list c.args.list c.args.words.now (omega (arith, c.in-None.ensures))
