-- `call::run_from` meets its contract. Assumes nothing.
use Rattle.std.proofs.Common.{arith, ap, ◌∙◌, ◌≡◌, ℕ, Ok}
use Rattle.pager.specs.Lists.{is}
use Rattle.machine.specs.Call.{Verdict}
use Rattle.machine.specs.declared.answers.Run.{Run}
use Rattle.machine.specs.declared.answers.Step.TheVariants.{On, Accept, Reject}
use Rattle.machine.proofs.Running.{running-start, running-out, running-on, running-accept, running-reject, running-refused}
use Rattle.machine.proofs.call.run_from.Goals as goal

pub loop-run-init : goal.loop-run-init
loop-run-init c = running-start c.requires

pub loop-run-smaller : goal.loop-run-smaller
loop-run-smaller c =
    let I = c.loop-run.invariant in
    let p = c.step in
    let q : p.result ≡ Ok (On c.in-Ok-On.next) = cc in
    let o = running-on I c.loop-run-test.true p.result _ _ (p.ensures _ _ I.ready) p.auto.stack p.auto.output c.in-Ok-On.next q in
    omega (arith, ap (λ (r : Run). r.steps) c.in-Ok-On.next-is, o.1, c.loop-run-test.true)

pub loop-run-preserved : goal.loop-run-preserved
loop-run-preserved c =
    let I = c.loop-run.invariant in
    let p = c.step in
    let q : p.result ≡ Ok (On c.in-Ok-On.next) = cc in
    rw c.in-Ok-On.next-is (running-on I c.loop-run-test.true p.result _ _ (p.ensures _ _ I.ready) p.auto.stack p.auto.output c.in-Ok-On.next q).0

pub returns-in-Ok-Accept : goal.returns-in-Ok-Accept
returns-in-Ok-Accept c =
    let I = c.loop-run.invariant in
    let p = c.step in
    let q : p.result ≡ Ok (Accept c.in-Ok-Accept.last) = cc in
    let both = running-accept I c.loop-run-test.true p.result _ _ (p.ensures _ _ I.ready) p.auto.stack p.auto.output c.in-Ok-Accept.last q in
    record { answer = ap (λ (r : Run). is (Verdict.accept, r)) c.in-Ok-Accept.last-is ∙ both.0; stack = both.1.0; output = both.1.1 }

pub returns-in-Ok-Reject : goal.returns-in-Ok-Reject
returns-in-Ok-Reject c =
    let I = c.loop-run.invariant in
    let p = c.step in
    let q : p.result ≡ Ok (Reject c.in-Ok-Reject.last) = cc in
    let both = running-reject I c.loop-run-test.true p.result _ _ (p.ensures _ _ I.ready) p.auto.stack p.auto.output c.in-Ok-Reject.last q in
    record { answer = ap (λ (r : Run). is (Verdict.reject, r)) c.in-Ok-Reject.last-is ∙ both.0; stack = both.1.0; output = both.1.1 }

pub returns-in-Err : goal.returns-in-Err
returns-in-Err c =
    let I = c.loop-run.invariant in
    let p = c.step in
    let both = running-refused I c.loop-run-test.true p.result _ _ (p.ensures _ _ I.ready) p.auto.stack p.auto.output c.in-Err.refusal c.in-Err.is in
    record { answer = ap (λ (k : ℕ). is (Verdict.stopped k, c.loop-run.run)) c.from.ensures ∙ both.0; stack = both.1.0; output = both.1.1 }

pub returns : goal.returns
returns c =
    let both = running-out c.loop-run.invariant c.loop-run-test.false in
    record { answer = both.0; stack = both.1.0; output = both.1.1 }
