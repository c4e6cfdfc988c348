-- `check::has_productions` meets its contract. Assumes nothing.
use Rattle.std.proofs.Common.{◌≡◌, ◌+◌, ◌<◌, ◌≤◌, ℕ, List, refl, sym, ◌∙◌, add-one, arith, below_none, below_more}
use Rattle.block.specs.Limits.{LENGTH}
use Rattle.block.specs.Block.{rules, prods, symbols, rule_of, first_of, length_of}
use Rattle.block.specs.Refusal.{lengths}
use Rattle.block.specs.Exact.{WrongProduction, BadProduction, no-rule, first-wrong, too_long, wrong-production, sum-differs}
use Rattle.block.proofs.Says.{says-true, says-false}
use Rattle.block.proofs.Rows.{productions-says}
use Rattle.block.proofs.Good.{clear-inside}
use Rattle.block.proofs.check.has_productions.Goals as goal
use Rattle.block.proofs.check.has_productions.Goals.{then-words-at-via-then-words-at, then-words-at-via-else-words-at+then-words-at-2, then-words-at-via-else-words-at+else-words-at-2+then-n-gt-LENGTH}

lengths-next : (b : List ℕ) (p : ℕ) → lengths b (p + 1) ≡ lengths b p + length_of b p
unfolding lengths
lengths-next b p = rw add-one

production-right : (b : List ℕ) (p : ℕ) → rule_of b p < rules b → first_of b p ≡ lengths b p → length_of b p ≤ LENGTH → WrongProduction b p → ⊥
production-right b p h k m = elim [ no-rule d ↦ omega arith | first-wrong d ↦ d k | too_long d ↦ omega arith ]

-- all productions are right
none : (b : List ℕ) (p s : ℕ) → p ≡ prods b → s ≡ lengths b p → s ≡ symbols b → ((q : ℕ) → q < p → WrongProduction b q → ⊥) → BadProduction b → ⊥
none b p s e sum all right (wrong-production q l w) = right q (omega arith) w
none b p s e sum all right (sum-differs h) = h (sym (rw e at sum) ∙ all)

pub loop-p-init : goal.loop-p-init
unfolding lengths
loop-p-init c = record { sum = refl; most = omega arith; right = below_none (λ q. WrongProduction c.args.words.now q → ⊥) }

pub loop-p-preserved : goal.loop-p-preserved
loop-p-preserved c =
    let b = c.args.words.now in
    let n = lengths-next b c.loop-p.p in
    record {
      sum = omega arith;
      most = omega arith;
      right = below_more (λ q. WrongProduction b q → ⊥) c.loop-p.p c.loop-p.invariant.right (production-right b c.loop-p.p (omega arith) (omega arith) (omega arith));
    }

pub returns-then-words-at-clause-refusal : goal.returns-then-words-at-clause-refusal
returns-then-words-at-clause-refusal c =
    let b = c.args.words.now in
    let p = c.loop-p.p in
    let wrong : WrongProduction b p = elim c.then-words-at.branch [
      | then-words-at-via-then-words-at w ↦ no-rule (omega arith)
      | then-words-at-via-else-words-at+then-words-at-2 w ↦ first-wrong (λ e. omega arith)
      | then-words-at-via-else-words-at+else-words-at-2+then-n-gt-LENGTH w ↦ too_long (omega arith)
    ] in
    rw (says-true (productions-says b) (wrong-production p (omega arith) wrong)) refl

pub returns-then-sum-words-clause-refusal : goal.returns-then-sum-words-clause-refusal
returns-then-sum-words-clause-refusal c =
    let b = c.args.words.now in
    let e : c.loop-p.p ≡ prods b = omega arith in
    let s = rw e at c.loop-p.invariant.sum in
    rw (says-true (productions-says b) (sum-differs (λ h. omega arith))) refl

pub returns-clause-refusal : goal.returns-clause-refusal
returns-clause-refusal c =
    let b = c.args.words.now in
    rw (says-false (productions-says b) (none b c.loop-p.p c.loop-p.sum (omega arith) c.loop-p.invariant.sum (omega arith) c.loop-p.invariant.right)) refl

pub returns-clause-listed : goal.returns-clause-listed
returns-clause-listed c =
    let right = none c.args.words.now c.loop-p.p c.loop-p.sum (omega arith) c.loop-p.invariant.sum (omega arith) c.loop-p.invariant.right in
    record { placed = c.requires; inside = clear-inside right }
