-- One step: the state on top, the token that it looks at, the cell, and what the cell's action makes of it. Assumes nothing.
use mathlib.Core.List.Memᴰ
use mathlib.Core.List.{List, [], ◌∷◌}
use mathlib.Core.Path.{◌≡◌, refl, sym, ap, ◌∙◌, subst}
use Prim.Native.Nat.{ℕ, zero, ◌+◌, ◌*◌, ◌-◌, ◌≤◌, ◌<◌}
use native.Mathlib.Omega.{arith}
use lib.ListN.{length, get_or, drop}
use Rattle.std.specs.Prelude.{Result, Ok, Err}
use Rattle.knuth.specs.Grammar.{Grammar}
use Rattle.knuth.specs.Tables.{Tables, Action}
use Rattle.knuth.specs.Machine.{Config, at, Outcome, look, act, next}
use Rattle.knuth.specs.Limits as theory
use Rattle.knuth.specs.Limits.{Why, height, rest-of, within}
use Rattle.knuth.proofs.Lists.{drop-within}
use Rattle.knuth.proofs.Steps.{look-below}
use Rattle.block.specs.Block.{tokens}
use Rattle.block.specs.Grammar.{grammar_of}
use Rattle.block.proofs.Valid.{good-valid}
use Rattle.statetable.specs.Cell as cell
use Rattle.statetable.specs.Read.{tables_in}
use Rattle.machine.specs.Moves.{lent, counted, doing, Ready, Stepped, step_of}
use Rattle.machine.specs.declared.answers.Run.{Run}
use Rattle.machine.specs.declared.answers.Step.{Step}
use Rattle.machine.specs.declared.answers.Step.TheVariants.{Accept, Reject}
use Rattle.machine.specs.declared.answers.StepRefusal.{StepRefusal}
use Rattle.machine.specs.declared.answers.StepRefusal.TheVariants.{BadTable}
use Rattle.machine.proofs.Standing.{taken-length, height-is, at-is, rest-is, stays}
use Rattle.machine.proofs.Reduces.{left-top}

abbrev top : Config → ℕ
top (at s st rest out) = s

module _ {b actions gotos input stack output old : List ℕ} {states : ℕ} {run : Run} {c : Config} (R : Ready b states actions gotos input run stack output old c) where
  pub top-is : get_or stack (run.height - 1) 0 ≡ top c
  top-is = go c R
    where
      go : (d : Config) → Ready b states actions gotos input run stack output old d → get_or stack (run.height - 1) 0 ≡ top d
      go (at s st rest out) Q =
          ap (λ (t : List ℕ). get_or t (run.height - 1) 0) Q.lies.stack_is
          ∙ left-top (s ∷ st) 0 s st refl (length stack) (run.height - 1) (omega (arith, height-is Q))

  pub top-known : get_or stack (run.height - 1) 0 < states
  top-known = subst (λ (s : ℕ). s < states) (sym top-is) (go c R)
    where
      go : (d : Config) → Ready b states actions gotos input run stack output old d → top d < states
      go (at s st rest out) Q = Q.lies.known s (Memᴰ.head refl)

  module _ (t : ℕ) (q : t ≡ look (grammar_of b) (drop run.at input)) where
    pub token-below : t < tokens b
    token-below =
        subst (λ (n : ℕ). n < tokens b) (sym q)
        (look-below (grammar_of b) (good-valid R.good) (drop run.at input) (λ x m. R.passed x (drop-within run.at input m)))

    -- the cell's action is the theory's
    pub acts : (a : Action) → cell.decode (get_or actions (get_or stack (run.height - 1) 0 * tokens b + t) 0) ≡ a
        → next (grammar_of b) (tables_in b states actions gotos) c ≡ doing (grammar_of b) (tables_in b states actions gotos) a c
    acts a f = go c top-is (rest-is R)
      where
        go : (d : Config) → get_or stack (run.height - 1) 0 ≡ top d → rest-of d ≡ drop run.at input
            → next (grammar_of b) (tables_in b states actions gotos) d ≡ doing (grammar_of b) (tables_in b states actions gotos) a d
        go (at s st rest out) p r =
            ap (λ (x : Action). act (grammar_of b) (tables_in b states actions gotos) x s st rest out)
            (ap (λ (i : ℕ). cell.decode (get_or actions i 0))
            (ap (λ (i : ℕ). i * tokens b + look (grammar_of b) rest) (sym p)
            ∙ ap (λ (i : ℕ). get_or stack (run.height - 1) 0 * tokens b + i) (ap (look (grammar_of b)) r ∙ sym q))
            ∙ f)

-- a step by what its cell says
pub as-next : {states : ℕ} {input : List ℕ} {run : Run} {c : Config} {r : Result Step StepRefusal} {stack output old : List ℕ} (L : theory.Limits) (x y : Outcome) → x ≡ y
    → Stepped states input run c (within L y) r stack output old → Stepped states input run c (within L x) r stack output old
as-next {states = states} {input = input} {run = run} {c = c} {r = r} {stack = stack} {output = output} {old = old} L x y e S =
    subst (λ (o : Outcome). Stepped states input run c (within L o) r stack output old) (sym e) S

module _ {b actions gotos input stack output old : List ℕ} {states : ℕ} {run : Run} (G : Grammar) (T : Tables) where
  pub accepts : (c : Config) → Ready b states actions gotos input run stack output old c → length input ≤ run.at → (m : Run) → m ≡ counted run
      → Stepped states input run c (within (lent zero stack output) (doing G T Action.accept c)) (Ok (Accept m)) stack output old
  accepts (at s st [] out) R h m q = stays R Why.accept _ refl _ (ap (λ (x : Run). step_of (Ok (Accept x))) q)
  accepts (at s st (t ∷ v) out) R h m q = absurd (omega (arith, at-is R, taken-length R.lies))

  -- 17: at another token
  pub accept-early : (c : Config) → Ready b states actions gotos input run stack output old c → run.at < length input
      → Stepped states input run c (within (lent zero stack output) (doing G T Action.accept c)) (Err BadTable) stack output old
  accept-early (at s st [] out) R h = absurd (omega (arith, at-is R, taken-length R.lies))
  accept-early (at s st (t ∷ v) out) R h = stays R Why.bad _ refl _ refl

  pub rejects : (c : Config) → Ready b states actions gotos input run stack output old c → (m : Run) → m ≡ counted run
      → Stepped states input run c (within (lent zero stack output) (doing G T Action.error c)) (Ok (Reject m)) stack output old
  rejects (at s st rest out) R m q = stays R Why.reject _ refl _ (ap (λ (x : Run). step_of (Ok (Reject x))) q)
