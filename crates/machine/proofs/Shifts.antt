-- A shift: refused for its table, refused for the stack's room, or done. Assumes nothing.
use mathlib.Core.Bool.{Bool, true, false}
use mathlib.Core.List.Memᴰ
use mathlib.Core.List.{List, [], ◌∷◌, ◌++◌, append_assoc, append-nil, reverse, reverse-cons}
use mathlib.Core.Logic.{⊎_elim}
use mathlib.Core.Path.{◌≡◌, refl, sym, ap, ◌∙◌, subst}
use Prim.Native.Nat.{ℕ, zero, suc, ◌+◌, ◌≤◌, ◌<◌}
use native.Mathlib.Numerals.{add-one}
use native.Mathlib.Omega.{arith}
use borrow.Author.Tests.{lt-ltb, le-ltb, le-leb, lt-leb}
use lib.Dec.{ltb, leb}
use lib.ListN.{length, set, length-set, length-reverse}
use Rattle.std.specs.Prelude.{Result, Ok, Err}
use Rattle.knuth.specs.Grammar.{Grammar}
use Rattle.knuth.specs.Tables.{Tables, Action}
use Rattle.knuth.specs.Machine.{Config, at, guard, goes}
use Rattle.knuth.specs.Limits.{Why, moves, stops, fits, within}
use Rattle.pager.specs.Memory.{pad}
use Rattle.pager.proofs.Padded.{pad-one}
use Rattle.machine.specs.Moves.{lent, doing, Ready, Stepped}
use Rattle.machine.specs.declared.answers.Run.{Run}
use Rattle.machine.specs.declared.answers.Step.{Step}
use Rattle.machine.specs.declared.answers.Step.TheVariants.{On}
use Rattle.machine.specs.declared.answers.StepRefusal.{StepRefusal}
use Rattle.machine.specs.declared.answers.StepRefusal.TheVariants.{StackRoom, BadTable}
use Rattle.machine.proofs.Standing.{run_is, taken-length, output-length, height-is, k-is, at-is, stays, goes_on}

-- a state stored on top of a stack of xs
pub store-top : (stack xs : List ℕ) (h v : ℕ) → stack ≡ pad (length stack) xs → length xs ≡ h → h < length stack
    → set stack h v ≡ pad (length (set stack h v)) (xs ++ (v ∷ []))
store-top stack xs h v e q l =
    ap (λ (t : List ℕ). set t h v) (e ∙ sym (append-nil (pad (length stack) xs)))
    ∙ pad-one (length stack) xs [] h v q l
    ∙ append-nil (pad (length stack) (xs ++ (v ∷ [])))
    ∙ ap (λ (n : ℕ). pad n (xs ++ (v ∷ []))) (sym (length-set stack h v))

-- what fits the output and the stack, and what does not
pub room-output : (o s : Bool) (c : Config) → o ≡ false → fits o s c ≡ stops Why.output-room
room-output o s c e = ap (λ (x : Bool). fits x s c) e

pub room-stack : (o s : Bool) (c : Config) → o ≡ true → s ≡ false → fits o s c ≡ stops Why.stack-room
room-stack o s c e f = ap (λ (x : Bool). fits x s c) e ∙ ap (λ (x : Bool). fits true x c) f

pub room-both : (o s : Bool) (c : Config) → o ≡ true → s ≡ true → fits o s c ≡ moves c
room-both o s c e f = ap (λ (x : Bool). fits x s c) e ∙ ap (λ (x : Bool). fits true x c) f

-- from the stack and the output to the stack after it
abbrev Shifted : ℕ → List ℕ → Run → Config → (stack output old : List ℕ) → Grammar → Tables → ℕ → Result Step StepRefusal → List ℕ → Type 0
Shifted states input run c stack output old G T to r stack' =
    Stepped states input run c (within (lent zero stack output) (doing G T (Action.shift to) c)) r stack' output old

module _ {states : ℕ} (G : Grammar) (T : Tables) (e : T.states ≡ states) (to : ℕ) where
  -- 17: to no state
  pub shift-nowhere : {b actions gotos input stack output old : List ℕ} {run : Run} (c : Config) → Ready b states actions gotos input run stack output old c → states ≤ to → Shifted states input run c stack output old G T to (Err BadTable) stack
  shift-nowhere (at s st [] out) R h = stays R Why.bad _ refl _ refl
  shift-nowhere {stack = stack} {output = output} (at s st (t ∷ v) out) R h =
      stays R Why.bad _
      (ap (λ (x : Bool). within (lent zero stack output) (guard x (goes (at to (s ∷ st) v out)))) (ap (ltb to) e ∙ le-ltb to states h)) _ refl

  -- 17: of the end token
  pub shift-end : {b actions gotos input stack output old : List ℕ} {run : Run} (c : Config) → Ready b states actions gotos input run stack output old c → length input ≤ run.at → Shifted states input run c stack output old G T to (Err BadTable) stack
  shift-end (at s st [] out) R h = stays R Why.bad _ refl _ refl
  shift-end (at s st (t ∷ v) out) R h = absurd (omega (arith, at-is R, taken-length R.lies))

  module _ (k : to < states) where
    moving : (stack output : List ℕ) (s t : ℕ) (st v out : List ℕ) → within (lent zero stack output) (doing G T (Action.shift to) (at s st (t ∷ v) out))
        ≡ fits (leb (length out) (length output)) (leb (suc (suc (length st))) (length stack)) (at to (s ∷ st) v out)
    moving stack output s t st v out =
        ap (λ (x : Bool). within (lent zero stack output) (guard x (goes (at to (s ∷ st) v out)))) (ap (ltb to) e ∙ lt-ltb to states k)

    -- 14
    pub shift-full : {b actions gotos input stack output old : List ℕ} {run : Run} (c : Config) → Ready b states actions gotos input run stack output old c → run.at < length input → length stack ≤ run.height → Shifted states input run c stack output old G T to (Err StackRoom) stack
    shift-full (at s st [] out) R l h = absurd (omega (arith, at-is R, taken-length R.lies))
    shift-full {stack = stack} {output = output} {run = run} (at s st (t ∷ v) out) R l h =
        stays R Why.stack-room _
        (moving stack output s t st v out
        ∙ room-stack (leb (length out) (length output)) (leb (suc (suc (length st))) (length stack)) (at to (s ∷ st) v out)
        (le-leb (length out) (length output) (omega (arith, output-length R.lies, R.lies.output-fits)))
        (lt-leb (suc (suc (length st))) (length stack) (omega (arith, height-is R)))) _ refl

    pub shift-goes : {b actions gotos input stack output old : List ℕ} {run : Run} (c : Config) → Ready b states actions gotos input run stack output old c → run.at < length input → run.height < length stack
        → Shifted states input run c stack output old G T to (Ok (On (record { at = run.at + 1; k = run.k; steps = run.steps + 1; height = run.height + 1 }))) (set stack run.height to)
    shift-goes (at s st [] out) R l h = absurd (omega (arith, at-is R, taken-length R.lies))
    shift-goes {stack = stack} {output = output} {run = run} (at s st (t ∷ v) out) R l h =
        let c' : Config = at to (s ∷ st) v out in
        goes_on R c' _
        (moving stack output s t st v out
        ∙ room-both (leb (length out) (length output)) (leb (suc (suc (length st))) (length stack)) c'
        (le-leb (length out) (length output) (omega (arith, output-length R.lies, R.lies.output-fits)))
        (le-leb (suc (suc (length st))) (length stack) (omega (arith, height-is R)))) _
        (run_is (omega (arith, at-is R, taken-length R.lies)) (k-is R) (add-one run.steps) (omega (arith, height-is R))) _ _
        record {
          stack_is =
              store-top stack (reverse (s ∷ st)) run.height to R.lies.stack_is (length-reverse (s ∷ st) ∙ sym (height-is R)) h
              ∙ ap (pad (length (set stack run.height to))) (sym (reverse-cons to (s ∷ st)));
          stack-fits = omega (arith, height-is R, length-set stack run.height to);
          output-is = R.lies.output-is;
          output-fits = R.lies.output-fits;
          taken = R.lies.taken ++ (t ∷ []);
          input-is = R.lies.input-is ∙ sym (append_assoc R.lies.taken (t ∷ []) v);
          known = λ x m. ⊎_elim (λ (q : x ≡ to). subst (λ (y : ℕ). y < states) (sym q) k) (R.lies.known x) (Memᴰ.cases_cons m);
        }
