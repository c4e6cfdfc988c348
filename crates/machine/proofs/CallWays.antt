-- The ways out of the call `run`: 1 to 6, 7, 13, and the run. Assumes nothing.
use mathlib.Core.Bool.{Bool, true, false, cond}
use mathlib.Core.List.{List, [], ◌∷◌}
use mathlib.Core.Option.{Option, none, some}
use mathlib.Core.Path.{◌≡◌, refl, sym, ap, ◌∙◌, subst}
use Prim.Native.Nat.{ℕ, zero, suc, ◌*◌, ◌≤◌}
use native.Mathlib.Omega.{arith}
use lib.ListN.{length, replicate}
use Rattle.std.specs.Prelude.{Result, Ok, Err, IsErrAnd}
use Rattle.knuth.specs.Limits.{Ended, ended, machine}
use Rattle.block.specs.Block.{tokens, rules}
use Rattle.block.specs.Grammar.{grammar_of}
use Rattle.block.specs.Refusal.{refusal_of}
use Rattle.pager.specs.Lists.{find, Answer, is, refused, unless}
use Rattle.pager.specs.Held.{STATES}
use Rattle.pager.specs.Call.{or_else}
use Rattle.statetable.specs.Read.{tables_in}
use Rattle.pager.proofs.CallLaws.{at_least}
use Rattle.machine.specs.Limits.{INPUT, STEPS}
use Rattle.machine.specs.Memory.{slots}
use Rattle.machine.specs.Call.{Call, called, room_short, is_short, turned_away, bad_token, machine_of, unless_bad, run_call, Verdict, told, answer_of, stack_of, output_of, Begun}
use Rattle.block.specs.Refused.{number_of}
use Rattle.block.specs.declared.refusal.BlockRefusal.{BlockRefusal}
use Rattle.block.specs.declared.refusal.BlockRefusal.TheVariants.{BadHeader, TooLarge, BadProduction, BadStart, BadSymbol, BadPrecedence}
use Rattle.machine.specs.declared.answers.Run.{Run}
use Rattle.machine.specs.declared.ends.Ended as declared
use Rattle.machine.specs.declared.ends.RunRefusal.{RunRefusal}
use Rattle.machine.specs.declared.ends.RunRefusal.TheVariants.{Block}
use Rattle.machine.proofs.Tokens.{passed}

-- what `?` answers for a refused block
pub told-bad : (r : Result declared.Ended RunRefusal) (n : BlockRefusal) → IsErrAnd r (λ e. e ≡ Block n) → answer_of r ≡ refused (number_of n ∷ [])
told-bad (Ok e) n h = absurd h
told-bad (Err e) n h = ap (λ (x : RunRefusal). answer_of (Err x)) h

-- what is told and what memory holds
abbrev pub Leaves : Call → Answer Ended → Answer (Verdict × Run) → (stack output : List ℕ) → Type 0
Leaves a x v stack output = (v ≡ told (length a.input) x) × ((stack ≡ stack_of x a.stack) × (output ≡ output_of x a.output))

module _ (a : Call) where
  -- a refusal changes nothing
  refusal : (why : List ℕ) → refused why ≡ run_call a → Leaves a (run_call a) (refused why) a.stack a.output
  refusal why e =
      (ap (told (length a.input)) e, (ap (λ (x : Answer Ended). stack_of x a.stack) e, ap (λ (x : Answer Ended). output_of x a.output) e))

  -- 1 to 6
  call-bad : (n : ℕ) → n ≡ refusal_of a.block → (n ≡ 0 → ⊥) → Leaves a (run_call a) (refused (n ∷ [])) a.stack a.output
  unfolding run_call turned_away
  call-bad zero e d = absurd (d refl)
  call-bad (suc n) e d =
      refusal (suc n ∷ [])
      (ap (λ (k : ℕ). unless (or_else k (cond (is_short a) 7 0)) (unless_bad (find (bad_token a.block) 0 a.input) (machine_of a))) e)

  pub call-refused : (n : BlockRefusal) → number_of n ≡ refusal_of a.block → Leaves a (run_call a) (refused (number_of n ∷ [])) a.stack a.output
  call-refused n e = call-bad (number_of n) e (some-number n)
    where
      some-number : (n : BlockRefusal) → number_of n ≡ 0 → ⊥
      some-number BadHeader e = omega arith
      some-number TooLarge e = omega arith
      some-number BadProduction e = omega arith
      some-number BadStart e = omega arith
      some-number BadSymbol e = omega arith
      some-number BadPrecedence e = omega arith

  module _ (good : refusal_of a.block ≡ 0) where
    tested : (t : Bool) → is_short a ≡ t → run_call a ≡ unless (cond t 7 0) (unless_bad (find (bad_token a.block) 0 a.input) (machine_of a))
    unfolding run_call turned_away
    tested t e =
        ap (λ (k : ℕ). unless (or_else k (cond (is_short a) 7 0)) (unless_bad (find (bad_token a.block) 0 a.input) (machine_of a))) good
        ∙ ap (λ (x : Bool). unless (cond x 7 0) (unless_bad (find (bad_token a.block) 0 a.input) (machine_of a))) e

    -- 7
    pub call-short : is_short a ≡ true → Leaves a (run_call a) (refused (7 ∷ [])) a.stack a.output
    call-short e = refusal (7 ∷ []) (sym (tested true e))

    module _ (room : is_short a ≡ false) where
      searched : (o : Option ℕ) → find (bad_token a.block) 0 a.input ≡ o → run_call a ≡ unless_bad o (machine_of a)
      searched o e = tested false room ∙ ap (λ (x : Option ℕ). unless_bad x (machine_of a)) e

      -- 13
      pub call_token : (k : ℕ) → find (bad_token a.block) 0 a.input ≡ some k → Leaves a (run_call a) (refused (13 ∷ k ∷ [])) a.stack a.output
      call_token k found = refusal (13 ∷ k ∷ []) (sym (searched (some k) found))

      pub ran : find (bad_token a.block) 0 a.input ≡ none → run_call a ≡ machine_of a
      ran clean = searched none clean

-- ---- the same block, lent and as a grammar
pub moved : (a : Call) (b : List ℕ) → a.block ≡ b → (v : Answer (Verdict × Run)) (s o : List ℕ) → Leaves a (run_call a) v s o
    → Leaves (record a { block = b }) (run_call (record a { block = b })) v s o
moved a b e v s o L = subst (λ (x : List ℕ). Leaves (record a { block = x }) (run_call (record a { block = x })) v s o) e L

-- ---- what passed test 7
pub record Fits (b : List ℕ) (states actions gotos input limit stack : ℕ) : Type 0 where
  pub some-states : 1 ≤ states
  pub states-most : states ≤ STATES
  pub actions-long : states * tokens b ≤ actions
  pub gotos-long : states * rules b ≤ gotos
  pub few-tokens : input ≤ INPUT
  pub few-steps : limit ≤ STEPS
  pub some-slot : 1 ≤ stack

pub fitting : (b : List ℕ) (states actions gotos input limit stack : ℕ) → room_short b states actions gotos input limit stack ≡ false
    → Fits b states actions gotos input limit stack
unfolding room_short
fitting b states actions gotos input limit stack e =
    let (p1, e1) = at_least states 1 _ e in
    let (p2, e2) = at_least STATES states _ e1 in
    let (p3, e3) = at_least actions (states * tokens b) _ e2 in
    let (p4, e4) = at_least gotos (states * rules b) _ e3 in
    let (p5, e5) = at_least INPUT input _ e4 in
    let (p6, e6) = at_least STEPS limit _ e5 in
    let p7 = (at_least stack 1 [] e6).0 in
    record { some-states = p1; states-most = p2; actions-long = p3; gotos-long = p4; few-tokens = p5; few-steps = p6; some-slot = p7 }

-- ---- the run, from a stack cleared
module _ (b : List ℕ) (states : ℕ) (actions gotos input : List ℕ) (limit : ℕ) (stack output stack' : List ℕ) (z : length stack' ≡ length stack) where
  -- the lengths are all that it looks at
  same-machine : machine_of (called b states actions gotos input limit stack' output) ≡ machine_of (called b states actions gotos input limit stack output)
  unfolding machine_of
  same-machine =
      ap (λ (n : ℕ). is (machine (grammar_of b) (tables_in b states actions gotos) (record { steps = limit; stack = n; output = length output }) input)) z

  same-stack : (x : Answer Ended) → x ≡ machine_of (called b states actions gotos input limit stack output) → stack_of x stack' ≡ stack_of x stack
  unfolding machine_of
  same-stack x e = ap (λ (y : Answer Ended). stack_of y stack') e ∙ go (machine (grammar_of b) (tables_in b states actions gotos) (record { steps = limit; stack = length stack; output = length output }) input) ∙ ap (λ (y : Answer Ended). stack_of y stack) (sym e)
    where
      go : (y : Ended) → stack_of (is y) stack' ≡ stack_of (is y) stack
      go (ended why steps c) = ap (λ (n : ℕ). slots n c) z

  pub call-ran : (v : Answer (Verdict × Run)) (s o : List ℕ)
      → Leaves (called b states actions gotos input limit stack' output) (machine_of (called b states actions gotos input limit stack' output)) v s o
      → run_call (called b states actions gotos input limit stack output) ≡ machine_of (called b states actions gotos input limit stack output)
      → Leaves (called b states actions gotos input limit stack output) (run_call (called b states actions gotos input limit stack output)) v s o
  call-ran v s o L e =
      let f = same-machine ∙ sym e in (
        L.0 ∙ ap (told (length input)) f,
        (
          L.1.0 ∙ same-stack _ same-machine ∙ ap (λ (x : Answer Ended). stack_of x stack) f,
          L.1.1 ∙ ap (λ (x : Answer Ended). output_of x output) f,
        ),
      )

  -- what the steps begin with
  pub begun : refusal_of b ≡ 0 → is_short (called b states actions gotos input limit stack output) ≡ false
      → find (bad_token b) 0 input ≡ none → stack' ≡ replicate (length stack) 0
      → Begun (called b states actions gotos input limit stack' output)
  begun g e clean c =
      let f = fitting b states (length actions) (length gotos) (length input) limit (length stack) e in
      record {
        good = record { unrefused = g };
        some-states = f.some-states;
        states-most = f.states-most;
        actions-long = f.actions-long;
        gotos-long = f.gotos-long;
        few-steps = f.few-steps;
        some-slot = omega (arith, z, f.some-slot);
        passed = passed b input clean;
        stack-clear = c ∙ ap (λ (n : ℕ). replicate n 0) (sym z);
      }
