-- A reduce: refused for its table, for the output's room or the stack's, or done. Assumes nothing.
use mathlib.Core.Bool.{Bool, true, false, ◌&&◌, not, cond, and-false}
use mathlib.Core.List.Memᴰ
use mathlib.Core.List.{List, [], ◌∷◌, ◌++◌, append_assoc, reverse, reverse-cons, reverse-append, Memᴰ}
use mathlib.Core.Logic.{⊎_elim}
use mathlib.Core.Path.{◌≡◌, refl, sym, ap, ◌∙◌, subst}
use Prim.Native.Nat.{ℕ, zero, suc, ◌+◌, ◌*◌, ◌-◌, ◌≤◌, ◌<◌}
use native.Mathlib.Numerals.{add-one}
use native.Mathlib.Omega.{arith}
use borrow.Author.Tests.{lt-ltb, le-ltb, le-leb, lt-leb, ltb-true, eq-eqb, ne_eqb}
use lib.Dec.{ltb, leb, eqb}
use lib.ListN.{length, get_or, set, take, drop, replicate, length-append, length-set, length-map, length-reverse, length-drop, take-append-drop, drop_of_length-le, replicate-append-replicate}
use lib.Seq.{set_at, take_at, drop_at, get_or_at, drop-cons}
use Rattle.std.specs.Prelude.{Option, Some, None, Result, Ok, Err}
use Rattle.knuth.specs.Tables.{Tables, Action}
use Rattle.knuth.specs.Machine.{Config, at, guard, goes, bad-table, do-goto, do-reduce}
use Rattle.knuth.specs.Limits.{Why, fits, within}
use Rattle.knuth.proofs.Lists.{drop-mem, drop-within}
use Rattle.block.specs.Block.{prods, rules, start_prod, rule_of, length_of, body_of}
use Rattle.block.specs.Grammar.{symbol, grammar_of}
use Rattle.block.specs.Refusal.{Good}
use Rattle.block.proofs.Good.{body-length}
use Rattle.pager.specs.Automaton.{target}
use Rattle.pager.specs.Memory.{pad}
use Rattle.statetable.specs.Read.{tables_in}
use Rattle.machine.specs.Memory.{cleared, state_in}
use Rattle.machine.specs.Moves.{lent, doing, Ready, Stepped}
use Rattle.machine.specs.declared.answers.Run.{Run}
use Rattle.machine.specs.declared.answers.Step.{Step}
use Rattle.machine.specs.declared.answers.Step.TheVariants.{On}
use Rattle.machine.specs.declared.answers.StepRefusal.{StepRefusal}
use Rattle.machine.specs.declared.answers.StepRefusal.TheVariants.{StackRoom, OutputRoom, BadTable}
use Rattle.machine.proofs.Standing.{run_is, output-length, height-is, k-is, stays, goes_on}
use Rattle.machine.proofs.Shifts.{store-top, room-output, room-stack, room-both}

-- ---- the stack below a body
-- n states popped from the top leave the first ones
pub popped : (l : List ℕ) (n s : ℕ) (st : List ℕ) → drop n l ≡ s ∷ st → reverse l ≡ reverse (s ∷ st) ++ reverse (take n l)
popped l n s st e = ap reverse (sym (take-append-drop n l) ∙ ap (λ (t : List ℕ). take n l ++ t) e) ∙ reverse-append (take n l) (s ∷ st)

-- the state left on top
pub left-top : (l : List ℕ) (n s : ℕ) (st : List ℕ) → drop n l ≡ s ∷ st → (N i : ℕ) → i ≡ length st → get_or (pad N (reverse l)) i 0 ≡ s
unfolding pad
left-top l n s st e N i q =
    let z : List ℕ = replicate (N - length (reverse l)) 0 in
    ap (λ (t : List ℕ). get_or (t ++ z) i 0) (popped l n s st e ∙ ap (λ (t : List ℕ). t ++ reverse (take n l)) (reverse-cons s st))
    ∙ ap (λ (t : List ℕ). get_or t i 0)
    (append_assoc (reverse st ++ (s ∷ [])) (reverse (take n l)) z ∙ append_assoc (reverse st) (s ∷ []) (reverse (take n l) ++ z))
    ∙ get_or_at (reverse st) s (reverse (take n l) ++ z) 0 i (length-reverse st ∙ sym q)

-- the popped slots cleared
pub pop-clear : (N i h : ℕ) (ys zs : List ℕ) → length ys ≡ i → length (ys ++ zs) ≡ h → h ≤ N → cleared i h (pad N (ys ++ zs)) ≡ pad N ys
unfolding pad
pop-clear N i h ys zs p q l =
    let m : ℕ = N - length (ys ++ zs) in
    let a : take i ((ys ++ zs) ++ replicate m 0) ≡ ys = ap (take i) (append_assoc ys zs (replicate m 0)) ∙ take_at ys (zs ++ replicate m 0) i p in
    let d : drop h ((ys ++ zs) ++ replicate m 0) ≡ replicate m 0 = drop_at (ys ++ zs) (replicate m 0) h q in
    let e : (h - i) + m ≡ N - length ys = omega (arith, length-append ys zs) in
    rw (a, d) (ap (λ (t : List ℕ). ys ++ t) (replicate-append-replicate (h - i) m 0 ∙ ap (λ (n : ℕ). replicate n 0) e))

-- ---- the output, one word longer
pub out-more : (out old : List ℕ) (k p : ℕ) → k ≡ length out → k < length old
    → set (out ++ drop (length out) old) k p ≡ (out ++ (p ∷ [])) ++ drop (length (out ++ (p ∷ []))) old
out-more out old k p e l =
    ap (λ (t : List ℕ). set (out ++ t) k p) (drop-cons old (length out) 0 (omega arith))
    ∙ set_at out (get_or old (length out) 0) (drop (suc (length out)) old) p k (sym e)
    ∙ sym (append_assoc out (p ∷ []) (drop (suc (length out)) old))
    ∙ ap (λ (n : ℕ). (out ++ (p ∷ [])) ++ drop n old) (sym (length-append out (p ∷ []) ∙ add-one (length out)))

-- ---- the goto word
module _ (T : Tables) (p s : ℕ) (st rest out : List ℕ) where
  -- there is none, or it is to no state
  pub goto-bad : (w : ℕ) → ((e : ℕ) → state_in T.states w ≡ Some e → ⊥) → do-goto T (target w) p s st rest out ≡ bad-table
  goto-bad zero d = refl
  goto-bad (suc w) d = go (ltb w T.states) d
    where
      go : (x : Bool) → ((e : ℕ) → ◌≡◌ {A = Option ℕ} (cond x (Some w) None) (Some e) → ⊥) → guard x (goes (at w (s ∷ st) rest (out ++ p ∷ []))) ≡ bad-table
      go true d = absurd (d w refl)
      go false d = refl

  pub goto-good : (w e : ℕ) → Some e ≡ state_in T.states w
      → (e < T.states) × (do-goto T (target w) p s st rest out ≡ goes (at e (s ∷ st) rest (out ++ p ∷ [])))
  goto-good zero e q = cc
  goto-good (suc w) e q = go (ltb w T.states) refl q
    where
      go : (x : Bool) → ltb w T.states ≡ x → ◌≡◌ {A = Option ℕ} (Some e) (cond x (Some w) None)
          → (e < T.states) × (do-goto T (target (suc w)) p s st rest out ≡ goes (at e (s ∷ st) rest (out ++ p ∷ [])))
      go false f z = cc
      go true f z =
          let r : w ≡ e = cc in
          let h : w < T.states = ltb-true w T.states f in (
            omega arith,
            ap (λ (x : Bool). guard x (goes (at w (s ∷ st) rest (out ++ p ∷ [])))) f
                ∙ ap (λ (x : ℕ). goes (at x (s ∷ st) rest (out ++ p ∷ []))) r,
          )

-- ---- the production
abbrev inner : List ℕ → ℕ → Bool
inner b p = ltb p (prods b) && not (eqb p (start_prod b))

-- n productions, the start production q
module _ (b : List ℕ) (n q : ℕ) (e : n ≡ prods b) (f : q ≡ start_prod b) (p : ℕ) where
  pub past-prods : n ≤ p → inner b p ≡ false
  past-prods h = ap (λ (x : Bool). x && not (eqb p (start_prod b))) (le-ltb p (prods b) (omega (arith, e, h)))

  pub start-prod : p ≡ q → inner b p ≡ false
  start-prod h =
      ap (λ (x : Bool). ltb p (prods b) && not x) (eq-eqb p (start_prod b) (h ∙ f)) ∙ and-false (ltb p (prods b))

  inner-prod : p < n → (p ≡ q → ⊥) → inner b p ≡ true
  inner-prod h d =
      ap (λ (x : Bool). x && not (eqb p (start_prod b))) (lt-ltb p (prods b) (omega (arith, e, h)))
      ∙ ap not (ne_eqb p (start_prod b) (λ k. d (k ∙ sym f)))

-- a production that may be reduced, of n symbols
pub record Reducible (b : List ℕ) (p n : ℕ) : Type 0 where
  pub may : inner b p ≡ true
  pub len : n ≡ length ((grammar_of b).body p)

pub reducible : {b : List ℕ} (p : ℕ) → Good b → (m : ℕ) → m ≡ prods b → (q : ℕ) → q ≡ start_prod b → p < m → (p ≡ q → ⊥) → (n : ℕ) → n ≡ length_of b p → Reducible b p n
reducible {b = b} p g m e q f h d n l =
    record {
      may = inner-prod b m q e f p h d;
      len = l ∙ sym (length-map (body_of b p) symbol ∙ body-length p (record { good = g; below = omega (arith, e, h) }));
    }

-- ---- the step
abbrev Reduced : List ℕ → ℕ → (actions gotos input : List ℕ) → Run → Config → (stack output old : List ℕ) → ℕ → Result Step StepRefusal → (stack' output' : List ℕ) → Type 0
Reduced b states actions gotos input run c stack output old p r stack' output' =
    Stepped states input run c (within (lent zero stack output) (doing (grammar_of b) (tables_in b states actions gotos) (Action.reduce p) c)) r stack' output' old

module _ {b actions gotos input stack output old : List ℕ} {states : ℕ} {run : Run} (p : ℕ) where
  -- 17: of no production or of the start production
  pub reduce-unknown : (c : Config) → Ready b states actions gotos input run stack output old c → inner b p ≡ false
      → Reduced b states actions gotos input run c stack output old p (Err BadTable) stack output
  reduce-unknown (at s st rest out) R h =
      stays R Why.bad _
      (ap (λ (x : Bool). within (lent zero stack output) (guard x (do-reduce (grammar_of b) (tables_in b states actions gotos) p (drop (length ((grammar_of b).body p)) (s ∷ st)) rest out))) h) _ refl

-- what is left of the stack decides
left : (b : List ℕ) (states : ℕ) (actions gotos stack output : List ℕ) (p : ℕ) → inner b p ≡ true → (n : ℕ) → n ≡ length ((grammar_of b).body p)
    → (s : ℕ) (st rest out l : List ℕ) → drop n (s ∷ st) ≡ l
    → within (lent zero stack output) (doing (grammar_of b) (tables_in b states actions gotos) (Action.reduce p) (at s st rest out))
    ≡ within (lent zero stack output) (do-reduce (grammar_of b) (tables_in b states actions gotos) p l rest out)
left b states actions gotos stack output p good n len s st rest out l e =
    let G = grammar_of b in
    let T = tables_in b states actions gotos in
    ap (λ (x : Bool). within (lent zero stack output) (guard x (do-reduce G T p (drop (length (G.body p)) (s ∷ st)) rest out))) good
    ∙ ap (λ (x : List ℕ). within (lent zero stack output) (do-reduce G T p x rest out)) (ap (λ (k : ℕ). drop k (s ∷ st)) (sym len) ∙ e)

module _ {b actions gotos input stack output old : List ℕ} {states : ℕ} {run : Run} (p n : ℕ) (I : Reducible b p n) where
  -- 17: fewer slots above the first than its length
  pub reduce-shallow : (c : Config) → Ready b states actions gotos input run stack output old c → run.height ≤ n
      → Reduced b states actions gotos input run c stack output old p (Err BadTable) stack output
  reduce-shallow (at s st rest out) R h =
      stays R Why.bad _
      (left b states actions gotos stack output p I.may n I.len s st rest out [] (drop_of_length-le (s ∷ st) {i = n} (omega (arith, height-is R)))) _ refl

  module _ (s : ℕ) (st rest out : List ℕ) (R : Ready b states actions gotos input run stack output old (at s st rest out)) (deep : n < run.height) where
    -- the state and the states below it, once the body is popped
    abbrev base : ℕ
    base = get_or (s ∷ st) n 0

    abbrev under : List ℕ
    under = drop (suc n) (s ∷ st)

    split : drop n (s ∷ st) ≡ base ∷ under
    split = drop-cons (s ∷ st) n 0 (omega (arith, height-is R))

    under-length : length under ≡ run.height - n - 1
    under-length = length-drop (suc n) (s ∷ st) ∙ omega (arith, height-is R)

    base-is : get_or stack (run.height - n - 1) 0 ≡ base
    base-is =
        ap (λ (t : List ℕ). get_or t (run.height - n - 1) 0) R.lies.stack_is
        ∙ left-top (s ∷ st) n base under split (length stack) (run.height - n - 1) (sym under-length)

    base-known : base < states
    base-known = R.lies.known base (drop-mem n (s ∷ st) split)

    to-goto : (w : ℕ) → w ≡ get_or gotos (get_or stack (run.height - n - 1) 0 * rules b + rule_of b p) 0
        → within (lent zero stack output) (doing (grammar_of b) (tables_in b states actions gotos) (Action.reduce p) (at s st rest out))
        ≡ within (lent zero stack output) (do-goto (tables_in b states actions gotos) (target w) p base under rest out)
    to-goto w q =
        left b states actions gotos stack output p I.may n I.len s st rest out (base ∷ under) split
        ∙ ap (λ (x : ℕ). within (lent zero stack output) (do-goto (tables_in b states actions gotos) (target x) p base under rest out))
        (ap (λ (x : ℕ). get_or gotos (x * rules b + rule_of b p) 0) (sym base-is) ∙ sym q)

    module _ (word : ℕ) (read : word ≡ get_or gotos (get_or stack (run.height - n - 1) 0 * rules b + rule_of b p) 0) where
      nowhere : ((e : ℕ) → state_in states word ≡ Some e → ⊥) → Reduced b states actions gotos input run (at s st rest out) stack output old p (Err BadTable) stack output
      nowhere e =
          stays R Why.bad _
          (to-goto word read ∙ ap (within (lent zero stack output)) (goto-bad (tables_in b states actions gotos) p base under rest out word e)) _ refl

      module _ (e : ℕ) (is : Some e ≡ state_in states word) where
        abbrev after : Config
        after = at e (base ∷ under) rest (out ++ p ∷ [])

        to-fits : within (lent zero stack output) (doing (grammar_of b) (tables_in b states actions gotos) (Action.reduce p) (at s st rest out))
            ≡ fits (leb (length (out ++ p ∷ [])) (length output)) (leb (suc (suc (length under))) (length stack)) after
        to-fits =
            to-goto word read
            ∙ ap (within (lent zero stack output)) (goto-good (tables_in b states actions gotos) p base under rest out word e is).1

        out-length : length (out ++ p ∷ []) ≡ run.k + 1
        out-length = omega (arith, length-append out (p ∷ []), k-is R)

        full-output : length output ≤ run.k → Reduced b states actions gotos input run (at s st rest out) stack output old p (Err OutputRoom) stack output
        full-output h =
            stays R Why.output-room _
            (to-fits ∙ room-output (leb (length (out ++ p ∷ [])) (length output)) (leb (suc (suc (length under))) (length stack)) after
            (lt-leb (length (out ++ p ∷ [])) (length output) (omega (arith, out-length)))) _ refl

        module _ (l : run.k < length output) where
          full-stack : length stack ≤ run.height - n → Reduced b states actions gotos input run (at s st rest out) stack output old p (Err StackRoom) stack output
          full-stack h =
              stays R Why.stack-room _
              (to-fits ∙ room-stack (leb (length (out ++ p ∷ [])) (length output)) (leb (suc (suc (length under))) (length stack)) after
              (le-leb (length (out ++ p ∷ [])) (length output) (omega (arith, out-length)))
              (lt-leb (suc (suc (length under))) (length stack) (omega (arith, under-length)))) _ refl

          -- the stack after the pops and the goto
          pops : cleared (run.height - n) run.height stack ≡ pad (length stack) (reverse (base ∷ under))
          pops =
              ap (cleared (run.height - n) run.height) (R.lies.stack_is ∙ ap (pad (length stack)) (popped (s ∷ st) n base under split))
              ∙ pop-clear (length stack) (run.height - n) run.height (reverse (base ∷ under)) (reverse (take n (s ∷ st)))
              (length-reverse (base ∷ under) ∙ omega (arith, under-length))
              (ap length (sym (popped (s ∷ st) n base under split)) ∙ length-reverse (s ∷ st) ∙ sym (height-is R))
              (omega (arith, height-is R, R.lies.stack-fits))

          went : (stack'' stack' output' : List ℕ) → stack'' ≡ cleared (run.height - n) run.height stack → length stack'' ≡ length stack
              → run.height - n < length stack
              → stack' ≡ set stack'' (run.height - n) e → output' ≡ set output run.k p
              → Reduced b states actions gotos input run (at s st rest out) stack output old p
              (Ok (On (record { at = run.at; k = run.k + 1; steps = run.steps + 1; height = run.height - n + 1 }))) stack' output'
          went stack'' stack' output' q z h f g =
              goes_on R after _
              (to-fits ∙ room-both (leb (length (out ++ p ∷ [])) (length output)) (leb (suc (suc (length under))) (length stack)) after
              (le-leb (length (out ++ p ∷ [])) (length output) (omega (arith, out-length)))
              (le-leb (suc (suc (length under))) (length stack) (omega (arith, under-length)))) _
              (run_is (ap (λ (r : Run). r.at) R.run_is) (sym out-length) (add-one run.steps) (omega (arith, under-length))) _ _
              record {
                stack_is =
                    f
                    ∙ store-top stack'' (reverse (base ∷ under)) (run.height - n) e
                    (q ∙ pops ∙ ap (λ (m : ℕ). pad m (reverse (base ∷ under))) (sym z)) (length-reverse (base ∷ under) ∙ omega (arith, under-length)) (omega (arith, z))
                    ∙ ap (pad (length (set stack'' (run.height - n) e))) (sym (reverse-cons e (base ∷ under)))
                    ∙ ap (λ (m : ℕ). pad m (reverse (e ∷ base ∷ under))) (ap length (sym f));
                stack-fits = omega (arith, under-length, ap length f, length-set stack'' (run.height - n) e, z);
                output-is =
                    g ∙ ap (λ (t : List ℕ). set t run.k p) R.lies.output-is
                    ∙ out-more out old run.k p (k-is R) (omega (arith, output-length R.lies));
                output-fits = omega (arith, out-length, output-length R.lies);
                taken = R.lies.taken;
                input-is = R.lies.input-is;
                known =
                    λ x m.
                    ⊎_elim (λ (y : x ≡ e). subst (λ (i : ℕ). i < states) (sym y) (goto-good (tables_in b states actions gotos) p base under rest out word e is).0)
                    (λ k. R.lies.known x (drop-within n (s ∷ st) (subst (λ (t : List ℕ). Memᴰ x t) (sym split) k))) (Memᴰ.cases_cons m);
              }

  module _ (c : Config) (R : Ready b states actions gotos input run stack output old c) (deep : n < run.height) where
    -- the state that the goto is read for is one
    pub below-known : get_or stack (run.height - n - 1) 0 < states
    below-known = go c R
      where
        go : (d : Config) → Ready b states actions gotos input run stack output old d → get_or stack (run.height - n - 1) 0 < states
        go (at s st rest out) Q = subst (λ (i : ℕ). i < states) (sym (base-is s st rest out Q deep)) (base-known s st rest out Q deep)

  -- 17: no goto to a state
  pub reduce-nowhere : (c : Config) → Ready b states actions gotos input run stack output old c → n < run.height
      → (w : ℕ) → w ≡ get_or gotos (get_or stack (run.height - n - 1) 0 * rules b + rule_of b p) 0
      → ((e : ℕ) → state_in states w ≡ Some e → ⊥)
      → Reduced b states actions gotos input run c stack output old p (Err BadTable) stack output
  reduce-nowhere (at s st rest out) R deep w r is = nowhere s st rest out R deep w r is

  -- 15
  pub reduce-full-output : (c : Config) → Ready b states actions gotos input run stack output old c → n < run.height
      → (w : ℕ) → w ≡ get_or gotos (get_or stack (run.height - n - 1) 0 * rules b + rule_of b p) 0
      → (e : ℕ) → Some e ≡ state_in states w → length output ≤ run.k
      → Reduced b states actions gotos input run c stack output old p (Err OutputRoom) stack output
  reduce-full-output (at s st rest out) R deep w r e is h = full-output s st rest out R deep w r e is h

  -- 14
  pub reduce-full-stack : (c : Config) → Ready b states actions gotos input run stack output old c → n < run.height
      → (w : ℕ) → w ≡ get_or gotos (get_or stack (run.height - n - 1) 0 * rules b + rule_of b p) 0
      → (e : ℕ) → Some e ≡ state_in states w → run.k < length output
      → length stack ≤ run.height - n
      → Reduced b states actions gotos input run c stack output old p (Err StackRoom) stack output
  reduce-full-stack (at s st rest out) R deep w r e is l h = full-stack s st rest out R deep w r e is l h

  pub reduce-goes : (c : Config) → Ready b states actions gotos input run stack output old c → n < run.height
      → (w : ℕ) → w ≡ get_or gotos (get_or stack (run.height - n - 1) 0 * rules b + rule_of b p) 0
      → (e : ℕ) → Some e ≡ state_in states w → run.k < length output
      → run.height - n < length stack
      → (stack'' : List ℕ) → stack'' ≡ cleared (run.height - n) run.height stack → length stack'' ≡ length stack
      → Reduced b states actions gotos input run c stack output old p
      (Ok (On (record { at = run.at; k = run.k + 1; steps = run.steps + 1; height = run.height - n + 1 }))) (set stack'' (run.height - n) e) (set output run.k p)
  reduce-goes (at s st rest out) R deep w r e is l h stack'' q z = went s st rest out R deep w r e is l stack'' _ _ q z h refl refl
