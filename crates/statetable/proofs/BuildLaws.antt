-- The ways out of the call `build`, and the rooms of a call that is not turned away. Assumes nothing.
use mathlib.Core.Bool.{Bool, true, false, ◌||◌, cond}
use mathlib.Core.List.{List, [], ◌∷◌}
use mathlib.Core.Path.{◌≡◌, refl, sym, ap, ◌∙◌}
use Prim.Native.Nat.{ℕ, zero, suc, ◌*◌, ◌≤◌}
use native.Mathlib.Omega.{arith}
use lib.ListN.{length}
use Rattle.block.specs.Block.{tokens, rules, prods}
use Rattle.block.specs.Refusal.{refusal_of}
use Rattle.block.specs.Refused.{number_of}
use Rattle.block.specs.declared.refusal.BlockRefusal.{BlockRefusal}
use Rattle.block.specs.declared.refusal.BlockRefusal.TheVariants.{BadHeader, TooLarge, BadProduction, BadStart, BadSymbol, BadPrecedence}
use Rattle.pager.specs.Lists.{refused, unless, unchanged}
use Rattle.pager.specs.Held.{STATES}
use Rattle.pager.specs.Call as graph
use Rattle.pager.specs.Call.{or_else}
use Rattle.pager.specs.CallSteps as steps
use Rattle.pager.proofs.CallLaws.{roomy, at_least}
use Rattle.statetable.specs.Limits.{RECORDS, RR, SR}
use Rattle.statetable.specs.Build.{Buffers, limits_of, tables_short, is_short, turned_away, build_of, build_call, written, leaves}
use Rattle.statetable.specs.BuildSteps.{Roomy}
use Rattle.statetable.specs.declared.call.Named.{Named}

-- ---- the rooms of tables, marks and lists
-- every table, mark and list has the room that the named sizes need
pub record Tables (b : List ℕ) (n : Named) (l : Buffers) : Type 0 where
  pub rr-fair : n.rr ≤ RECORDS
  pub sr-fair : n.sr ≤ RECORDS
  pub actions : n.states * tokens b ≤ length l.actions
  pub gotos : n.states * rules b ≤ length l.gotos
  pub offered : n.states * tokens b ≤ length l.offered
  pub shifts : n.states * tokens b ≤ length l.shifts
  pub cores : n.states * prods b ≤ length l.cores
  pub only : n.states ≤ length l.only
  pub rr : RR * n.rr ≤ length l.rr
  pub sr : SR * n.sr ≤ length l.sr

abbrev pub tables-short : List ℕ → Named → Buffers → Bool
tables-short b n l =
    tables_short b n (length l.actions) (length l.gotos) (length l.offered) (length l.shifts) (length l.cores) (length l.only) (length l.rr) (length l.sr)

tables-roomy : (b : List ℕ) (n : Named) (l : Buffers) → tables-short b n l ≡ false → Tables b n l
unfolding tables_short
tables-roomy b n l e =
    let (p1, e1) = at_least RECORDS n.rr _ e in
    let (p2, e2) = at_least RECORDS n.sr _ e1 in
    let (p3, e3) = at_least (length l.actions) (n.states * tokens b) _ e2 in
    let (p4, e4) = at_least (length l.gotos) (n.states * rules b) _ e3 in
    let (p5, e5) = at_least (length l.offered) (n.states * tokens b) _ e4 in
    let (p6, e6) = at_least (length l.shifts) (n.states * tokens b) _ e5 in
    let (p7, e7) = at_least (length l.cores) (n.states * prods b) _ e6 in
    let (p8, e8) = at_least (length l.only) n.states _ e7 in
    let (p9, e9) = at_least (length l.rr) (RR * n.rr) _ e8 in
    record {
      rr-fair = p1;
      sr-fair = p2;
      actions = p3;
      gotos = p4;
      offered = p5;
      shifts = p6;
      cores = p7;
      only = p8;
      rr = p9;
      sr = (at_least (length l.sr) (SR * n.sr) [] e9).0;
    }

-- ---- a call that is not turned away: the block is good, and neither test finds a short room
else-zero : (n k : ℕ) → or_else n k ≡ 0 → (n ≡ 0) × (k ≡ 0)
else-zero zero k e = (refl, e)
else-zero (suc n) k e = absurd (omega arith)

neither : (x y : Bool) → ◌≡◌ {A = ℕ} (cond (x || y) 7 0) 0 → (x ≡ false) × (y ≡ false)
neither true y e = absurd (omega arith)
neither false true e = absurd (omega arith)
neither false false e = (refl, refl)

pub let-in : (b : List ℕ) (n : Named) (l : Buffers) → turned_away b n l ≡ 0 → Roomy b n l
unfolding turned_away
let-in b n l e = record { good = record { unrefused = (else-zero (refusal_of b) (cond (is_short b n l) 7 0) e).0 }; room = e }

module _ {b : List ℕ} {n : Named} {l : Buffers} (R : Roomy b n l) where
  unrefused : (refusal_of b ≡ 0) × ◌≡◌ {A = ℕ} (cond (is_short b n l) 7 0) 0
  unfolding turned_away
  unrefused = else-zero (refusal_of b) (cond (is_short b n l) 7 0) R.room

  pub no-refusal : refusal_of b ≡ 0
  no-refusal = unrefused.0

  long : (graph.is_short b (limits_of n) l.graph ≡ false) × (tables-short b n l ≡ false)
  long = neither (graph.is_short b (limits_of n) l.graph) (tables-short b n l) unrefused.1

  pub graph_long : graph.is_short b (limits_of n) l.graph ≡ false
  graph_long = long.0

  pub graph-room : steps.Roomy b (record { states = n.states; items = n.items }) l.graph
  graph-room = roomy b (record { states = n.states; items = n.items }) l.graph no-refusal graph_long

  pub tables-room : Tables b n l
  tables-room = tables-roomy b n l long.1

-- a refusal of a block has a number above 0
pub some-number : (e : BlockRefusal) → number_of e ≡ 0 → ⊥
some-number BadHeader e = absurd (omega arith)
some-number TooLarge e = absurd (omega arith)
some-number BadProduction e = absurd (omega arith)
some-number BadStart e = absurd (omega arith)
some-number BadSymbol e = absurd (omega arith)
some-number BadPrecedence e = absurd (omega arith)

-- ---- the ways out
module _ (b : List ℕ) (n : Named) (l : Buffers) where
  away : (k : ℕ) → turned_away b n l ≡ k → (unless k (build_of b n) ≡ build_call b n l) × (unchanged k l (written (build_of b n) b n l) ≡ leaves b n l)
  unfolding build_call leaves
  away k e = (ap (λ (j : ℕ). unless j (build_of b n)) (sym e), ap (λ (j : ℕ). unchanged j l (written (build_of b n) b n l)) (sym e))

  -- 1 to 6
  pub call-bad : (k : ℕ) → k ≡ refusal_of b → (k ≡ 0 → ⊥) → (refused (k ∷ []) ≡ build_call b n l) × (l ≡ leaves b n l)
  unfolding turned_away
  call-bad zero e d = absurd (d refl)
  call-bad (suc k) e d = away (suc k) (ap (λ (j : ℕ). or_else j (cond (is_short b n l) 7 0)) (sym e))

  tested : (x y : Bool) → refusal_of b ≡ 0 → graph.is_short b (limits_of n) l.graph ≡ x → tables-short b n l ≡ y → turned_away b n l ≡ cond (x || y) 7 0
  unfolding turned_away
  tested x y e f g =
      ap (λ (j : ℕ). or_else j (cond (is_short b n l) 7 0)) e
      ∙ ap (λ (z : Bool). cond (z || tables-short b n l) 7 0) f
      ∙ ap (λ (z : Bool). cond (x || z) 7 0) g

  -- 7, by a buffer of the graph
  pub call-short : refusal_of b ≡ 0 → graph.is_short b (limits_of n) l.graph ≡ true → (refused (7 ∷ []) ≡ build_call b n l) × (l ≡ leaves b n l)
  call-short e f = away 7 (tested true (tables-short b n l) e f refl)

  -- rooms of the graph that are not short: no more states are named than there may be
  pub states-few : refusal_of b ≡ 0 → graph.is_short b (limits_of n) l.graph ≡ false → n.states ≤ STATES
  states-few e f = (roomy b (record { states = n.states; items = n.items }) l.graph e f).fair.states

  -- 7, by a table, a mark or a list
  pub call-tables-short : refusal_of b ≡ 0 → graph.is_short b (limits_of n) l.graph ≡ false → tables-short b n l ≡ true
      → (refused (7 ∷ []) ≡ build_call b n l) × (l ≡ leaves b n l)
  call-tables-short e f g = away 7 (tested false true e f g)

  -- no 7
  pub call-roomy : refusal_of b ≡ 0 → graph.is_short b (limits_of n) l.graph ≡ false → tables-short b n l ≡ false → Roomy b n l
  call-roomy e f g = record { good = record { unrefused = e }; room = tested false false e f g }

  -- graph and tables
  pub call-made : Roomy b n l → (build_of b n ≡ build_call b n l) × (written (build_of b n) b n l ≡ leaves b n l)
  call-made R = away 0 R.room
