-- The numbers that the call `build` refuses with, and that its contract leaves one outcome. Assumes nothing.
use mathlib.Core.Bool.{Bool, true, false, ◌&&◌, ◌||◌, cond}
use mathlib.Core.List.{List, [], ◌∷◌}
use mathlib.Core.Logic.{inl, inr}
use mathlib.Core.Path.{◌≡◌, refl, sym, ap, subst, ◌∙◌}
use Prim.Native.Nat.{ℕ, zero, suc, ◌/◌, ◌%◌, ◌≤◌}
use native.Mathlib.Omega.{arith}
use lib.Dec.{ltb, eqb}
use lib.ListN.{length, get_or}
use Rattle.std.specs.Prelude.{Some, None, Result, Ok, Err}
use Rattle.knuth.specs.Tables.{Action}
use Rattle.block.specs.Block.{token_prec, end_token_of, start_prod}
use Rattle.block.specs.Refusal.{refusal_of}
use Rattle.block.specs.First.{Ahead, firsts_of}
use Rattle.block.specs.declared.refusal.BlockRefusal.TheVariants.{BadHeader, TooLarge, BadProduction, BadStart, BadSymbol, BadPrecedence}
use Rattle.pager.specs.Lists.{Answer, is, refused, walk, unless}
use Rattle.pager.specs.Place.{State}
use Rattle.pager.specs.Graph.{graph_of}
use Rattle.pager.specs.Collect.{collect_of}
use Rattle.pager.specs.Call.{or_else, graph_call}
use Rattle.pager.specs.CallRules.{Number}
use Rattle.pager.proofs.CallLaws.{call-graph}
use Rattle.pager.proofs.Refusals.{refusal-most, call-numbers}
use Rattle.statetable.specs.Cell.{encode, decode}
use Rattle.statetable.specs.Events.{Event, completes, leads, events_of}
use Rattle.statetable.specs.Verdict.{Verdict, writes, two-reduces, unsettled, settled, stops, precedence_of, on_reduce, by_kind, resolve, on_shift}
use Rattle.statetable.specs.Cells.{reduce-reduce, shift-reduce, Fill, write, offer, tell, with_rr, with_sr, settle, fill, fresh, fill_state, Rows, added, fill_next, no_rows, cells_of}
use Rattle.statetable.specs.Build.{Buffers, limits_of, caps_of, is_short, turned_away, with_rows, then_tables, build_of, build_call, answer_of}
use Rattle.statetable.specs.BuildRules.{Numbered, ClaimNumbers, ClaimOne}
use Rattle.statetable.specs.declared.records.Caps.{Caps}
use Rattle.statetable.specs.declared.call.Named.{Named}
use Rattle.statetable.specs.declared.call.Counts.{Counts}
use Rattle.statetable.specs.declared.refusal.BuildRefusal.{BuildRefusal}
use Rattle.statetable.specs.declared.refusal.BuildRefusal.TheVariants.{Block, RoomShort, StateRoom, ItemRoom, ConflictRoom, AcceptReduce, MixedKinds}
use Rattle.statetable.proofs.BuildLaws.{let-in, no-refusal, graph_long}

-- a refusal has one of the numbers, with its values
abbrev Well : {A : Type 0} → Answer A → Type 0
Well (is a) = Unit {0}
Well (refused why) = Numbered why

well-on : {A B : Type 0} (f : A → Answer B) (x : Answer A) → Well x → ((a : A) → Well (f a)) → Well {A = B} (elim x [ is a ↦ f a | refused e ↦ refused e ])
well-on f (is a) h k = k a
well-on f (refused e) h k = h

walk-well : {A B : Type 0} (f : A → B → Answer A) → ((a : A) (x : B) → Well (f a x)) → (a : A) (xs : List B) → Well (walk f a xs)
unfolding walk
walk-well f h a [] = tt
walk-well f h a (x ∷ xs) = well-on (λ c. walk f c xs) (f a x) (h a x) (λ c. walk-well f h c xs)

-- ---- the cells: 10, 11 or 12
abbrev Stops : Verdict → Type 0
Stops (writes w) = Unit {0}
Stops (two-reduces w a o) = Unit {0}
Stops (unsettled w p) = Unit {0}
Stops (settled w) = Unit {0}
Stops (stops values) = Numbered values

reduce-stops : (accepts : Bool) (p : ℕ) (a : Action) → Stops (on_reduce accepts p a)
reduce-stops accepts p Action.error = tt
reduce-stops accepts p (Action.shift u) = tt
reduce-stops accepts p Action.accept = inr (inl (0, p, refl))
reduce-stops true p (Action.reduce r) = inr (inl (suc r, p, refl))
reduce-stops false p (Action.reduce r) = tt

resolve-stops : (tp pp : ℕ) (sh re : Action) (t p s : ℕ) → Stops (resolve tp pp sh re (12 ∷ t ∷ p ∷ s ∷ []))
unfolding resolve
resolve-stops tp pp sh re t p s = go (ltb (tp / 4) (pp / 4)) (ltb (pp / 4) (tp / 4)) (eqb tp pp)
  where
    go : (x y z : Bool)
        → Stops (cond x (settled (encode re)) (cond y (settled (encode sh)) (cond z (settled (encode (by_kind (tp % 4) sh re))) (stops (12 ∷ t ∷ p ∷ s ∷ [])))))
    go true y z = tt
    go false true z = tt
    go false false true = tt
    go false false false = inr (inr (t, p, s, refl))

shift-stops : (b : List ℕ) (s t u : ℕ) (a : Action) → Stops (on_shift b s t u a)
shift-stops b s t u Action.error = tt
shift-stops b s t u (Action.shift v) = tt
shift-stops b s t u Action.accept = tt
shift-stops b s t u (Action.reduce p) = go (eqb (token_prec b t) 0 || eqb (precedence_of b p) 0)
  where
    go : (x : Bool) → Stops (cond x (unsettled (encode (Action.shift u)) p) (resolve (token_prec b t) (precedence_of b p) (Action.shift u) (Action.reduce p) (12 ∷ t ∷ p ∷ s ∷ [])))
    go true = tt
    go false = resolve-stops (token_prec b t) (precedence_of b p) (Action.shift u) (Action.reduce p) t p s

listed-well : (x : Bool) (f : Fill) → Well {A = Fill} (cond x (is f) (refused (10 ∷ [])))
listed-well true f = tt
listed-well false f = inl (10, refl, omega arith, omega arith)

settle-well : (m : Caps) (s t : ℕ) (v : Verdict) (f : Fill) → Stops v → Well (settle m s t v f)
unfolding settle
settle-well m s t (writes w) f h = tt
settle-well m s t (two-reduces w a o) f h =
    listed-well (ltb (length f.told.rr) m.rr) (write t w (tell (with_rr (reduce-reduce t a o s) f.told) f))
settle-well m s t (unsettled w p) f h =
    listed-well (ltb (length f.told.sr) m.sr) (write t w (tell (with_sr (shift-reduce t p s) f.told) f))
settle-well m s t (settled w) f h = tt
settle-well m s t (stops values) f h = h

module _ (b : List ℕ) (m : Caps) where
  fill-well : (s : ℕ) (f : Fill) (e : Event) → Well (fill b m s f e)
  unfolding fill
  fill-well s f (completes t p) =
      let accepts : Bool = eqb p (start_prod b) && eqb t (end_token_of b) in
      settle-well m s t (on_reduce accepts p (decode (get_or f.cells t 0))) (offer t f) (reduce-stops accepts p (decode (get_or f.cells t 0)))
  fill-well s f (leads t u) =
      settle-well m s t (on_shift b s t u (decode (get_or f.cells t 0))) (offer t f) (shift-stops b s t u (decode (get_or f.cells t 0)))

  added-well : (d : Rows) (x : Answer Fill) → Well x → Well (added d x)
  added-well d (is f) h = tt
  added-well d (refused why) h = h

  next-well : (F : List Ahead) (d : Rows) (st : State) → Well (fill_next b F m d st)
  unfolding fill_next fill_state
  next-well F d st =
      added-well d (fill_state b F m (length d.cells) d.told st)
      (walk-well (fill b m (length d.cells)) (fill-well (length d.cells)) (fresh b d.told) (events_of b F st))

  pub cells-well : (F : List Ahead) (ss : List State) → Well (cells_of b F m ss)
  unfolding cells_of
  cells-well F ss = walk-well (fill_next b F m) (next-well F) no_rows ss

-- ---- the call: 1 to 7 before the graph, 8 or 9 of it, 10 to 12 of the cells
away-most : (b : List ℕ) (n : Named) (l : Buffers) → turned_away b n l ≤ 7
unfolding turned_away
away-most b n l = go (refusal_of b) (refusal-most b) (is_short b n l)
  where
    go : (k : ℕ) → k ≤ 6 → (t : Bool) → or_else k (cond t 7 0) ≤ 7
    go zero h true = omega arith
    go zero h false = omega arith
    go (suc k) h t = omega arith

rows-well : (ks : List State) (before : ℕ) (x : Answer Rows) → Well x → Well (with_rows ks before x)
rows-well ks before (is d) h = tt
rows-well ks before (refused why) h = h

ten : {why : List ℕ} → Number 1 9 why → Numbered why
ten (n, e, lo, hi) = inl (n, e, lo, omega arith)

says : {A : Type 0} (x : Answer A) (why : List ℕ) → Well x → x ≡ refused why → Numbered why
says {A = A} x why h e = subst (λ (y : Answer A). Well y) e h

module _ (b : List ℕ) (n : Named) (l : Buffers) where
  tables-well : (a : Answer (List State)) → a ≡ graph_call b (limits_of n) l.graph → Well (then_tables b (caps_of n) a)
  tables-well (is ss) e = rows-well (collect_of ss) (length ss) (cells_of b (firsts_of b) (caps_of n) (collect_of ss)) (cells-well b (caps_of n) (firsts_of b) (collect_of ss))
  tables-well (refused why) e = ten (call-numbers b (limits_of n) l.graph why (sym e))

  build-well : turned_away b n l ≡ 0 → Well (build_of b n)
  unfolding build_of
  build-well z =
      let R = let-in b n l z in
      tables-well (graph_of b (firsts_of b) (limits_of n)) (call-graph b (limits_of n) l.graph (no-refusal R) (graph_long R)).0

pub build-numbers : ClaimNumbers
unfolding build_call
build-numbers b n l why e = says (build_call b n l) why (go (turned_away b n l) refl (away-most b n l)) e
  where
    go : (k : ℕ) → turned_away b n l ≡ k → k ≤ 7 → Well (unless k (build_of b n))
    go zero z h = build-well b n l z
    go (suc k) z h = inl (suc k, refl, omega arith, omega arith)

-- ---- one outcome
-- the answer read back
abbrev numbered : ℕ → BuildRefusal
numbered zero = ConflictRoom
numbered (suc zero) = Block BadHeader
numbered (suc (suc zero)) = Block TooLarge
numbered (suc (suc (suc zero))) = Block BadProduction
numbered (suc (suc (suc (suc zero)))) = Block BadStart
numbered (suc (suc (suc (suc (suc zero))))) = Block BadSymbol
numbered (suc (suc (suc (suc (suc (suc zero)))))) = Block BadPrecedence
numbered (suc (suc (suc (suc (suc (suc (suc zero))))))) = RoomShort
numbered (suc (suc (suc (suc (suc (suc (suc (suc zero)))))))) = StateRoom
numbered (suc (suc (suc (suc (suc (suc (suc (suc (suc zero))))))))) = ItemRoom
numbered (suc (suc (suc (suc (suc (suc (suc (suc (suc (suc k)))))))))) = ConflictRoom

abbrev accepting : ℕ → ℕ → BuildRefusal
accepting zero p = AcceptReduce None p
accepting (suc r) p = AcceptReduce (Some r) p

abbrev told-by : ℕ → List ℕ → BuildRefusal
told-by n [] = numbered n
told-by n (x ∷ []) = ConflictRoom
told-by n (x ∷ y ∷ []) = accepting x y
told-by n (x ∷ y ∷ z ∷ zs) = MixedKinds x y z

abbrev read_back : Answer Counts → Result Counts BuildRefusal
read_back (is k) = Ok k
read_back (refused []) = Err ConflictRoom
read_back (refused (n ∷ xs)) = Err (told-by n xs)

reads : (r : Result Counts BuildRefusal) → read_back (answer_of r) ≡ r
reads (Ok k) = refl
reads (Err (Block BadHeader)) = refl
reads (Err (Block TooLarge)) = refl
reads (Err (Block BadProduction)) = refl
reads (Err (Block BadStart)) = refl
reads (Err (Block BadSymbol)) = refl
reads (Err (Block BadPrecedence)) = refl
reads (Err RoomShort) = refl
reads (Err StateRoom) = refl
reads (Err ItemRoom) = refl
reads (Err ConflictRoom) = refl
reads (Err (AcceptReduce (Some r) p)) = refl
reads (Err (AcceptReduce None p)) = refl
reads (Err (MixedKinds t p s)) = refl

pub one-outcome : ClaimOne
one-outcome b n before r r' after after' A B =
    (sym (reads r) ∙ ap read_back (A.answer ∙ sym B.answer) ∙ reads r', A.buffers ∙ sym B.buffers)
