-- SAME RUN: a run looks at the cells and gotos of its tables' states alone. So tables that agree on these, as lent words with the tables of a
-- checked automaton, have the same run on every input. Assumes nothing.
use mathlib.Core.Bool.{Bool, true, false, ◌&&◌, not}
use mathlib.Core.List.Memᴰ
use mathlib.Core.List.{List, [], ◌∷◌, ◌++◌, Memᴰ}
use mathlib.Core.Logic.{⊎_elim}
use mathlib.Core.Option.{Option, none, some}
use mathlib.Core.Path.{◌≡◌, subst, ap, refl, sym, ◌∙◌}
use Prim.Native.Nat.{ℕ, ◌<◌, suc, zero}
use lib.Dec.{ltb, eqb, ltb→lt, leb}
use lib.ListN.{drop, length}
use Rattle.knuth.specs.Grammar.{Grammar, Valid}
use Rattle.knuth.specs.Tables.{Tables, Agree, Action, shift, reduce, accept, error}
use Rattle.knuth.specs.Machine.{Config, at, act, next, goes, accepted, rejected, bad-table, Outcome, guard, look, do-reduce, do-goto, Input}
use Rattle.knuth.specs.Limits.{Limits, outs, height, fits, within, run, machine}
use Rattle.knuth.proofs.Guards.{guarded, and_left}
use Rattle.knuth.proofs.Lists.{drop-within}
use Rattle.knuth.proofs.Runs.{after}
use Rattle.knuth.proofs.Steps.{Move, move, look-below}

module _ (G : Grammar) (ok : Valid G) (T T' : Tables) (h : Agree G T T') where
  -- The stack is of states, and the tokens that remain are an input.
  abbrev Inside : Config → Type 0
  Inside (at s st rest out) = ((x : ℕ) → Memᴰ x (s ∷ st) → x < T.states) × Input G rest

  -- ---- one step

  same-goto : (o : Option ℕ) (p s : ℕ) (st rest out : List ℕ) → do-goto T o p s st rest out ≡ do-goto T' o p s st rest out
  same-goto none p s st rest out = refl
  same-goto (some s') p s st rest out = ap (λ n. guard (ltb s' n) (goes (at s' (s ∷ st) rest (out ++ p ∷ [])))) h.states

  same-reduce : (p : ℕ) (l rest out : List ℕ) → p < G.prods → ((x : ℕ) → Memᴰ x l → x < T.states)
      → do-reduce G T p l rest out ≡ do-reduce G T' p l rest out
  same-reduce p [] rest out hp i = refl
  same-reduce p (s ∷ st) rest out hp i =
      ap (λ o. do-goto T o p s st rest out) (h.goto s (G.lhs p) (i s (Memᴰ.head refl)) (ok.lhs-in p hp))
      ∙ same-goto (T'.goto s (G.lhs p)) p s st rest out

  same-act : (a : Action) (s : ℕ) (st rest out : List ℕ) → Inside (at s st rest out) → act G T a s st rest out ≡ act G T' a s st rest out
  same-act (shift s') s st [] out i = refl
  same-act (shift s') s st (t ∷ v) out i = ap (λ n. guard (ltb s' n) (goes (at s' (s ∷ st) v out))) h.states
  same-act (reduce p) s st rest out i =
      let b = ltb p G.prods in
      let c = not (eqb p G.start) in
      guarded (b && c) _ _
      (λ z. same-reduce p (drop (length (G.body p)) (s ∷ st)) rest out (ltb→lt p G.prods (and_left b c z)) (λ x m. i.0 x (drop-within (length (G.body p)) (s ∷ st) m)))
  same-act accept s st [] out i = refl
  same-act accept s st (t ∷ v) out i = refl
  same-act error s st rest out i = refl

  same_next : (c : Config) → Inside c → next G T c ≡ next G T' c
  same_next (at s st rest out) i =
      ap (λ a. act G T a s st rest out) (h.action s (look G rest) (i.0 s (Memᴰ.head refl)) (look-below G ok rest i.1))
      ∙ same-act (T'.action s (look G rest)) s st rest out i

  stays : {c c' : Config} → Move G T c c' → Inside c → Inside c'
  stays (Move.shifts hs) i =
      (λ x m. ⊎_elim (λ e. subst (λ y. y < T.states) (sym e) hs) (i.0 x) (Memᴰ.cases_cons m), λ t m. i.1 t (Memᴰ.tail m))
  stays (Move.reduces {s = s} {p = p} {st = st} hp e hs) i = (
    λ x m.
        ⊎_elim (λ z. subst (λ y. y < T.states) (sym z) hs) (λ k. i.0 x (drop-within (length (G.body p)) (s ∷ st) (subst (λ l. Memᴰ x l) (sym e) k)))
        (Memᴰ.cases_cons m),
    i.1,
  )

  -- ---- the run

  same-steps : (L : Limits) (k n : ℕ) (c : Config) → Inside c → run G T L k n c ≡ run G T' L k n c
  same-steps L zero n c i = refl
  same-steps L (suc k) n c i =
      go (λ b e. same-steps L k (suc n) b (stays (move G T c b e) i)) (next G T c) refl
      ∙ ap (λ x. after G T' L (within L x) k n c) (same_next c i)
    where
      moved : (b : Config) → run G T L k (suc n) b ≡ run G T' L k (suc n) b → (x y : Bool)
          → after G T L (fits x y b) k n c ≡ after G T' L (fits x y b) k n c
      moved b e false y = refl
      moved b e true false = refl
      moved b e true true = e

      go : ((b : Config) → next G T c ≡ goes b → run G T L k (suc n) b ≡ run G T' L k (suc n) b) → (x : Outcome) → next G T c ≡ x
          → after G T L (within L x) k n c ≡ after G T' L (within L x) k n c
      go rec (goes b) e = moved b (rec b e) (leb (length (outs b)) L.output) (leb (height b) L.stack)
      go rec (accepted ρ) e = refl
      go rec rejected e = refl
      go rec bad-table e = refl

  -- SAME RUN
  pub same-run : zero < T.states → (L : Limits) (w : List ℕ) → Input G w → machine G T L w ≡ machine G T' L w
  same-run hz L w i = same-steps L L.steps zero (at zero [] w []) (λ x m. subst (λ y. y < T.states) (sym (Memᴰ.eq_of_singleton m)) hz, i)
