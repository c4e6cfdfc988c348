-- What one step of the machine is, over any tables. Assumes nothing.
use mathlib.Core.Bool.{◌&&◌, not}
use mathlib.Core.List.Memᴰ
use mathlib.Core.List.{List, ◌∷◌, ◌++◌, []}
use mathlib.Core.Logic.{◌≢◌}
use mathlib.Core.Option.{Option, none, some}
use mathlib.Core.Path.{◌≡◌, subst, refl, ap, ◌∙◌}
use Prim.Native.Nat.{ℕ, ◌<◌}
use native.Mathlib.Omega.{arith}
use lib.Dec.{ltb, eqb, ltb→lt}
use lib.ListN.{drop, length}
use Rattle.knuth.specs.Grammar.{Grammar, Valid}
use Rattle.knuth.specs.Tables.{Tables, Action, shift, reduce, accept, error}
use Rattle.knuth.specs.Machine.{Config, at, act, next, goes, accepted, guard, look, do-reduce, do-goto, Input}
use Rattle.knuth.specs.Limits.{outs}
use Rattle.knuth.proofs.Guards.{below-test, inner-test, passed, passed-accept, tested, and_left}

-- A step that goes on: the shift of a token, or a reduce with its goto.
pub data Move (G : Grammar) (T : Tables) : Config → Config → Type 0 where
  shifts : {s s' t : ℕ} {st v out : List ℕ} → s' < T.states → Move G T (at s st (t ∷ v) out) (at s' (s ∷ st) v out)
  reduces : {s s₀ s' p : ℕ} {st st₀ v out : List ℕ} → p < G.prods → drop (length (G.body p)) (s ∷ st) ≡ s₀ ∷ st₀ → s' < T.states
      → Move G T (at s st v out) (at s' (s₀ ∷ st₀) v (out ++ p ∷ []))

module _ (G : Grammar) (T : Tables) where
  pub shift-step : (s s' t : ℕ) (st v out : List ℕ) → T.action s t ≡ shift s' → s' < T.states
      → next G T (at s st (t ∷ v) out) ≡ goes (at s' (s ∷ st) v out)
  shift-step s s' t st v out e h = ap (λ a. act G T a s st (t ∷ v) out) e ∙ ap (λ b. guard b (goes (at s' (s ∷ st) v out))) (below-test s' T.states h)

  pub reduce-step : (s s₀ s' q : ℕ) (st st₀ v out : List ℕ) → T.action s (look G v) ≡ reduce q → q < G.prods → q ≢ G.start
      → drop (length (G.body q)) (s ∷ st) ≡ s₀ ∷ st₀ → T.goto s₀ (G.lhs q) ≡ some s' → s' < T.states
      → next G T (at s st v out) ≡ goes (at s' (s₀ ∷ st₀) v (out ++ q ∷ []))
  reduce-step s s₀ s' q st st₀ v out e₁ hq nq e₂ e₃ h =
      ap (λ a. act G T a s st v out) e₁
      ∙ ap (λ b. guard b (do-reduce G T q (drop (length (G.body q)) (s ∷ st)) v out)) (inner-test q G.prods G.start hq nq)
      ∙ ap (λ l. do-reduce G T q l v out) e₂
      ∙ ap (λ o. do-goto T o q s₀ st₀ v out) e₃
      ∙ ap (λ b. guard b (goes (at s' (s₀ ∷ st₀) v (out ++ q ∷ [])))) (below-test s' T.states h)

  -- ---- what a step that goes on is

  move-goto : (s : ℕ) (st rest out : List ℕ) (p s₀ : ℕ) (st₀ : List ℕ) (o : Option ℕ) (c : Config) → p < G.prods
      → drop (length (G.body p)) (s ∷ st) ≡ s₀ ∷ st₀ → do-goto T o p s₀ st₀ rest out ≡ goes c → Move G T (at s st rest out) c
  move-goto s st rest out p s₀ st₀ none c hp d e = absurd (let z : ◌≡◌ {A = ℕ} 0 1 = cc in omega arith)
  move-goto s st rest out p s₀ st₀ (some s') c hp d e =
      let e' : goes (at s' (s₀ ∷ st₀) rest (out ++ p ∷ [])) ≡ goes c = passed (ltb s' T.states) e in
      let z : at s' (s₀ ∷ st₀) rest (out ++ p ∷ []) ≡ c = cc in
      subst (λ x. Move G T (at s st rest out) x) z (Move.reduces hp d (ltb→lt s' T.states (tested (ltb s' T.states) e).0))

  move-reduce : (s : ℕ) (st rest out : List ℕ) (p : ℕ) (l : List ℕ) (c : Config) → p < G.prods → drop (length (G.body p)) (s ∷ st) ≡ l
      → do-reduce G T p l rest out ≡ goes c → Move G T (at s st rest out) c
  move-reduce s st rest out p [] c hp d e = absurd (let z : ◌≡◌ {A = ℕ} 0 1 = cc in omega arith)
  move-reduce s st rest out p (s₀ ∷ st₀) c hp d e = move-goto s st rest out p s₀ st₀ (T.goto s₀ (G.lhs p)) c hp d e

  move-act : (a : Action) (s : ℕ) (st rest out : List ℕ) (c : Config) → act G T a s st rest out ≡ goes c → Move G T (at s st rest out) c
  move-act (shift s') s st [] out c e = absurd (let z : ◌≡◌ {A = ℕ} 0 1 = cc in omega arith)
  move-act (shift s') s st (t ∷ v) out c e =
      let e' : goes (at s' (s ∷ st) v out) ≡ goes c = passed (ltb s' T.states) e in
      let z : at s' (s ∷ st) v out ≡ c = cc in
      subst (λ x. Move G T (at s st (t ∷ v) out) x) z (Move.shifts (ltb→lt s' T.states (tested (ltb s' T.states) e).0))
  move-act (reduce p) s st rest out c e =
      let b = ltb p G.prods && not (eqb p G.start) in
      let hp = ltb→lt p G.prods (and_left (ltb p G.prods) (not (eqb p G.start)) (tested b e).0) in
      move-reduce s st rest out p (drop (length (G.body p)) (s ∷ st)) c hp refl (tested b e).1
  move-act accept s st [] out c e = absurd (let z : ◌≡◌ {A = ℕ} 0 1 = cc in omega arith)
  move-act accept s st (t ∷ v) out c e = absurd (let z : ◌≡◌ {A = ℕ} 0 1 = cc in omega arith)
  move-act error s st rest out c e = absurd (let z : ◌≡◌ {A = ℕ} 0 1 = cc in omega arith)

  pub move : (c c' : Config) → next G T c ≡ goes c' → Move G T c c'
  move (at s st rest out) c' e = move-act (T.action s (look G rest)) s st rest out c' e

  -- ---- what a step that accepts is

  -- A reduce does not accept.
  goto-not : {ρ : List ℕ} (rest out : List ℕ) (p s : ℕ) (st : List ℕ) (o : Option ℕ) → do-goto T o p s st rest out ≡ accepted ρ → ⊥
  goto-not rest out p s st none e = let z : ◌≡◌ {A = ℕ} 0 1 = cc in omega arith
  goto-not {ρ} rest out p s st (some s') e =
      let e' : goes (at s' (s ∷ st) rest (out ++ p ∷ [])) ≡ accepted ρ = passed-accept (ltb s' T.states) e in
      let z : ◌≡◌ {A = ℕ} 0 1 = cc in
      omega arith

  pub reduce-not : {ρ : List ℕ} (rest out : List ℕ) (p : ℕ) (l : List ℕ) → do-reduce G T p l rest out ≡ accepted ρ → ⊥
  reduce-not rest out p [] e = let z : ◌≡◌ {A = ℕ} 0 1 = cc in omega arith
  reduce-not rest out p (s ∷ st) e = goto-not rest out p s st (T.goto s (G.lhs p)) e

  -- What is accepted is the output.
  accepted-act : (a : Action) (s : ℕ) (st rest out ρ : List ℕ) → act G T a s st rest out ≡ accepted ρ → out ≡ ρ
  accepted-act (shift s') s st [] out ρ e = cc
  accepted-act (shift s') s st (t ∷ v) out ρ e =
      let e' : goes (at s' (s ∷ st) v out) ≡ accepted ρ = passed-accept (ltb s' T.states) e in
      cc
  accepted-act (reduce p) s st rest out ρ e = absurd (reduce-not rest out p (drop (length (G.body p)) (s ∷ st)) (passed-accept (ltb p G.prods && not (eqb p G.start)) e))
  accepted-act accept s st [] out ρ e = cc
  accepted-act accept s st (t ∷ v) out ρ e = cc
  accepted-act error s st rest out ρ e = cc

  pub accepted-outs : (c : Config) (ρ : List ℕ) → next G T c ≡ accepted ρ → outs c ≡ ρ
  accepted-outs (at s st rest out) ρ e = accepted-act (T.action s (look G rest)) s st rest out ρ e

-- The lookahead of an input is a token.
module _ (G : Grammar) (ok : Valid G) where
  pub look-below : (rest : List ℕ) → Input G rest → look G rest < G.tokens
  look-below [] i = ok.end-in
  look-below (t ∷ v) i = (i t (Memᴰ.head refl)).0
