-- The numbers that the graph and the call `graph` refuse with. Assumes nothing.
use mathlib.Core.Bool.{Bool, true, false, cond}
use mathlib.Core.List.{List, [], ◌∷◌, ◌++◌}
use mathlib.Core.Option.{Option, none, some}
use mathlib.Core.Path.{◌≡◌, refl, subst}
use Prim.Native.Nat.{ℕ, zero, suc, ◌+◌, ◌*◌, ◌^◌, ◌≤◌}
use native.Mathlib.Omega.{arith}
use lib.Dec.{ltb, leb}
use lib.ListN.{length, get_or}
use Rattle.block.specs.Limits.{WORDS}
use Rattle.block.specs.First.{Ahead, firsts_of}
use Rattle.block.specs.Lists.{change}
use Rattle.block.specs.Refusal.{short_block, too_large, misplaced, bad_production, bad_start, bad_symbol, bad_precedence, first_fault, refusal_of}
use Rattle.itemset.specs.Rows.{Row}
use Rattle.itemset.specs.Close.{close_of}
use Rattle.itemset.specs.Goto.{gotos_of}
use Rattle.pager.specs.Lists.{find, Answer, is, refused, walk, unless}
use Rattle.pager.specs.Place.{State, Limits, items, new, take_in, is_equal, is_weak, add_state, place_of}
use Rattle.pager.specs.Graph.{edge_to, mark, place_edge, nowhere, close_state, next_state, grow, graph_of, start_state}
use Rattle.pager.specs.Call.{Buffers, is_short, or_else, turned_away, graph_call}
use Rattle.pager.specs.CallRules.{Number, ClaimNumbers}

-- a refusal has a number from lo to hi
abbrev Within : {A : Type 0} → ℕ → ℕ → Answer A → Type 0
Within lo hi (is a) = Unit {0}
Within lo hi (refused why) = Number lo hi why

module _ {A B : Type 0} (lo hi : ℕ) where
  within_on : (f : A → Answer B) (x : Answer A) → Within lo hi x → ((a : A) → Within lo hi (f a))
      → Within {A = B} lo hi (elim x [ is a ↦ f a | refused e ↦ refused e ])
  within_on f (is a) h k = k a
  within_on f (refused e) h k = h

walk-within : {A B : Type 0} (lo hi : ℕ) (f : A → B → Answer A) → ((a : A) (x : B) → Within lo hi (f a x)) → (a : A) (xs : List B) → Within lo hi (walk f a xs)
unfolding walk
walk-within lo hi f h a [] = tt
walk-within lo hi f h a (x ∷ xs) = within_on lo hi (λ c. walk f c xs) (f a x) (h a x) (λ c. walk-within lo hi f h c xs)

-- ---- the graph: 8 or 9
module _ (b : List ℕ) (m : Limits) where
  add-within : (ss : List State) (made : ℕ) (K : List Row) → Within 8 9 (add_state b m ss made K)
  unfolding add_state
  add-within ss made K = go (ltb (length ss) m.states) (leb (items ss + length K) m.items)
    where
      go : (c d : Bool) → Within {A = ℕ × List State} 8 9 (elim c [ false ↦ refused (8 ∷ []) | true ↦ elim d [ false ↦ refused (9 ∷ []) | true ↦ is (length ss, ss ++ (new b made K ∷ [])) ] ])
      go false d = (8, refl, omega arith, omega arith)
      go true false = (9, refl, omega arith, omega arith)
      go true true = tt

  place-within : (ss : List State) (x : ℕ) (K : List Row) → Within 8 9 (place_of b m ss x K)
  unfolding place_of
  place-within ss x K = go (find (is_equal (suc x) K) 0 ss) (find (is_weak (suc x) K) 0 ss)
    where
      go : (o p : Option ℕ) → Within {A = ℕ × List State} 8 9 (elim o [ some n ↦ is (n, ss) | none ↦ elim p [ some n ↦ is (n, change (take_in K) n ss) | none ↦ add_state b m ss (suc x) K ] ])
      go (some n) p = tt
      go none (some n) = tt
      go none none = add-within ss (suc x) K

  edge-within : (n : ℕ) (ss : List State) (g : ℕ × List Row) → Within 8 9 (place_edge b m n ss g)
  unfolding place_edge
  edge-within n ss g = within_on 8 9 (λ p. is (change (edge_to b g.0 p.0) n p.1)) (place_of b m ss g.0 g.1) (place-within ss g.0 g.1) (λ p. tt)

  module _ (F : List Ahead) where
    state-within : (ss : List State) (n : ℕ) → Within 8 9 (close_state b F m ss n)
    unfolding close_state
    state-within ss n = walk-within 8 9 (place_edge b m n) (edge-within n) (change mark n ss) (gotos_of b (close_of b F (get_or ss n nowhere).rows))

    grow-within : (k last : ℕ) (ss : List State) → Within 8 9 (grow b F m k last ss)
    unfolding grow
    grow-within zero last ss = tt
    grow-within (suc k) last ss = go (λ n rr. grow-within k n rr) (next_state last ss)
      where
        go : ((n : ℕ) (rr : List State) → Within 8 9 (grow b F m k n rr)) → (o : Option ℕ)
            → Within {A = List State} 8 9 (elim o [ none ↦ is ss | some n ↦ elim (close_state b F m ss n) [ is rr ↦ grow b F m k n rr | refused e ↦ refused e ] ])
        go h none = tt
        go h (some n) = within_on 8 9 (grow b F m k n) (close_state b F m ss n) (state-within ss n) (h n)

    pub graph-within : Within 8 9 (graph_of b F m)
    unfolding graph_of
    graph-within = grow-within (3 * m.states + 2 * m.items * (WORDS * 2 ^ 64 + 1)) 0 (start_state b ∷ [])

-- ---- the block: at most 6
abbrev Most : ℕ → List ((List ℕ → Bool) × ℕ) → Type 0
Most N [] = Unit {0}
Most N (c ∷ cs) = (c.1 ≤ N) × Most N cs

fault-most : (N : ℕ) (b : List ℕ) (cs : List ((List ℕ → Bool) × ℕ)) → Most N cs → first_fault b cs ≤ N
unfolding first_fault
fault-most N b [] h = omega arith
fault-most N b (c ∷ cs) h = go (fault-most N b cs h.1) (c.0 b)
  where
    go : first_fault b cs ≤ N → (t : Bool) → elim t [ true ↦ c.1 | false ↦ first_fault b cs ] ≤ N
    go r true = h.0
    go r false = r

pub refusal-most : (b : List ℕ) → refusal_of b ≤ 6
unfolding refusal_of
refusal-most b =
    fault-most 6 b
    ((short_block, 1) ∷ (too_large, 2) ∷ (misplaced, 1) ∷ (bad_production, 3) ∷ (bad_start, 4) ∷ (bad_symbol, 5) ∷ (bad_precedence, 6) ∷ [])
    (omega arith, (omega arith, (omega arith, (omega arith, (omega arith, (omega arith, (omega arith, tt)))))))

-- ---- the call: 1 to 7 before the graph, 8 or 9 of it
away-most : (b : List ℕ) (m : Limits) (l : Buffers) → turned_away b m l ≤ 7
unfolding turned_away
away-most b m l = go (refusal_of b) (refusal-most b) (is_short b m l)
  where
    go : (n : ℕ) → n ≤ 6 → (t : Bool) → or_else n (cond t 7 0) ≤ 7
    go zero h true = omega arith
    go zero h false = omega arith
    go (suc n) h t = omega arith

wider : {A : Type 0} (x : Answer A) → Within 8 9 x → Within 1 9 x
wider (is a) h = tt
wider (refused why) (n, e, lo, hi) = (n, e, omega arith, hi)

says : {A : Type 0} (x : Answer A) (why : List ℕ) → Within 1 9 x → x ≡ refused why → Number 1 9 why
says {A = A} x why h e = subst (λ (y : Answer A). Within 1 9 y) e h

pub call-numbers : ClaimNumbers
unfolding graph_call
call-numbers b m l why e = says (graph_call b m l) why (go (turned_away b m l) (away-most b m l)) e
  where
    go : (n : ℕ) → n ≤ 7 → Within 1 9 (unless n (graph_of b (firsts_of b) m))
    go zero h = wider (graph_of b (firsts_of b) m) (graph-within b m (firsts_of b))
    go (suc n) h = (suc n, refl, omega arith, omega arith)
