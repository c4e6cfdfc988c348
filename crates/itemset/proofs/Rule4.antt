-- Rule 4 is proved: what is sighted in the closure, and where each goto leads. Assumes nothing.
use mathlib.Core.Bool.{cond}
use mathlib.Core.List.{List, [], ◌∷◌, map, Memᴰ}
use mathlib.Core.Logic.{◌≢◌}
use mathlib.Core.Path.{◌≡◌, ap, ◌∙◌, subst}
use Prim.Native.Nat.{ℕ, suc, ◌+◌, ◌*◌, ◌/◌, ◌%◌, ◌<◌}
use native.Mathlib.Omega.{arith}
use borrow.Author.Tests.{eq-eqb, ne_eqb}
use Rattle.knuth.specs.Grammar.{Sym, rule, token, In}
use Rattle.knuth.specs.Kernel.{◌≈◌}
use Rattle.knuth.specs.Closure.{After, Moved, MovedTok, goto}
use Rattle.knuth.specs.Automaton.{Before}
use Rattle.block.specs.Limits.{DOTS, RULES, TOKENS}
use Rattle.block.specs.Block.{tokens, rules, prods}
use Rattle.block.specs.Grammar.{symbol, grammar_of}
use Rattle.block.specs.First.{Ahead, Within}
use Rattle.itemset.specs.Rows.{Row, Present, Token, Rows}
use Rattle.itemset.specs.Kernel.{kernel_of}
use Rattle.itemset.specs.Close.{rest_of, close_of}
use Rattle.itemset.specs.Goto.{sights_of, goto_of}
use Rattle.itemset.specs.Ready.{Ready}
use Rattle.itemset.specs.Rule4.{Sights, Moves, Rule4}
use Rattle.itemset.proofs.Has.{Has, has-present, present-has, has-token, token-has}
use Rattle.itemset.proofs.Members.{mem-among, among-mem}
use Rattle.itemset.proofs.Distinct.{Below, distinct-at, few-symbols}
use Rattle.itemset.proofs.Rest.{symbol-injective, rest-after, Behind, after-rest, rest-small, rest-inside, rest-next}
use Rattle.itemset.proofs.Sighting.{Sighted, sights-distinct, sights-all, sights-only}
use Rattle.itemset.proofs.Moves.{goto-has, goto-only, goto-rows, goto-dots, goto-few}
use Rattle.itemset.proofs.Fuel.{close-rows}
use Rattle.itemset.proofs.Rule2.{item-closed, token-holds, closed-item, holds-token}

-- ---- of any rows of the grammar
inside-below : (b : List ℕ) (x : ℕ) → In (grammar_of b) (symbol x) → Below (rules b) (tokens b) x
inside-below b x h = (
  λ e. subst (λ c. In (grammar_of b) (cond c (rule (x / 2)) (token (x / 2)))) (eq-eqb (x % 2) 0 e) h,
  λ e. subst (λ c. In (grammar_of b) (cond c (rule (x / 2)) (token (x / 2)))) (ne_eqb (x % 2) 0 (λ z. omega arith)) h,
)

module _ (b : List ℕ) (F : List Ahead) (ready : Ready b F) (C : List Row) (R : Rows b C) where
  seen : (x : ℕ) → Memᴰ x (sights_of b C) → Sighted b x C
  seen x m = sights-only b x C (mem-among x (sights_of b C) m)

  sight-within : (x : ℕ) → Sighted b x C → Within x
  sight-within x S = (rest-small b F ready S.item x S.rest (R.items S.item S.there).prod S.is-rest).0

  sight-known : (x : ℕ) → Sighted b x C → In (grammar_of b) (symbol x)
  sight-known x S = rest-inside b F ready S.item x S.rest (R.items S.item S.there).prod S.is-rest

  pub all-sights : Sights b C
  all-sights =
      record {
        once = distinct-at (sights_of b C) (sights-distinct b C);
        within = λ x m. sight-within x (seen x m);
        known = λ x m. sight-known x (seen x m);
        few = few-symbols (rules b) (tokens b) (sights_of b C) (sights-distinct b C) (λ x m. inside-below b x (sight-known x (sights-only b x C m)));
        limit = few-symbols RULES TOKENS (sights_of b C) (sights-distinct b C)
            (λ x m. let w = sight-within x (sights-only b x C m) in (λ e. w.rule e, λ e. w.token e));
      }

  pub all-moves : (x : ℕ) → Moves b C x
  all-moves x = record { rows = goto-rows b x F ready C R; dots = goto-dots b x F ready C R; few = goto-few b x F ready C R }

-- ---- of the closure
module _ (b : List ℕ) (F : List Ahead) (ready : Ready b F) (K : List Row) (R : Rows b K) where
  abbrev C : List Row
  C = close_of b F K

  S : Rows b C
  S = close-rows b F ready K R

  -- an item (p, suc d) whose number is one more than i's, where a symbol is behind i's dot
  same_item : (i x : ℕ) (w : List ℕ) → i / DOTS < prods b → rest_of b i ≡ x ∷ w → (p e : ℕ) → e < DOTS → DOTS * p + e ≡ suc i
      → (i / DOTS ≡ p) × (suc (i % DOTS) ≡ e)
  same_item i x w l r p e m h = let n = rest-next b F ready i x w l r in (omega (arith, n.0, n.1), omega (arith, n.0, n.1))

  sighted-to : (x : ℕ) → Sighted b x C → (p : ℕ) × (d : ℕ) × Before (grammar_of b) (kernel_of K) (symbol x) p d
  sighted-to x T = (
    T.item / DOTS,
    T.item % DOTS,
    record {
      closed = item-closed b F ready K R T.item T.there;
      rest = map symbol T.rest;
      after = rest-after b T.item x T.rest T.is-rest;
    },
  )

  sighted-from : (x p d : ℕ) → Before (grammar_of b) (kernel_of K) (symbol x) p d → Sighted b x C
  sighted-from x p d B =
      let c = closed-item b F ready K R p d B.closed in
      let r = after-rest b p d (symbol x) B.rest c.0 B.after in
      let e = symbol-injective r.sym_at x r.is-sym in
      record { item = DOTS * p + d; there = c.1; rest = r.rest; is-rest = r.is-rest ∙ ap {B = List ℕ} (λ y. y ∷ r.rest) e }

  -- ---- goto, both ways
  moved_to : (x p e : ℕ) → e < DOTS → Present (DOTS * p + e) (goto_of b C x) → Moved (grammar_of b) (kernel_of K) (symbol x) p e
  moved_to x p e l m =
      let h = present-has (DOTS * p + e) (goto_of b C x) m in
      let c = goto-only b x (DOTS * p + e) h.0 C h.1 in
      let t = has-present c.item h.0 C c.there in
      let n = same_item c.item x c.rest (S.items c.item t).prod c.is-rest p e l c.next in
      subst (λ q. Moved (grammar_of b) (kernel_of K) (symbol x) q e) n.0
      (subst (λ q. Moved (grammar_of b) (kernel_of K) (symbol x) (c.item / DOTS) q) n.1
      (Moved.moved (item-closed b F ready K R c.item t) (rest-after b c.item x c.rest c.is-rest)))

  tok-to : (x p e t : ℕ) → e < DOTS → Token (DOTS * p + e) t (goto_of b C x) → MovedTok (grammar_of b) (kernel_of K) (symbol x) p e t
  tok-to x p e t l m =
      let h = token-has (DOTS * p + e) t (goto_of b C x) m in
      let c = goto-only b x (DOTS * p + e) h.0 C h.1 in
      let n = same_item c.item x c.rest (S.items c.item (has-present c.item h.0 C c.there)).prod c.is-rest p e l c.next in
      subst (λ q. MovedTok (grammar_of b) (kernel_of K) (symbol x) q e t) n.0
      (subst (λ q. MovedTok (grammar_of b) (kernel_of K) (symbol x) (c.item / DOTS) q t) n.1
      (MovedTok.moved (token-holds b F ready K R c.item t (has-token c.item t h.0 C c.there h.2))
      (rest-after b c.item x c.rest c.is-rest)))

  -- the item (p, d), with its symbol read in the rows, and the same with the dot moved
  module _ (x p d : ℕ) (w : List Sym) (l : d < DOTS) (a : After (grammar_of b) p d (symbol x) w) (h : Present (DOTS * p + d) C) where
    at : Behind b (DOTS * p + d) (symbol x) w
    at = after-rest b p d (symbol x) w l a

    at_x : rest_of b (DOTS * p + d) ≡ x ∷ at.rest
    at_x = at.is-rest ∙ ap {B = List ℕ} (λ y. y ∷ at.rest) (symbol-injective at.sym_at x at.is-sym)

    next_low : suc d < DOTS
    next_low =
        let n = rest-next b F ready (DOTS * p + d) x at.rest (S.items (DOTS * p + d) h).prod at_x in
        omega (arith, n.0, n.1)

    next-has : (s : List ℕ) → Has (DOTS * p + d) s C → Has (DOTS * p + suc d) s (goto_of b C x)
    next-has s m =
        subst (λ n. Has n s (goto_of b C x)) (let z : suc (DOTS * p + d) ≡ DOTS * p + suc d = omega arith in z) (goto-has b x (DOTS * p + d) s at.rest C m at_x)

  moved-from : (x p e : ℕ) → Moved (grammar_of b) (kernel_of K) (symbol x) p e → (e < DOTS) × Present (DOTS * p + e) (goto_of b C x)
  moved-from x p e (Moved.moved {d = d} {w = w} c a) =
      let k = closed-item b F ready K R p d c in
      let h = present-has (DOTS * p + d) C k.1 in
      (next_low x p d w k.0 a k.1, has-present (DOTS * p + suc d) h.0 (goto_of b C x) (next-has x p d w k.0 a k.1 h.0 h.1))

  tok-from : (x p e t : ℕ) → MovedTok (grammar_of b) (kernel_of K) (symbol x) p e t → (e < DOTS) × Token (DOTS * p + e) t (goto_of b C x)
  tok-from x p e t (MovedTok.moved {d = d} {w = w} c a) =
      let k = holds-token b F ready K R p d t c in
      let h = token-has (DOTS * p + d) t C k.1 in
      let m = has-present (DOTS * p + d) h.0 C h.1 in (
        next_low x p d w k.0 a m,
        has-token (DOTS * p + suc d) t h.0 (goto_of b C x) (next-has x p d w k.0 a m h.0 h.1) h.2,
      )

  goes : (x : ℕ) → kernel_of (goto_of b C x) ≈ goto (grammar_of b) (kernel_of K) (symbol x)
  goes x =
      record {
        there = record { items = λ p e h. moved_to x p e h.0 h.1; tokens = λ p e t h. tok-to x p e t h.0 h.1 };
        back = record { items = λ p e h. moved-from x p e h; tokens = λ p e t h. tok-from x p e t h };
      }

  not-empty : (x : ℕ) → Sighted b x C → goto_of b C x ≢ []
  not-empty x T z =
      let h = present-has T.item C T.there in
      subst (λ r. Has (suc T.item) h.0 r) z (goto-has b x T.item h.0 T.rest C h.1 T.is-rest)

  pub rule-4 : Rule4 b F K
  rule-4 =
      record {
        sights = all-sights b F ready C S;
        moves = all-moves b F ready C S;
        sighted = λ x. (
          λ m. sighted-to x (seen b F ready C S x m),
          λ c. among-mem x (sights_of b C) (sights-all b x C (sighted-from x c.0 c.1 c.2)),
        );
        goes = goes;
        some = λ x m. not-empty x (seen b F ready C S x m);
      }
