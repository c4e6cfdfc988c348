-- The other way: rows in which all that each row hands on has come in are closed; and a round that changes nothing leaves such rows.
-- Assumes nothing.
use mathlib.Core.List.{List, foldl}
use mathlib.Core.Path.{◌≡◌, sym, subst}
use Prim.Native.Nat.{ℕ, ◌+◌, ◌*◌, ◌/◌, ◌<◌}
use native.Mathlib.Omega.{arith}
use Rattle.knuth.specs.Grammar.{Sym, rule}
use Rattle.knuth.specs.Kernel.{Kernel, ◌⊑◌}
use Rattle.knuth.specs.First.{First, Nullable}
use Rattle.knuth.specs.Closure.{After, Closing}
use Rattle.block.specs.Limits.{DOTS}
use Rattle.block.specs.Block.{prods, rule_of}
use Rattle.block.specs.Sets.{In}
use Rattle.block.specs.Grammar.{grammar_of}
use Rattle.block.specs.First.{Ahead, ahead_of, Small}
use Rattle.itemset.specs.Rows.{Row, Present, Token}
use Rattle.itemset.specs.Kernel.{kernel_of}
use Rattle.itemset.specs.Close.{handed, give}
use Rattle.itemset.specs.Ready.{Ready}
use Rattle.itemset.specs.Opens.{Opens}
use Rattle.itemset.proofs.RowLaws.{zero-dot}
use Rattle.itemset.proofs.Has.{Has, has-present, present-has, token-has}
use Rattle.itemset.proofs.Handed.{handed-first, handed-own}
use Rattle.itemset.proofs.Rounds.{round-item, round-token}
use Rattle.itemset.proofs.Rest.{symbol-rule, Behind, after-rest, rest-small}

-- what each row hands on has come in
pub record Handing (b : List ℕ) (F : List Ahead) (rs : List Row) : Type 0 where
  pub items : (i : ℕ) (s : List ℕ) → Has i s rs → (q : ℕ) (w : List ℕ) → Opens b i q w → Present (DOTS * q) rs
  pub tokens : (i : ℕ) (s : List ℕ) → Has i s rs → (q : ℕ) (w : List ℕ) → Opens b i q w → (t : ℕ) → In (handed s (ahead_of F w)) t
      → Token (DOTS * q) t rs

pub fixed-handing : (b : List ℕ) (F : List Ahead) (rs : List Row) → foldl (give b F) rs rs ≡ rs → Handing b F rs
fixed-handing b F rs fix =
    record {
      items = λ i s h q w o.
          subst (λ r. Present (DOTS * q) r) fix (round-item b F i q w o s rs h rs);
      tokens = λ i s h q w o t m.
          subst (λ r. Token (DOTS * q) t r) fix (round-token b F i q w o s t m rs h rs);
    }

module _ (b : List ℕ) (F : List Ahead) (ready : Ready b F) (rs : List Row) (below : (k : ℕ) → Present k rs → k / DOTS < prods b) (H : Handing b F rs) where
  -- a rule behind the dot of a row, as the rows have it
  module _ (p d q : ℕ) (w : List Sym) (l : d < DOTS) (a : After (grammar_of b) p d (rule (rule_of b q)) w) (h : q < prods b) where
    at : Behind b (DOTS * p + d) (rule (rule_of b q)) w
    at = after-rest b p d (rule (rule_of b q)) w l a

    opens : Opens b (DOTS * p + d) q at.rest
    opens =
        let r = symbol-rule at.sym_at (rule_of b q) at.is-sym in
        record { sym_at = at.sym_at; is-rest = at.is-rest; even = r.0; below = h; is-rule = r.1 }

    small : (s : List ℕ) → Has (DOTS * p + d) s rs → Small at.rest
    small s m = (rest-small b F ready (DOTS * p + d) at.sym_at at.rest (below (DOTS * p + d) (has-present (DOTS * p + d) s rs m)) at.is-rest).1

    item_in : Present (DOTS * p + d) rs → Present (DOTS * q + 0) rs
    item_in m =
        let r = present-has (DOTS * p + d) rs m in
        (zero-dot (λ n. Present n rs) q).0 (H.items (DOTS * p + d) r.0 r.1 q at.rest opens)

    first-in : (t : ℕ) → Present (DOTS * p + d) rs → First (grammar_of b) w t → Token (DOTS * q + 0) t rs
    first-in t m f =
        let r = present-has (DOTS * p + d) rs m in
        (zero-dot (λ n. Token n t rs) q).0
        (H.tokens (DOTS * p + d) r.0 r.1 q at.rest opens t
        (handed-first r.0 (ahead_of F at.rest) t
        ((ready.rule1.first at.rest (small r.0 r.1) t).1 (subst (λ v. First (grammar_of b) v t) (sym at.is-w) f))))

    own_in : (t : ℕ) → Token (DOTS * p + d) t rs → Nullable (grammar_of b) w → Token (DOTS * q + 0) t rs
    own_in t m n =
        let r = token-has (DOTS * p + d) t rs m in
        (zero-dot (λ n. Token n t rs) q).0
        (H.tokens (DOTS * p + d) r.0 r.1 q at.rest opens t
        (handed-own r.0 (ahead_of F at.rest) t
        ((ready.rule1.null at.rest (small r.0 r.1)).1 (subst (λ v. Nullable (grammar_of b) v) (sym at.is-w) n)) r.2))

  pub handing-closing : (K : Kernel) → K ⊑ kernel_of rs → Closing (grammar_of b) K (kernel_of rs)
  handing-closing K inc =
      record {
        holds = inc;
        items = λ p d q w h a l. (omega arith, item_in p d q w h.0 a l h.1);
        firsts = λ p d q t w h a l f. (omega arith, first-in p d q w h.0 a l t h.1 f);
        owns = λ p d q t w h a l n. (omega arith, own_in p d q w h.0 a l t h.1 n);
      }
