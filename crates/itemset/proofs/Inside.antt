-- One way: what stands in the closure's rows is in the closure of knuth. Assumes nothing.
use mathlib.Core.List.{List, [], ◌∷◌, foldl, map}
use mathlib.Core.Logic.{inl, inr}
use mathlib.Core.Path.{◌≡◌, refl, sym, ap, ◌∙◌, subst}
use Prim.Native.Nat.{ℕ, ◌*◌, ◌/◌, ◌%◌, ◌<◌}
use native.Mathlib.Nat.{mod-lt}
use native.Mathlib.Omega.{arith}
use Rattle.knuth.specs.Grammar.{Sym, rule}
use Rattle.knuth.specs.Kernel.{Kernel}
use Rattle.knuth.specs.Closure.{Closed, Holds, After}
use Rattle.block.specs.Limits.{DOTS}
use Rattle.block.specs.Block.{prods, rule_of}
use Rattle.block.specs.Sets.{In}
use Rattle.block.specs.Grammar.{symbol, grammar_of}
use Rattle.block.specs.First.{Ahead, ahead_of}
use Rattle.itemset.specs.Rows.{Row, row, Present, Token, Rows}
use Rattle.itemset.specs.Kernel.{kernel_of}
use Rattle.itemset.specs.Close.{put, handed, give, close_of}
use Rattle.itemset.specs.Ready.{Ready}
use Rattle.itemset.specs.Opens.{Opens}
use Rattle.itemset.proofs.RowLaws.{split-item}
use Rattle.itemset.proofs.Put.{put_only, put-only-tok}
use Rattle.itemset.proofs.Handed.{handed-only}
use Rattle.itemset.proofs.Opening.{give-keeps}
use Rattle.itemset.proofs.Rounds.{close-ind}
use Rattle.itemset.proofs.Rest.{symbol-even, rest-after, rest-small}

-- what an opened production says of the grammar
opens-after : (b : List ℕ) (i q : ℕ) (w : List ℕ) → Opens b i q w → After (grammar_of b) (i / DOTS) (i % DOTS) (rule (rule_of b q)) (map symbol w)
opens-after b i q w o =
    rest-after b i o.sym_at w o.is-rest
    ∙ ap {B = List Sym} (λ X. X ∷ map symbol w) (symbol-even o.sym_at o.even ∙ ap {B = Sym} rule (sym o.is-rule))

module _ (b : List ℕ) (K : Kernel) where
  -- item i with the context s is in the closure of K
  pub record Sound (i : ℕ) (s : List ℕ) : Type 0 where
    pub below : i / DOTS < prods b
    pub item : Closed (grammar_of b) K (i / DOTS) (i % DOTS)
    pub tokens : (t : ℕ) → In s t → Holds (grammar_of b) K (i / DOTS) (i % DOTS) t

  -- what stands in rs is in the closure of K
  pub record Inside (rs : List Row) : Type 0 where
    pub below : (k : ℕ) → Present k rs → k / DOTS < prods b
    pub items : (k : ℕ) → Present k rs → Closed (grammar_of b) K (k / DOTS) (k % DOTS)
    pub holds : (k t : ℕ) → Token k t rs → Holds (grammar_of b) K (k / DOTS) (k % DOTS) t

  put-inside : (i : ℕ) (s : List ℕ) (rs : List Row) → Sound i s → Inside rs → Inside (put i s rs)
  put-inside i s rs S I =
      record {
        below = λ k m. elim (put_only k i s rs m) [ inl e ↦ subst (λ n. n / DOTS < prods b) (sym e) S.below | inr m ↦ I.below k m ];
        items = λ k m. elim (put_only k i s rs m)
            [ inl e ↦ subst (λ n. Closed (grammar_of b) K (n / DOTS) (n % DOTS)) (sym e) S.item | inr m ↦ I.items k m ];
        holds = λ k t m. elim (put-only-tok k t i s rs m)
            [ inl e ↦ subst (λ n. Holds (grammar_of b) K (n / DOTS) (n % DOTS) t) (sym e.0) (S.tokens t e.1) | inr m ↦ I.holds k t m ];
      }

  -- dot 0 of production q, from what is known of the production
  pub zero-sound : (q : ℕ) (s : List ℕ) → q < prods b → Closed (grammar_of b) K q 0 → ((t : ℕ) → In s t → Holds (grammar_of b) K q 0 t)
      → Sound (DOTS * q) s
  zero-sound q s l c h =
      record { below = omega arith; item = back (λ p d. Closed (grammar_of b) K p d) c; tokens = λ t m. back (λ p d. Holds (grammar_of b) K p d t) (h t m) }
    where
      back : (P : ℕ → ℕ → Type 0) → P q 0 → P (DOTS * q / DOTS) (DOTS * q % DOTS)
      back P m =
          subst (λ n. P n (DOTS * q % DOTS)) (let z : q ≡ DOTS * q / DOTS = omega arith in z)
          (subst (λ n. P q n) (let z : 0 ≡ DOTS * q % DOTS = omega arith in z) m)

  module _ (F : List Ahead) (ready : Ready b F) where
    -- what such an item hands to a production that it opens is in the closure too
    module _ (i : ℕ) (s : List ℕ) (S : Sound i s) (q : ℕ) (w : List ℕ) (o : Opens b i q w) where
      pub opened : Closed (grammar_of b) K q 0
      opened = Closed.opened q S.item (opens-after b i q w o) o.below

      pub handed-holds : (t : ℕ) → In (handed s (ahead_of F w)) t → Holds (grammar_of b) K q 0 t
      handed-holds t m =
          let small = (rest-small b F ready i o.sym_at w S.below o.is-rest).1 in
          elim (handed-only s (ahead_of F w) t m) [
            | inl f ↦ Holds.first q S.item (opens-after b i q w o) o.below ((ready.rule1.first w small t).0 f)
            | inr n ↦ Holds.own q (S.tokens t n.1) (opens-after b i q w o) o.below ((ready.rule1.null w small).0 n.0)
          ]

      pub handed-sound : Sound (DOTS * q) (handed s (ahead_of F w))
      handed-sound = zero-sound q (handed s (ahead_of F w)) o.below opened handed-holds

    give-inside : (i : ℕ) (s : List ℕ) (rs : List Row) → Sound i s → Inside rs → Inside (give b F rs (row i s))
    give-inside i s rs S I =
        give-keeps Inside b F rs i s (λ q w a o J. put-inside (DOTS * q) (handed s (ahead_of F w)) a (handed-sound i s S q w o) J) I

    round-inside : (xs : List Row) → Inside xs → (rs : List Row) → Inside rs → Inside (foldl (give b F) rs xs)
    round-inside [] X rs I = I
    round-inside (row i s ∷ xs) X rs I =
        round-inside xs
        (record { below = λ k m. X.below k (inr m); items = λ k m. X.items k (inr m); holds = λ k t m. X.holds k t (inr m) })
        (give b F rs (row i s))
        (give-inside i s rs
        (record { below = X.below i (inl refl); item = X.items i (inl refl); tokens = λ t m. X.holds i t (inl (refl, m)) }) I)

    pub close-inside : (rs : List Row) → Inside rs → Inside (close_of b F rs)
    close-inside rs I = close-ind b F Inside (λ rs I. round-inside rs I rs I) rs I

-- the kernel's own rows are in its closure
pub kernel-inside : (b : List ℕ) (K : List Row) → Rows b K → Inside b (kernel_of K) K
kernel-inside b K R =
    record {
      below = λ k m. (R.items k m).prod;
      items = λ k m. Closed.kernel (mod-lt k (omega arith), subst (λ n. Present n K) (sym (split-item k)) m);
      holds = λ k t m. Holds.kernel (mod-lt k (omega arith), subst (λ n. Token n t K) (sym (split-item k)) m);
    }
