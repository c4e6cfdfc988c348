-- When the case of a kernel holds. Assumes nothing.
use Rattle.std.proofs.Common.{Bool, true, false, List, ◌++◌, ◌↔◌, ◌≡◌, sym, ap, ap₂, ◌∙◌, ℕ, ◌+◌, ◌*◌, ◌≤◌, length, take, subst, arith}
use lib.ListN.{get_or, replicate, length-replicate}
use Rattle.words.specs.Parts.{part_of, behind_of}
use Rattle.words.specs.Given.{as_part, Part}
use Rattle.words.proofs.Answers.{says-no}
use Rattle.words.proofs.GivenLaws.{part-back, behind-back}
use Rattle.words.proofs.PartLaws.{cut-not}
use Rattle.block.specs.Limits.{ITEM}
use Rattle.block.specs.Block.{prods, symbols}
use Rattle.block.specs.First.{firsts_of}
use Rattle.itemset.specs.Rows.{Row, words_of}
use Rattle.block.specs.Refusal.{Good}
use Rattle.itemset.specs.Lent.{RowsIn, ForClosure, Wrote}
use Rattle.itemset.specs.Close.{close_of}
use Rattle.listed_itemset.proofs.Wrote.{wrote-fits, wrote-counts, wrote-part, closed-sets, closed_in}
use Rattle.listed_itemset.specs.Cases.{ROWS, goto_words, KernelCase}

module _ (b kernel expected : List ℕ) where
  abbrev closed_of : List Row → List Row
  closed_of K = close_of b (firsts_of b) K

  -- no part in front
  pub kernel-cut : length expected ≤ get_or expected 0 0 → (false ≡ true) ↔ KernelCase b kernel expected
  kernel-cut h = says-no (λ (k : KernelCase b kernel expected). cut-not expected _ _ h k.1.2)

  module _ (rows gotos : List ℕ) (e : expected ≡ as_part rows ++ gotos) (closed : List ℕ) (C : (K : List Row) → RowsIn b kernel K → closed ≡ words_of (closed_of K)) where
    rows-are : (K : List Row) → expected ≡ as_part (words_of (closed_of K)) ++ goto_words b (closed_of K) → rows ≡ words_of (closed_of K)
    rows-are K w = sym (part-back rows gotos) ∙ ap part_of (sym e ∙ w) ∙ part-back (words_of (closed_of K)) (goto_words b (closed_of K))

    -- other rows
    pub kernel-other : (rows ≡ closed → ⊥) → (false ≡ true) ↔ KernelCase b kernel expected
    kernel-other n = says-no (λ (k : KernelCase b kernel expected). n (rows-are k.1.0 k.1.2 ∙ sym (C k.1.0 k.1.1)))

    -- the rows are right: what stands behind decides
    pub kernel-by : {r : Bool} → ITEM * (symbols b + prods b) ≤ ROWS → (K : List Row) → RowsIn b kernel K → rows ≡ closed
        → ((K : List Row) → RowsIn b kernel K → (r ≡ true) ↔ (gotos ≡ goto_words b (closed_of K)))
        → (r ≡ true) ↔ KernelCase b kernel expected
    kernel-by m K R q i = (
      λ t. (m, (K, R, e ∙ ap₂ (λ (p g : List ℕ). as_part p ++ g) (q ∙ C K R) ((i K R).0 t))),
      λ k.
          (i k.1.0 k.1.1).1
          (sym (behind-back rows gotos) ∙ ap behind_of (sym e ∙ k.1.2) ∙ behind-back (words_of (closed_of k.1.0)) (goto_words b (closed_of k.1.0))),
    )

-- ---- what `close` wrote into a room, of a grammar that is another by name
pub big : (m k : ℕ) → k ≤ m → k ≤ length {A = ℕ} (replicate m 0)
big m k h = omega (arith, h, length-replicate {0} {A = ℕ} m 0)

module _ (b c kernel room after : List ℕ) (n : ℕ) (w : c ≡ b) (m : ITEM * (symbols b + prods b) ≤ length room)
    (W : (K : List Row) → ForClosure c kernel room K → Wrote (close_of c (firsts_of c) K) n room after) (K : List Row) (R : RowsIn b kernel K) where
  lent : ForClosure b kernel room K
  lent = record { kernel = R; room = m }

  wrote : Wrote (close_of b (firsts_of b) K) n room after
  wrote = (subst (λ d. (K : List Row) → ForClosure d kernel room K → Wrote (close_of d (firsts_of d) K) n room after) w W) K lent

  pub fits : ITEM * n ≤ length after
  fits = wrote-fits (closed-sets lent) wrote

  pub counts : ITEM * n ≡ length (take (ITEM * n) after)
  counts = wrote-counts (closed-sets lent) wrote

  pub part-is : take (ITEM * n) after ≡ words_of (close_of b (firsts_of b) K)
  part-is = wrote-part (closed-sets lent) wrote

  pub rows-in : RowsIn b (take (ITEM * n) after) (close_of b (firsts_of b) K)
  rows-in = closed_in lent wrote

-- ---- a line: the kernel, and what is expected of it
pub line-by : {r : Bool} (b rest kernel expected : List ℕ) → rest ≡ as_part kernel ++ expected → Good b → (r ≡ true) ↔ KernelCase b kernel expected
    → (r ≡ true) ↔ (Good b × Part (KernelCase b) rest)
line-by b rest kernel expected e g i = (λ t. (g, record { part = kernel; rest = expected; words = e; holds = i.0 t }), λ h. i.1 (same h.1))
  where
    same : Part (KernelCase b) rest → KernelCase b kernel expected
    same p =
        let z : as_part kernel ++ expected ≡ as_part p.part ++ p.rest = sym e ∙ p.words in
        let k : kernel ≡ p.part = sym (part-back kernel expected) ∙ ap part_of z ∙ part-back p.part p.rest in
        let x : expected ≡ p.rest = sym (behind-back kernel expected) ∙ ap behind_of z ∙ behind-back p.part p.rest in
        rw (k, x) p.holds
