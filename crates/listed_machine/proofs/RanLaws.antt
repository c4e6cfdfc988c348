-- When words are numbers, a part and a last part: what is looked at, one after the other. Assumes nothing.
use mathlib.Core.Bool.{true, false}
use mathlib.Core.Logic.{◌↔◌}
use mathlib.Core.List.{List, [], ◌++◌, append-nil}
use mathlib.Core.Path.{◌≡◌, sym, ap, ◌∙◌}
use Prim.Native.Nat.{ℕ, ◌-◌, ◌<◌}
use native.Mathlib.Omega.{arith}
use lib.Dec.{eqb}
use lib.ListN.{length, take, drop, length-append}
use lib.Seq.{drop-append_seam}
use borrow.Author.Tests.{eqb-true, eq-eqb}
use Rattle.words.specs.Parts.{behind_of}
use Rattle.words.specs.Given.{as_part}
use Rattle.words.proofs.PartLaws.{part-tail}
use Rattle.words.proofs.Answers.{says-no}
use Rattle.words.proofs.GivenLaws.{behind-back, none}

module _ (ws ns st out : List ℕ) (n : ℕ) (k : n ≡ length ns) where
  abbrev pub Whole : Type 0
  Whole = ws ≡ ns ++ (as_part st ++ as_part out)

  pub few_words : length ws < n → (false ≡ true) ↔ Whole
  few_words h = says-no (λ e. omega (arith, k, ap length e, length-append ns (as_part st ++ as_part out)))

  behind-numbers : Whole → drop (length ns) ws ≡ as_part st ++ as_part out
  behind-numbers e = ap (drop (length ns)) e ∙ drop-append_seam ns (as_part st ++ as_part out)

  pub whole_numbers : Whole → ws ≡ ns ++ drop (length ns) ws
  whole_numbers e = e ∙ ap (λ l. ns ++ l) (sym (behind-numbers e))

  -- what stands behind the numbers
  abbrev buffers : List ℕ
  buffers = take (length ws - n) (drop n ws)

  are : buffers ≡ drop (length ns) ws
  are = part-tail n ws ∙ ap (λ i. drop i ws) k

  behind-first : Whole → behind_of buffers ≡ as_part out
  behind-first e = ap behind_of (are ∙ behind-numbers e) ∙ behind-back st (as_part out)

  pub whole-first : Whole → buffers ≡ as_part st ++ behind_of buffers
  whole-first e = are ∙ behind-numbers e ∙ ap (λ l. as_part st ++ l) (sym (behind-first e))

  -- ls stands behind the first part
  module _ (ls : List ℕ) (l : ls ≡ behind_of buffers) where
    behind-last : Whole → behind_of ls ≡ []
    behind-last e = ap behind_of (l ∙ behind-first e ∙ sym (append-nil (as_part out))) ∙ behind-back out []

    pub whole-last : Whole → ls ≡ as_part out ++ behind_of ls
    whole-last e = l ∙ behind-first e ∙ sym (append-nil (as_part out)) ∙ ap (λ m. as_part out ++ m) (sym (behind-last e))

    -- all that is left to test is that nothing stands behind the last part
    pub whole_by : (zs : List ℕ) → zs ≡ behind_of ls
        → ws ≡ ns ++ drop (length ns) ws → buffers ≡ as_part st ++ behind_of buffers → ls ≡ as_part out ++ behind_of ls
        → (eqb (length zs) 0 ≡ true) ↔ Whole
    whole_by zs z h i j = (
      λ t.
          let none = sym z ∙ none zs (eqb-true (length zs) 0 t) in
          let last = sym l ∙ j ∙ ap (λ m. as_part out ++ m) none ∙ append-nil (as_part out) in
          h ∙ ap (λ m. ns ++ m) (sym are ∙ i ∙ ap (λ m. as_part st ++ m) last),
      λ e. eq-eqb (length zs) 0 (ap length (z ∙ behind-last e)),
    )
