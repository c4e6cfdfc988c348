-- When a line of a good block's FIRST sets holds, by its two parts. Assumes nothing.
use Rattle.std.proofs.Common.{Bool, true, List, [], ◌++◌, map, ◌≡◌, ◌↔◌, refl, sym, ap, ◌∙◌, subst, ℕ, ◌≤◌, length, take, arith}
use mathlib.Core.List.{append-nil}
use Rattle.words.specs.Parts.{part_of, behind_of}
use Rattle.words.specs.Given.{as_part}
use lib.ListN.{get_or}
use Rattle.words.proofs.PartLaws.{cut-not}
use Rattle.words.proofs.GivenLaws.{part-back, behind-back}
use Rattle.block.specs.Block.{rules}
use Rattle.block.specs.Limits.{RULES}
use Rattle.block.specs.Lists.{same}
use Rattle.block.specs.First.{is_null, ahead_same, round_of, firsts_of}
use Rattle.block.specs.Firsts.{AheadsAre}
use Rattle.block.specs.declared.lookahead.Lookahead.{Lookahead}
use Rattle.block.proofs.Settle.{settle-keeps}
use Rattle.block.proofs.FirstGrows.{fuel, Sized, round-sized, start-sized, firsts-settle}
use Rattle.listed_block.specs.Cases.{mark_of, first_words}
use Rattle.listed_block.specs.Aheads.{marks_of, words_of}
use Rattle.listed_block.proofs.AheadLaws.{stored}

-- as many as there are rules
firsts-count : (b : List ℕ) → length (firsts_of b) ≡ rules b
firsts-count b = (subst (Sized b) (sym (firsts-settle b)) (settle-keeps (same ahead_same) (round_of b) (Sized b) (round-sized b) (fuel b) _ (start-sized b))).size

module _ (b : List ℕ) where
  abbrev nulls : List ℕ
  nulls = map (λ a. mark_of (is_null a)) (firsts_of b)

  abbrev sets : List ℕ
  sets = first_words (firsts_of b)

  module _ (ws : List ℕ) where
    abbrev pub Line : Type 0
    Line = ws ≡ as_part nulls ++ as_part sets

    module _ (marks rest : List ℕ) (e : ws ≡ as_part marks ++ rest) where
      marks-are : Line → marks ≡ nulls
      marks-are w = sym (part-back marks rest) ∙ ap part_of (sym e ∙ w) ∙ part-back nulls (as_part sets)

      rest-is : Line → rest ≡ as_part sets ++ []
      rest-is w = sym (behind-back marks rest) ∙ ap behind_of (sym e ∙ w) ∙ behind-back nulls (as_part sets) ∙ sym (append-nil (as_part sets))

      pub no-sets : length rest ≤ get_or rest 0 0 → Line → ⊥
      no-sets h w = cut-not rest sets [] h (rest-is w)

      -- the rules as they are stored
      module _ (all : List Lookahead) (r : AheadsAre all (firsts_of b)) (l : length all ≡ RULES) (n : ℕ) (k : n ≡ rules b) (m : n ≤ RULES) where
        both : (marks_of (take n all) ≡ nulls) × (words_of (take n all) ≡ sets)
        both =
            let z : length (firsts_of b) ≡ n = firsts-count b ∙ sym k in
            subst (λ j. (marks_of (take j all) ≡ nulls) × (words_of (take j all) ≡ sets)) z
            (stored (firsts_of b) all (omega (arith, z)) (λ j h. r.rule j (omega (arith, z))))

        pub marks-differ : (marks ≡ marks_of (take n all) → ⊥) → Line → ⊥
        marks-differ f w = f (marks-are w ∙ sym both.0)

        module _ (words behind : List ℕ) (z : rest ≡ as_part words ++ behind) where
          pub sets-differ : (words ≡ words_of (take n all) → ⊥) → Line → ⊥
          sets-differ f w = f (sym (part-back words behind) ∙ ap part_of (sym z ∙ rest-is w) ∙ part-back sets [] ∙ sym both.1)

          -- all agree: the end decides
          pub line-by : {r : Bool} → marks ≡ marks_of (take n all) → words ≡ words_of (take n all) → (r ≡ true) ↔ (behind ≡ []) → (r ≡ true) ↔ Line
          line-by m' w' i = (
            λ t. e ∙ rw (m' ∙ both.0, z, w' ∙ both.1, i.0 t, append-nil (as_part sets)) refl,
            λ w. i.1 (sym (behind-back words behind) ∙ ap behind_of (sym z ∙ rest-is w) ∙ behind-back sets []),
          )
