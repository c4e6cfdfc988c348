-- What is expected of a build: numbers, then the buffers as parts, then the work room. Assumes nothing.
use mathlib.Core.List.{List, ◌++◌}
use mathlib.Core.Path.{◌≡◌, sym, ap, ◌∙◌}
use Prim.Native.Nat.{ℕ, ◌≤◌}
use native.Mathlib.Omega.{arith}
use lib.ListN.{length, drop, length-append}
use lib.Seq.{drop-append_seam}
use Rattle.words.specs.Given.{as_part}
use Rattle.words.specs.Parts.{behind_of}
use Rattle.words.proofs.PartLaws.{part-tail}
use Rattle.listed_statetable.proofs.Tails.{from}
use Rattle.listed_statetable.proofs.PartLists.{behind-three-is}

-- ---- numbers, as many as ns has, and more words
module _ (ws ns numbers more : List ℕ) (k : ℕ) (e : ns ≡ numbers) (count : k ≡ length ns) where
  behind-numbers : from k ws ≡ drop (length ns) ws
  behind-numbers = part-tail k ws ∙ ap (λ j. drop j ws) count

  module _ (w : ws ≡ numbers ++ more) where
    all_words : ws ≡ ns ++ more
    all_words = rw e w

    pub enough : k ≤ length ws
    enough = omega (arith, count, ap length all_words, length-append ns more)

    pub more-is : from k ws ≡ more
    more-is = behind-numbers ∙ ap (drop (length ns)) all_words ∙ drop-append_seam ns more

    pub numbers-first : ws ≡ ns ++ drop (length ns) ws
    numbers-first = all_words ∙ ap (λ l. ns ++ l) (sym more-is ∙ behind-numbers)

  pub numbers-and : ws ≡ ns ++ drop (length ns) ws → from k ws ≡ more → ws ≡ numbers ++ more
  numbers-and f m = f ∙ rw e (ap (λ l. numbers ++ l) (rw (sym e) (sym behind-numbers ∙ m)))

-- ---- three parts and more words: the three are compared, then the others
module _ (ws next a b c more : List ℕ) (n : next ≡ behind_of (behind_of (behind_of ws))) where
  pub three-behind : ws ≡ as_part a ++ (as_part b ++ (as_part c ++ more)) → next ≡ more
  three-behind e = n ∙ behind-three-is ws a b c more e

  pub three-and : ws ≡ as_part a ++ (as_part b ++ (as_part c ++ behind_of (behind_of (behind_of ws)))) → next ≡ more
      → ws ≡ as_part a ++ (as_part b ++ (as_part c ++ more))
  three-and f m = f ∙ ap (λ l. as_part a ++ (as_part b ++ (as_part c ++ l))) (sym n ∙ m)
