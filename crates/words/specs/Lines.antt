-- Lines of numbers in a text: a count, then so many numbers, put into the first slots. Assumes nothing.
use Rattle.std.specs.Prelude.{cond, List, Option, Some, None, Result, Ok, Err, ℕ, zero, suc, ◌≤◌, ◌≡◌, leb, length, set, take}
use Rattle.words.specs.declared.scan.Fault.{Fault}
use Rattle.words.specs.Words.{Read, number, end, fault, next_word, read_of}

-- how many numbers and the place behind them; nothing but blanks; or the place of a fault
abbrev pub line_of : Result (Option (ℕ × ℕ)) Fault → Read
line_of = read_of

-- n numbers and the place behind them
abbrev pub filled : ℕ → Result ℕ Fault → Read
filled n (Ok k) = number n k
filled n (Err f) = fault f.place

-- the numbers of an answer lie in the slots
abbrev pub Fits : Result (Option (ℕ × ℕ)) Fault → List ℕ → Type 0
Fits (Ok (Some l)) out = (l.0 ≤ length out) × (l.0 ≡ length (take l.0 out))
Fits (Ok None) out = Unit
Fits (Err f) out = Unit

module _ {A : Type 0} where
  -- by cases of what was read
  abbrev pub reading : Read → (ℕ → ℕ → A) → A → (ℕ → A) → A
  reading (number v k) f e g = f v k
  reading end f e g = e
  reading (fault k) f e g = g k

-- n numbers more from place k on, put into the slots from i on; the text must not end before
unfoldable pub fill_from : List ℕ → ℕ → ℕ → ℕ → List ℕ → Read × List ℕ
fill_from text zero k i out = (number i k, out)
fill_from text (suc n) k i out =
    reading (next_word text k)
    (λ v p. fill_from text n p (suc i) (set out i v))
    (fault (length text), out)
    (λ p. (fault p, out))

-- the line that comes next from place k on
unfoldable pub line_from : List ℕ → ℕ → List ℕ → Read × List ℕ
line_from text k out =
    reading (next_word text k)
    (λ n p. cond (leb n (length out)) (fill_from text n p 0 out) (fault p, out))
    (end, out)
    (λ p. (fault p, out))
