-- Decimal numbers in a text, with blanks (bytes up to 32) between them. Assumes nothing.
use Rattle.std.specs.Prelude.{Bool, ◌||◌, cond, List, [], ◌∷◌, Option, Some, None, Result, Ok, Err, ℕ, suc, ◌+◌, ◌*◌, ◌-◌, ◌^◌, ltb, leb, length, drop}
use Rattle.words.specs.declared.scan.Fault.{Fault}

-- a number and the place behind it; nothing but blanks; or the place of a fault
pub data Read : Type 0 where
  number : (value place : ℕ) → Read
  end : Read
  fault : (place : ℕ) → Read

-- what an answer says of the text
abbrev pub read_of : Result (Option (ℕ × ℕ)) Fault → Read
read_of (Ok (Some w)) = number w.0 w.1
read_of (Ok None) = end
read_of (Err f) = fault f.place

abbrev pub number_of : Result (ℕ × ℕ) Fault → Read
number_of (Ok w) = number w.0 w.1
number_of (Err f) = fault f.place

abbrev pub no_blank : ℕ → Bool
no_blank c = ltb 32 c

-- the first place that holds no blank, the text standing from place k on
unfoldable pub skip_from : List ℕ → ℕ → ℕ
skip_from [] k = k
skip_from (c ∷ cs) k = cond (leb c 32) (skip_from cs (suc k)) k

-- the number with the digits so far worth v, the text standing from place k on
unfoldable pub digits_from : List ℕ → ℕ → ℕ → Read
digits_from [] k v = number v k
digits_from (c ∷ cs) k v =
    cond (leb c 32) (number v k)
    (cond (ltb c 48 || ltb 57 c) (fault k)
    (cond (ltb (v * 10 + (c - 48)) (2 ^ 64)) (digits_from cs (suc k) (v * 10 + (c - 48))) (fault k)))

-- the number that comes next from place k on
unfoldable pub next_word : List ℕ → ℕ → Read
next_word text k =
    let start = skip_from (drop k text) k in
    cond (ltb start (length text)) (digits_from (drop start text) start 0) end
