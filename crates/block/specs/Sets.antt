-- Token sets as lists of 64-bit words: token t is bit t mod 64 of word t div 64. Assumes nothing.
use Rattle.std.specs.Prelude.{Bool, true, false, not, ◌||◌, List, [], ◌∷◌, ◌≡◌, ℕ, zero, suc, ◌-◌, ◌/◌, ◌%◌, ◌^◌, ◌<◌, ◌≤◌, Option, Some, None, eqb, length, get_or, set, replicate}
use Rattle.std.specs.Int.Bits.{bit_or, bit_and}
use Rattle.block.specs.Limits.{WORDS, TOKENS}
use Rattle.block.specs.Lists.{keep, from, upto, same}

-- digit k of x
unfoldable pub bit : ℕ → ℕ → ℕ
bit x k = x / 2 ^ k % 2

-- whether t is a member of the words ws, however many they are
unfoldable pub mem : List ℕ → ℕ → Bool
mem ws t = eqb (bit (get_or ws (t / 64) 0) (t % 64)) 1

-- t is a member of ws
abbrev pub In : List ℕ → ℕ → Type 0
In ws t = mem ws t ≡ true

-- each word is one of 64 bits
abbrev pub Words : List ℕ → Type 0
Words ws = (i : ℕ) → get_or ws i 0 < 2 ^ 64

-- a set of n words
abbrev pub Fits : ℕ → List ℕ → Type 0
Fits n ws = (length ws ≡ n) × Words ws

unfoldable pub empty : List ℕ
empty = replicate WORDS 0

unfoldable pub with : List ℕ → ℕ → List ℕ
with ws t = set ws (t / 64) (bit_or (get_or ws (t / 64) 0) (2 ^ (t % 64)))

unfoldable pub join : List ℕ → List ℕ → List ℕ
join [] bs = bs
join (a ∷ as₁) [] = a ∷ as₁
join (a ∷ as₁) (b ∷ bs) = bit_or a b ∷ join as₁ bs

unfoldable pub meets : List ℕ → List ℕ → Bool
meets [] bs = false
meets (a ∷ as₁) [] = false
meets (a ∷ as₁) (b ∷ bs) = not (eqb (bit_and a b) 0) || meets as₁ bs

abbrev pub same_set : List ℕ → List ℕ → Bool
same_set = same eqb

-- the least member from t on and below t + n, else t + n
unfoldable pub seek : List ℕ → ℕ → ℕ → ℕ
seek ws zero t = t
seek ws (suc n) t = elim (mem ws t) [ true ↦ t | false ↦ seek ws n (suc t) ]

-- for t up to TOKENS: the least member from t on, or TOKENS
unfoldable pub next_of : List ℕ → ℕ → ℕ
next_of ws t = seek ws (TOKENS - t) t

-- the members below n, ascending
unfoldable pub members : ℕ → List ℕ → List ℕ
members n ws = keep (mem ws) (upto n)

-- the members from t on and below TOKENS, ascending
unfoldable pub members_from : List ℕ → ℕ → List ℕ
members_from ws t = keep (mem ws) (from t (TOKENS - t))

-- no member of ws from t up to r
abbrev pub NoneIn : List ℕ → ℕ → ℕ → Type 0
NoneIn ws t r = (u : ℕ) → t ≤ u → u < r → mem ws u ≡ false

-- r is the least member from t on, None where there is none
abbrev pub IsNextOf : List ℕ → ℕ → Option ℕ → Type 0
IsNextOf ws t None = (u : ℕ) → t ≤ u → mem ws u ≡ false
IsNextOf ws t (Some r) = (t ≤ r) × In ws r × NoneIn ws t r

-- the number that stands for such an answer: TOKENS for None
abbrev pub or_tokens : Option ℕ → ℕ
or_tokens None = TOKENS
or_tokens (Some t) = t
