-- When a line of the lists of blocks, right sides and FIRST sets holds. Assumes nothing.
use Rattle.std.specs.Prelude.{Bool, cond, List, [], ◌∷◌, ◌++◌, map, ◌≡◌, ℕ}
use Rattle.words.specs.Given.{as_part, Given}
use Rattle.block.specs.Refusal.{refusal_of, body_refusal, body_part, Good}
use Rattle.block.specs.First.{Ahead, is_null, first_in, firsts_of}
use Rattle.listed_block.specs.Rooms.{BLOCK}

-- blocks.txt: [block] → number
abbrev pub BlockCase : List ℕ → Type 0
BlockCase = Given BLOCK (λ b rest. rest ≡ refusal_of b ∷ [])

-- bodies.txt: [block] production → number [body]
abbrev pub BodyCase : List ℕ → Type 0
BodyCase = Given BLOCK (λ b rest. (p : ℕ) × (rest ≡ p ∷ body_refusal b p ∷ as_part (body_part b p)))

-- a mark: 1 for true
abbrev pub mark_of : Bool → ℕ
mark_of c = cond c 1 0

-- the words of the FIRST sets, one behind the other
unfoldable pub first_words : List Ahead → List ℕ
first_words [] = []
first_words (a ∷ F) = first_in a ++ first_words F

-- firsts.txt: [good block] → [nullable marks] [FIRST words]
abbrev pub FirstsCase : List ℕ → Type 0
FirstsCase = Given BLOCK (λ b rest. Good b × (rest ≡ as_part (map (λ a. mark_of (is_null a)) (firsts_of b)) ++ as_part (first_words (firsts_of b))))
