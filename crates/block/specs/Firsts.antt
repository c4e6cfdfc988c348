-- How the entries of rule 1 lie in an array, a rule at each place. Assumes nothing.
use Rattle.std.specs.Prelude.{Bool, false, List, [], ◌↔◌, ◌≡◌, ℕ, ◌<◌, length, get_or}
use Rattle.block.specs.Limits.{WORDS, RULES}
use Rattle.block.specs.First.{Ahead, nothing, AheadIs}
use Rattle.block.specs.declared.lookahead.Lookahead.{Lookahead}

-- no rule's
abbrev pub unread : Lookahead
unread = record { null = false; set = record { words = [] } }

-- the array holds F
abbrev pub AheadsHold : List Lookahead → List Ahead → Type 0
AheadsHold aheads F = (r : ℕ) → r < RULES → AheadIs (get_or aheads r unread) (get_or F r nothing)

-- and in sets of WORDS words
pub record AheadsAre (aheads : List Lookahead) (F : List Ahead) : Type 0 where
  pub rule : AheadsHold aheads F
  pub size : (r : ℕ) → r < RULES → length (get_or aheads r unread).set.words ≡ WORDS

-- the array went from F to G, and the answer tells whether that changed anything
pub record Rounded (F G : List Ahead) (grew : Bool) (aheads : List Lookahead) : Type 0 where
  pub are : AheadsAre aheads G
  pub still : (grew ≡ false) ↔ (G ≡ F)
