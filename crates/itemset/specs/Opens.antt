-- What an item hands on: the productions that it opens, the rule and the tokens that it offers them. Assumes nothing.
use Rattle.std.specs.Prelude.{Bool, true, cond, Option, Some, None, List, [], ◌∷◌, ◌≡◌, ℕ, ◌/◌, ◌%◌, ◌<◌, eqb}
use Rattle.block.specs.Block.{prods, rule_of}
use Rattle.block.specs.Sets.{In}
use Rattle.block.specs.First.{Ahead, ahead_of}
use Rattle.itemset.specs.Close.{rest_of, handed}
use Rattle.itemset.specs.declared.closure.Offer.{Offer}

-- production q is of the rule behind the dot of item i, and w follows that rule
pub record Opens (b : List ℕ) (i q : ℕ) (w : List ℕ) : Type 0 where
  pub sym_at : ℕ
  pub is-rest : rest_of b i ≡ sym_at ∷ w
  pub even : eqb (sym_at % 2) 0 ≡ true
  pub below : q < prods b
  pub is-rule : rule_of b q ≡ sym_at / 2

-- what item i with the context s hands on has come in at each production of the rule behind its dot
pub record Done (b : List ℕ) (F : List Ahead) (here : ℕ → Bool) (ctx : ℕ → List ℕ) (i : ℕ) (s : List ℕ) : Type 0 where
  pub marks : (q : ℕ) (w : List ℕ) → Opens b i q w → here q ≡ true
  pub members : (q : ℕ) (w : List ℕ) → Opens b i q w → (t : ℕ) → In (handed s (ahead_of F w)) t → In (ctx q) t

-- an item with the context s before this rest offers the rule behind its dot and what it hands to its productions, if one is there
abbrev pub offer_at : List Ahead → List ℕ → List ℕ → Option (ℕ × List ℕ)
offer_at F s [] = None
offer_at F s (x ∷ w) = cond (eqb (x % 2) 0) (Some (x / 2, handed s (ahead_of F w))) None

unfoldable pub offer_of : List ℕ → List Ahead → ℕ → List ℕ → Option (ℕ × List ℕ)
offer_of b F i s = offer_at F s (rest_of b i)

-- an offer of the code as a pair
abbrev pub told : Option Offer → Option (ℕ × List ℕ)
told None = None
told (Some o) = Some (o.rule, o.set.words)
