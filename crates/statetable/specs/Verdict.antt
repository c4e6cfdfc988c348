-- What a reduce or a shift makes of the cell that it comes to. Assumes nothing.
use Rattle.std.specs.Prelude.{Bool, ◌||◌, cond, List, [], ◌∷◌, ℕ, suc, ◌/◌, ◌%◌, min, max, ltb, eqb}
use Rattle.knuth.specs.Tables.{Action}
use Rattle.block.specs.Block.{prod_prec, token_prec}
use Rattle.statetable.specs.Cell.{encode}

-- The cell's word then, and what is told beside it.
pub data Verdict : Type 0 where
  writes : (word : ℕ) → Verdict
  -- two reduces met: recorded
  two-reduces : (word smaller other : ℕ) → Verdict
  -- a shift met a reduce of p, and a precedence is missing: recorded
  unsettled : (word p : ℕ) → Verdict
  -- a shift met a reduce, and precedence settled it: counted
  settled : (word : ℕ) → Verdict
  -- refusal 11 or 12 with its values
  stops : (values : List ℕ) → Verdict

-- the precedence of a production: its word, and nothing else
abbrev pub precedence_of : List ℕ → ℕ → ℕ
precedence_of b p = prod_prec b p

-- ---- a reduce of p comes; `accepts` if it is that of the start production at the end token
abbrev pub on_reduce : Bool → ℕ → Action → Verdict
on_reduce accepts p Action.error = writes (encode (cond accepts Action.accept (Action.reduce p)))
-- (complete items come before edges: no shift is there yet)
on_reduce accepts p (Action.shift u) = writes (encode (Action.shift u))
on_reduce accepts p Action.accept = stops (11 ∷ 0 ∷ p ∷ [])
on_reduce accepts p (Action.reduce r) =
    cond accepts (stops (11 ∷ suc r ∷ p ∷ [])) (two-reduces (encode (Action.reduce (min r p))) (min r p) (max r p))

-- ---- a shift to u comes
-- equal levels and kinds: left reduces, right shifts, nonassoc writes an error
abbrev pub by_kind : ℕ → Action → Action → Action
by_kind kind sh re = cond (eqb kind 1) re (cond (eqb kind 2) sh Action.error)

-- the precedences of the token and of the production, if both are there: the higher level wins
unfoldable pub resolve : (tp pp : ℕ) → Action → Action → List ℕ → Verdict
resolve tp pp sh re mixed =
    cond (ltb (tp / 4) (pp / 4)) (settled (encode re))
    (cond (ltb (pp / 4) (tp / 4)) (settled (encode sh))
    (cond (eqb tp pp) (settled (encode (by_kind (tp % 4) sh re))) (stops mixed)))

abbrev pub on_shift : List ℕ → (s t u : ℕ) → Action → Verdict
on_shift b s t u Action.error = writes (encode (Action.shift u))
on_shift b s t u (Action.shift v) = writes (encode (Action.shift u))
on_shift b s t u Action.accept = writes (encode (Action.shift u))
on_shift b s t u (Action.reduce p) =
    cond (eqb (token_prec b t) 0 || eqb (precedence_of b p) 0) (unsettled (encode (Action.shift u)) p)
    (resolve (token_prec b t) (precedence_of b p) (Action.shift u) (Action.reduce p) (12 ∷ t ∷ p ∷ s ∷ []))
