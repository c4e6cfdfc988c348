-- A line with its first number. Assumes nothing.
use mathlib.Core.Bool.{Bool, true, false}
use mathlib.Core.Logic.{◌↔◌}
use mathlib.Core.List.{List, [], ◌∷◌}
use mathlib.Core.Path.{◌≡◌, sym, ap, ◌∙◌}
use Prim.Native.Nat.{ℕ}
use native.Mathlib.Omega.{arith}
use lib.ListN.{length, get_or, drop}
use Rattle.words.specs.Given.{Given}
use Rattle.words.proofs.Answers.{says-no}
use Rattle.listed_block.specs.Rooms.{BLOCK}
use Rattle.listed_machine.specs.Cases.{InputCase, TablesCase}

module _ (b rest : List ℕ) where
  pub tables-none : length rest ≡ 0 → (false ≡ true) ↔ TablesCase b rest
  tables-none h = says-no (λ q. omega (arith, h, ap length q.words))

-- the tables decide
pub tables-by : {r : Bool} (b rest : List ℕ) (states : ℕ) (ws : List ℕ) → rest ≡ states ∷ ws
    → (r ≡ true) ↔ Given BLOCK (InputCase b states) ws → (r ≡ true) ↔ TablesCase b rest
tables-by b rest states ws e i = (
  λ t. record { states = states; tables = ws; words = e; holds = i.0 t },
  λ q.
      let w : q.states ∷ q.tables ≡ states ∷ ws = sym q.words ∙ e in
      let s = ap (λ x. get_or x 0 0) w in
      let t = ap (drop 1) w in
      i.1 (rw (← s, ← t) q.holds),
)
