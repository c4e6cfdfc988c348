-- Rule 5: a kernel finds its state. Assumes nothing.
use Rattle.std.specs.Prelude.{Bool, true, false, ◌&&◌, List, [], ◌∷◌, ◌++◌, ℕ, suc, ◌+◌, ltb, leb, eqb, length, replicate}
use Rattle.std.proofs.Math.Option.{none, some}
use Rattle.block.specs.Lists.{change}
use Rattle.block.specs.Block.{tokens, rules}
use Rattle.itemset.specs.Rows.{Row, same_rows}
use Rattle.pager.specs.Lists.{find, Answer, is, refused}
use Rattle.pager.specs.Weak.{compatible, union}

-- A state: the symbol it was made for, plus one (0: none); its kernel; its edges, rules before tokens, each the target plus one (0: none);
-- whether it is closed.
pub record State : Type 0 where
  pub made : ℕ
  pub rows : List Row
  pub edges : List ℕ
  pub closed : Bool

-- the caller's limits: S states, I kernel items
pub record Limits : Type 0 where
  pub states : ℕ
  pub items : ℕ

-- the kernel items of all states
unfoldable pub items : List State → ℕ
items [] = 0
items (st ∷ ss) = length st.rows + items ss

-- a new state, made for m
unfoldable pub new : List ℕ → ℕ → List Row → State
new b m K = record { made = m; rows = K; edges = replicate (rules b + tokens b) 0; closed = false }

-- a state takes the union, and is to be closed again if it grew
unfoldable pub take_in : List Row → State → State
take_in K st =
    let u : List Row = union st.rows K in
    record { made = st.made; rows = u; edges = st.edges; closed = st.closed && same_rows u st.rows }

unfoldable pub is_equal : ℕ → List Row → State → Bool
is_equal m K st = eqb st.made m && same_rows st.rows K

unfoldable pub is_weak : ℕ → List Row → State → Bool
is_weak m K st = eqb st.made m && compatible st.rows K

-- a state more, if it fits, and then its items
unfoldable pub add_state : List ℕ → Limits → List State → ℕ → List Row → Answer (ℕ × List State)
add_state b m ss made K =
    elim (ltb (length ss) m.states) [
      | false ↦ refused (8 ∷ [])
      | true ↦
          elim (leb (items ss + length K) m.items) [
            | false ↦ refused (9 ∷ [])
            | true ↦ is (length ss, ss ++ (new b made K ∷ []))
          ]
    ]

-- The kernel K, made for symbol x, finds its state: the number, and the states then.
unfoldable pub place_of : List ℕ → Limits → List State → ℕ → List Row → Answer (ℕ × List State)
place_of b m ss x K =
    elim (find (is_equal (suc x) K) 0 ss) [
      | some n ↦ is (n, ss)
      | none ↦
          elim (find (is_weak (suc x) K) 0 ss) [
            | some n ↦ is (n, change (take_in K) n ss)
            | none ↦ add_state b m ss (suc x) K
          ]
    ]
