-- Cells and gotos stand in the lent tables where they are looked for. Assumes nothing.
use mathlib.Core.List.{List, [], ◌++◌}
use mathlib.Core.Path.{◌≡◌, ◌∙◌}
use Prim.Native.Nat.{ℕ, suc, ◌+◌, ◌*◌, ◌<◌}
use native.Mathlib.Nat.{mul-le-mul_right, suc-mul}
use native.Mathlib.Omega.{arith}
use lib.ListN.{length, get_or, take}
use lib.Seq.{get_or-take, length-take-le}
use Rattle.block.specs.Block.{rules}
use Rattle.pager.specs.Lists.{each}
use Rattle.pager.specs.Place.{State, Limits}
use Rattle.pager.specs.Graph.{nowhere}
use Rattle.pager.specs.Growing.{Growing}
use Rattle.pager.specs.Memory.{pad}
use Rattle.pager.proofs.Each.{each-length, each-get}
use Rattle.pager.proofs.Padded.{pad-at}
use Rattle.pager.proofs.Memory.{growing-width}
use Rattle.statetable.specs.ForTables.{flat, goto_words}
use Rattle.statetable.proofs.Widths.{Tabular}

-- word i of row s, each row w wide, in n words padded with zeros before others
module _ {A : Type 0} (f : A → List ℕ) (d : A) (w : ℕ) (xs : List A) (h : (s : ℕ) → s < length xs → length (f (get_or xs s d)) ≡ w) where
  row_read : (n : ℕ) (z : List ℕ) (s i : ℕ) → s < length xs → i < w → get_or (pad n (each f xs) ++ z) (s * w + i) 0 ≡ get_or (f (get_or xs s d)) i 0
  row_read n z s i l k =
      pad-at n (each f xs) z (s * w + i) (omega (arith, each-length f d w xs h, mul-le-mul_right {m = suc s} {n = length xs} w l, suc-mul s w))
      ∙ each-get f d w xs h s l i k

-- the cell of state s at token t
pub cell-read : (w : ℕ) (rs : List (List ℕ)) (N : ℕ) → Tabular N w rs → (n : ℕ) (z : List ℕ) (s t : ℕ) → s < N → t < w
    → get_or (pad n (flat rs) ++ z) (s * w + t) 0 ≡ get_or (get_or rs s []) t 0
cell-read w rs N R n z s t l k = row_read (λ r. r) [] w rs R.width n z s t (omega (arith, R.number)) k

-- the goto of state s for rule r
pub goto-read : (b : List ℕ) (m : Limits) (ss : List State) → Growing b m ss → (n : ℕ) (z : List ℕ) (s r : ℕ) → s < length ss → r < rules b
    → get_or (pad n (goto_words b ss) ++ z) (s * rules b + r) 0 ≡ get_or (get_or ss s nowhere).edges r 0
goto-read b m ss H n z s r l k =
    row_read (λ st. take (rules b) st.edges) nowhere (rules b) ss
    (λ i h. length-take-le (rules b) (get_or ss i nowhere).edges (omega (arith, growing-width H i h))) n z s r l k
    ∙ get_or-take (rules b) (get_or ss s nowhere).edges r 0 k
