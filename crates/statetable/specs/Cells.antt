-- Filling the cells: a fold of the events of each state, with the two lists, the precedence count, and the first refusal. Assumes nothing.
use Rattle.std.specs.Prelude.{◌&&◌, cond, List, [], ◌∷◌, ◌++◌, ℕ, suc, ltb, eqb, length, get_or, set, replicate}
use Rattle.block.specs.Block.{tokens, end_token_of, start_prod}
use Rattle.block.specs.First.{Ahead}
use Rattle.pager.specs.Lists.{Answer, is, refused, walk}
use Rattle.pager.specs.Place.{State}
use Rattle.statetable.specs.Cell.{decode}
use Rattle.statetable.specs.Events.{Event, completes, leads, events_of}
use Rattle.statetable.specs.Verdict.{Verdict, writes, two-reduces, unsettled, settled, stops, on_reduce, on_shift}
use Rattle.statetable.specs.declared.records.Caps.{Caps}

pub data ReduceReduce : Type 0 where
  reduce-reduce : (token smaller other state : ℕ) → ReduceReduce

pub data ShiftReduce : Type 0 where
  shift-reduce : (token production state : ℕ) → ShiftReduce

-- the records of both lists, in order, and the choices made by precedence
pub record Told : Type 0 where
  pub rr : List ReduceReduce
  pub sr : List ShiftReduce
  pub count : ℕ

-- the cells of one state, and its offered marks
pub record Fill : Type 0 where
  pub cells : List ℕ
  pub offered : List ℕ
  pub told : Told

-- ---- one event
abbrev pub write : ℕ → ℕ → Fill → Fill
write t w f = record { cells = set f.cells t w; offered = f.offered; told = f.told }

abbrev pub offer : ℕ → Fill → Fill
offer t f = record { cells = f.cells; offered = set f.offered t 1; told = f.told }

abbrev pub tell : Told → Fill → Fill
tell k f = record { cells = f.cells; offered = f.offered; told = k }

abbrev pub with_rr : ReduceReduce → Told → Told
with_rr r k = record { rr = k.rr ++ (r ∷ []); sr = k.sr; count = k.count }

abbrev pub with_sr : ShiftReduce → Told → Told
with_sr r k = record { rr = k.rr; sr = k.sr ++ (r ∷ []); count = k.count }

abbrev pub counted : Told → Told
counted k = record { rr = k.rr; sr = k.sr; count = suc k.count }

-- the verdict on cell t of state s, the lists having room for m; a record that does not fit is 10
unfoldable pub settle : Caps → (s t : ℕ) → Verdict → Fill → Answer Fill
settle m s t (writes w) f = is (write t w f)
settle m s t (two-reduces w a o) f =
    cond (ltb (length f.told.rr) m.rr) (is (write t w (tell (with_rr (reduce-reduce t a o s) f.told) f))) (refused (10 ∷ []))
settle m s t (unsettled w p) f =
    cond (ltb (length f.told.sr) m.sr) (is (write t w (tell (with_sr (shift-reduce t p s) f.told) f))) (refused (10 ∷ []))
settle m s t (settled w) f = is (write t w (tell (counted f.told) f))
settle m s t (stops values) f = refused values

unfoldable pub fill : List ℕ → Caps → ℕ → Fill → Event → Answer Fill
fill b m s f (completes t p) =
    settle m s t (on_reduce (eqb p (start_prod b) && eqb t (end_token_of b)) p (decode (get_or f.cells t 0))) (offer t f)
fill b m s f (leads t u) = settle m s t (on_shift b s t u (decode (get_or f.cells t 0))) (offer t f)

-- ---- one state, its row still empty
abbrev pub fresh : List ℕ → Told → Fill
fresh b k = record { cells = replicate (tokens b) 0; offered = replicate (tokens b) 0; told = k }

unfoldable pub fill_state : List ℕ → List Ahead → Caps → ℕ → Told → State → Answer Fill
fill_state b F m s k st = walk (fill b m s) (fresh b k) (events_of b F st)

-- ---- all states, in order: the rows so far, so that their number is the number of the next state
pub record Rows : Type 0 where
  pub cells : List (List ℕ)
  pub offered : List (List ℕ)
  pub told : Told

abbrev pub row_added : Rows → Fill → Rows
row_added d f = record { cells = d.cells ++ (f.cells ∷ []); offered = d.offered ++ (f.offered ∷ []); told = f.told }

abbrev pub added : Rows → Answer Fill → Answer Rows
added d (is f) = is (row_added d f)
added d (refused why) = refused why

unfoldable pub fill_next : List ℕ → List Ahead → Caps → Rows → State → Answer Rows
fill_next b F m d st = added d (fill_state b F m (length d.cells) d.told st)

abbrev pub no_rows : Rows
no_rows = record { cells = []; offered = []; told = record { rr = []; sr = []; count = 0 } }

unfoldable pub cells_of : List ℕ → List Ahead → Caps → List State → Answer Rows
cells_of b F m ss = walk (fill_next b F m) no_rows ss
