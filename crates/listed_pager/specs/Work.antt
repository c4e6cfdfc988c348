-- The work room of a graph in a listed case: what is lent, and what is left in it. Assumes nothing.
use Rattle.std.specs.Prelude.{◌&&◌, cond, List, ◌++◌, ◌≡◌, ℕ, ◌+◌, ◌-◌, ◌*◌, min, leb, eqb, length, replicate}
use Rattle.block.specs.Refusal.{refusal_of}
use Rattle.pager.specs.Call.{closed_part, kernel_part}
use Rattle.listed_block.specs.Rooms.{bounded_of}
use Rattle.listed_pager.specs.declared.work.Work.{Work}

-- the words lent where so many are needed: 7 more, if there is room
abbrev pub lent_of : ℕ → ℕ
lent_of n = bounded_of (bounded_of n + 7)

-- so many words of a good block, none of a bad one
abbrev pub of_good : List ℕ → ℕ → ℕ
of_good b n = cond (eqb (refusal_of b) 0) n 0

-- the words that a graph of so many states needs
abbrev pub work_of : List ℕ → ℕ → Work
work_of b S =
    record {
      marks = 2 * bounded_of S;
      closed = of_good b (closed_part b);
      kernel = of_good b (kernel_part b);
    }

-- the first words zero, so many, and those behind them the fill
abbrev pub Cleared : ℕ → ℕ → List ℕ → Type 0
Cleared zeros fill room = room ≡ replicate (min zeros (length room)) 0 ++ replicate (length room - zeros) fill

-- the words that the answer of that number leaves zero: 1 to 7 leave all as it was
abbrev pub zeros_of : ℕ → ℕ → ℕ
zeros_of number needed = cond (leb 1 number && leb number 7) 0 needed

-- the work room as the answer of that number leaves it
abbrev pub WorkLeft : ℕ → Work → ℕ → List ℕ → List ℕ → List ℕ → Type 0
WorkLeft number work fill marks closed kernel =
    Cleared (zeros_of number work.marks) fill marks
    × Cleared (zeros_of number work.closed) fill closed
    × Cleared (zeros_of number work.kernel) fill kernel
