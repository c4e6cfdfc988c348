-- The call's definitions computed on document 01's G1 and its tables: the answers, and what stack and output hold. Assumes nothing.
use mathlib.Core.List.{List, [], ◌∷◌, map}
use mathlib.Core.Path.{◌≡◌, refl}
use Prim.Native.Nat.{ℕ}
use lib.ListN.{length, replicate}
use Rattle.block.specs.Lists.{any, from, upto}
use Rattle.block.specs.Block.{body_of}
use Rattle.block.specs.Refusal.{short_block, too_large, misplaced, lengths, good_production, bad_production, start_again, bad_start, good_symbol, bad_symbol, good_prec, bad_precedence, first_fault, refusal_of}
use Rattle.pager.specs.Lists.{Answer, is, refused, find}
use Rattle.pager.specs.Memory.{pad}
use Rattle.pager.specs.Call.{some_less}
use Rattle.statetable.specs.Cell.{decode}
use Rattle.machine.specs.Call.{Call, called, room_short, turned_away, bad_token, machine_of, run_call, Verdict, told, stack_of, output_of}
use Rattle.machine.specs.declared.answers.Run.{Run}

abbrev g1 : List ℕ
g1 = 2 ∷ 2 ∷ 2 ∷ 2 ∷ 1 ∷ 0 ∷ 9 ∷ 17 ∷ 19 ∷ 0 ∷ 0 ∷ 1 ∷ 0 ∷ 1 ∷ 1 ∷ 1 ∷ 0 ∷ 2 ∷ 1 ∷ 0 ∷ 0 ∷ []

-- G1 with an input, a step limit, and stack and output of so many words, each of them 7
abbrev g1-on : List ℕ → (limit stack output : ℕ) → Call
g1-on w limit stack output =
    called g1 3 (9 ∷ 0 ∷ 0 ∷ 3 ∷ 0 ∷ 6 ∷ []) (0 ∷ 2 ∷ 0 ∷ 0 ∷ 0 ∷ 0 ∷ []) w limit (replicate stack 7) (replicate output 7)

-- the same with other cells
abbrev g1-with : (actions gotos w : List ℕ) → Call
g1-with actions gotos w = called g1 3 actions gotos w 9 (replicate 9 7) (replicate 9 7)

abbrev ran : Call → Answer (Verdict × Run) × List ℕ × List ℕ
ran a = (told (length a.input) (run_call a), stack_of (run_call a) a.stack, output_of (run_call a) a.output)

abbrev run : ℕ → ℕ → ℕ → ℕ → Run
run at k steps height = record { at = at; k = k; steps = steps; height = height }

samples : map ran
    (g1-on (0 ∷ []) 3 3 2
    ∷ g1-on [] 3 3 2
    ∷ g1-on (1 ∷ []) 3 3 2
    ∷ g1-on (0 ∷ []) 2 3 2
    ∷ g1-on (0 ∷ 0 ∷ []) 9 3 2
    ∷ g1-on (0 ∷ []) 3 1 2
    ∷ g1-on (0 ∷ []) 3 2 0
    ∷ g1-on [] 0 2 0
    ∷ g1-on (0 ∷ []) 3 0 0
    ∷ [])
    ≡ (is (Verdict.accept, run 1 1 3 2), 0 ∷ 1 ∷ 0 ∷ [], 1 ∷ 7 ∷ [])
    ∷ (is (Verdict.reject, run 0 0 1 1), 0 ∷ 0 ∷ 0 ∷ [], 7 ∷ 7 ∷ [])
    ∷ (refused (13 ∷ 0 ∷ []), 7 ∷ 7 ∷ 7 ∷ [], 7 ∷ 7 ∷ [])
    ∷ (is (Verdict.stopped 16, run 1 1 2 2), 0 ∷ 1 ∷ 0 ∷ [], 1 ∷ 7 ∷ [])
    ∷ (is (Verdict.reject, run 1 0 2 2), 0 ∷ 2 ∷ 0 ∷ [], 7 ∷ 7 ∷ [])
    ∷ (is (Verdict.stopped 14, run 0 0 0 1), 0 ∷ [], 7 ∷ 7 ∷ [])
    ∷ (is (Verdict.stopped 15, run 1 0 1 2), 0 ∷ 2 ∷ [], [])
    ∷ (is (Verdict.stopped 16, run 0 0 0 1), 0 ∷ 0 ∷ [], [])
    ∷ (refused (7 ∷ []), [], [])
    ∷ []
unfolding any upto from short_block too_large misplaced lengths good_production bad_production start_again bad_start good_symbol bad_symbol good_prec bad_precedence first_fault refusal_of body_of find pad some_less decode room_short turned_away bad_token machine_of run_call
samples = refl

-- 17: shift to no state and of the end token, accept at another token, reduce of no production, of the start production, of too many slots, no goto, and a goto to no state
bad-tables : map (λ a. told (length a.input) (run_call a))
    (g1-with (13 ∷ 0 ∷ 0 ∷ 3 ∷ 0 ∷ 6 ∷ []) (0 ∷ 2 ∷ 0 ∷ 0 ∷ 0 ∷ 0 ∷ []) (0 ∷ [])
    ∷ g1-with (9 ∷ 5 ∷ 0 ∷ 3 ∷ 0 ∷ 6 ∷ []) (0 ∷ 2 ∷ 0 ∷ 0 ∷ 0 ∷ 0 ∷ []) []
    ∷ g1-with (3 ∷ 0 ∷ 0 ∷ 3 ∷ 0 ∷ 6 ∷ []) (0 ∷ 2 ∷ 0 ∷ 0 ∷ 0 ∷ 0 ∷ []) (0 ∷ [])
    ∷ g1-with (9 ∷ 10 ∷ 0 ∷ 3 ∷ 0 ∷ 6 ∷ []) (0 ∷ 2 ∷ 0 ∷ 0 ∷ 0 ∷ 0 ∷ []) []
    ∷ g1-with (9 ∷ 2 ∷ 0 ∷ 3 ∷ 0 ∷ 6 ∷ []) (0 ∷ 2 ∷ 0 ∷ 0 ∷ 0 ∷ 0 ∷ []) []
    ∷ g1-with (9 ∷ 6 ∷ 0 ∷ 3 ∷ 0 ∷ 6 ∷ []) (0 ∷ 2 ∷ 0 ∷ 0 ∷ 0 ∷ 0 ∷ []) []
    ∷ g1-with (9 ∷ 0 ∷ 0 ∷ 3 ∷ 0 ∷ 6 ∷ []) (0 ∷ 0 ∷ 0 ∷ 0 ∷ 0 ∷ 0 ∷ []) (0 ∷ [])
    ∷ g1-with (9 ∷ 0 ∷ 0 ∷ 3 ∷ 0 ∷ 6 ∷ []) (0 ∷ 4 ∷ 0 ∷ 0 ∷ 0 ∷ 0 ∷ []) (0 ∷ [])
    ∷ [])
    ≡ is (Verdict.stopped 17, run 0 0 0 1)
    ∷ is (Verdict.stopped 17, run 0 0 0 1)
    ∷ is (Verdict.stopped 17, run 0 0 0 1)
    ∷ is (Verdict.stopped 17, run 0 0 0 1)
    ∷ is (Verdict.stopped 17, run 0 0 0 1)
    ∷ is (Verdict.stopped 17, run 0 0 0 1)
    ∷ is (Verdict.stopped 17, run 1 0 1 2)
    ∷ is (Verdict.stopped 17, run 1 0 1 2)
    ∷ []
unfolding any upto from short_block too_large misplaced lengths good_production bad_production start_again bad_start good_symbol bad_symbol good_prec bad_precedence first_fault refusal_of body_of find pad some_less decode room_short turned_away bad_token machine_of run_call
bad-tables = refl
