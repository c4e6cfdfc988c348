-- Document 01's sample grammars as one list, those marked * among them, and one grammar more for each error that looks right and that they do not notice:
-- what is asked, and what must be seen. Assumes nothing.
use Rattle.std.specs.Prelude.{List, [], ◌∷◌, map, ◌≡◌, ℕ}
use Rattle.statetable.specs.declared.call.Counts.{Counts}
use Rattle.machine.specs.Limits.{STEPS}
use Rattle.machine.specs.Call.{Verdict}
use Rattle.demand3.specs.Starred.{Ask, whole, cell, states, count, run, Seen, refusal, tables, word, kernels, number, ends, see}

-- ---- the grammars
-- G1: start → A, A → token 0
abbrev pub g1 : List ℕ
g1 = 2 ∷ 2 ∷ 2 ∷ 2 ∷ 1 ∷ 0 ∷ 9 ∷ 17 ∷ 19 ∷ 0 ∷ 0 ∷ 1 ∷ 0 ∷ 1 ∷ 1 ∷ 1 ∷ 0 ∷ 2 ∷ 1 ∷ 0 ∷ 0 ∷ []

-- its first 20 words
abbrev pub g1-short : List ℕ
g1-short = 2 ∷ 2 ∷ 2 ∷ 2 ∷ 1 ∷ 0 ∷ 9 ∷ 17 ∷ 19 ∷ 0 ∷ 0 ∷ 1 ∷ 0 ∷ 1 ∷ 1 ∷ 1 ∷ 0 ∷ 2 ∷ 1 ∷ 0 ∷ []

-- T = 257
abbrev pub g1-large : List ℕ
g1-large = 257 ∷ 2 ∷ 2 ∷ 2 ∷ 1 ∷ 0 ∷ 9 ∷ 17 ∷ 19 ∷ 0 ∷ 0 ∷ 1 ∷ 0 ∷ 1 ∷ 1 ∷ 1 ∷ 0 ∷ 2 ∷ 1 ∷ 0 ∷ 0 ∷ []

-- G2: start → E, E → E − E, E → n, with the precedence words of E → E − E and of minus
abbrev pub g2 : (p m : ℕ) → List ℕ
g2 p m = 3 ∷ 2 ∷ 3 ∷ 5 ∷ 2 ∷ 0 ∷ 9 ∷ 21 ∷ 26 ∷ 0 ∷ 0 ∷ 1 ∷ 0 ∷ 1 ∷ 1 ∷ 3 ∷ p ∷ 1 ∷ 4 ∷ 1 ∷ 0 ∷ 2 ∷ 2 ∷ 1 ∷ 2 ∷ 3 ∷ m ∷ 0 ∷ 0 ∷ []

-- 0 start → S, 1 S → S, 2 S → a
abbrev pub loop : List ℕ
loop = 2 ∷ 2 ∷ 3 ∷ 3 ∷ 1 ∷ 0 ∷ 9 ∷ 21 ∷ 24 ∷ 0 ∷ 0 ∷ 1 ∷ 0 ∷ 1 ∷ 1 ∷ 1 ∷ 0 ∷ 1 ∷ 2 ∷ 1 ∷ 0 ∷ 2 ∷ 2 ∷ 1 ∷ 0 ∷ 0 ∷ []

-- 0 S → S, 1 S → a, 2 start → S
abbrev pub loop-first : List ℕ
loop-first = 2 ∷ 2 ∷ 3 ∷ 3 ∷ 1 ∷ 2 ∷ 9 ∷ 21 ∷ 24 ∷ 1 ∷ 0 ∷ 1 ∷ 0 ∷ 1 ∷ 1 ∷ 1 ∷ 0 ∷ 0 ∷ 2 ∷ 1 ∷ 0 ∷ 2 ∷ 1 ∷ 2 ∷ 0 ∷ 0 ∷ []

-- start → S, S → aAd | bBd | aBe | bAe, A → c, B → c: the kernels after ac and bc are not merged
abbrev pub not-lalr : List ℕ
not-lalr = 6 ∷ 4 ∷ 7 ∷ 15 ∷ 5 ∷ 0 ∷ 9 ∷ 37 ∷ 52
    ∷ 0 ∷ 0 ∷ 1 ∷ 0 ∷ 1 ∷ 1 ∷ 3 ∷ 0 ∷ 1 ∷ 4 ∷ 3 ∷ 0 ∷ 1 ∷ 7 ∷ 3 ∷ 0 ∷ 1 ∷ 10 ∷ 3 ∷ 0 ∷ 2 ∷ 13 ∷ 1 ∷ 0 ∷ 3 ∷ 14 ∷ 1 ∷ 0
    ∷ 2 ∷ 1 ∷ 4 ∷ 7 ∷ 3 ∷ 6 ∷ 7 ∷ 1 ∷ 6 ∷ 9 ∷ 3 ∷ 4 ∷ 9 ∷ 5 ∷ 5
    ∷ 0 ∷ 0 ∷ 0 ∷ 0 ∷ 0 ∷ 0 ∷ []

-- start → A, A → B A B, B → A A | A B B: a kernel comes that equals one state and is weakly compatible with an earlier one
abbrev pub equal-later : List ℕ
equal-later = 1 ∷ 3 ∷ 4 ∷ 9 ∷ 0 ∷ 0 ∷ 9 ∷ 25 ∷ 34
    ∷ 0 ∷ 0 ∷ 1 ∷ 0 ∷ 1 ∷ 1 ∷ 3 ∷ 0 ∷ 2 ∷ 4 ∷ 2 ∷ 0 ∷ 2 ∷ 6 ∷ 3 ∷ 0
    ∷ 2 ∷ 4 ∷ 2 ∷ 4 ∷ 2 ∷ 2 ∷ 2 ∷ 4 ∷ 4
    ∷ 0 ∷ []

-- start → A, A → D b | B C, B → b, C without a production, D → nothing: in state 0 the item of B → b has an empty context, and b is shifted all the same
abbrev pub no-context : List ℕ
no-context = 2 ∷ 5 ∷ 5 ∷ 6 ∷ 1 ∷ 0 ∷ 9 ∷ 29 ∷ 35
    ∷ 0 ∷ 0 ∷ 1 ∷ 0 ∷ 1 ∷ 1 ∷ 2 ∷ 0 ∷ 1 ∷ 3 ∷ 2 ∷ 0 ∷ 2 ∷ 5 ∷ 1 ∷ 0 ∷ 4 ∷ 6 ∷ 0 ∷ 0
    ∷ 2 ∷ 8 ∷ 1 ∷ 4 ∷ 6 ∷ 1
    ∷ 0 ∷ 0 ∷ []

-- ---- the kernels of `equal-later`, a line for each state, then first item and number of items of each, then the edges
abbrev pub equal-later-items : List ℕ
equal-later-items =
    0 ∷ 1 ∷ 0 ∷ 0 ∷ 0
    ∷ 1 ∷ 1 ∷ 0 ∷ 0 ∷ 0 ∷ 257 ∷ 0 ∷ 0 ∷ 0 ∷ 0 ∷ 385 ∷ 0 ∷ 0 ∷ 0 ∷ 0
    ∷ 129 ∷ 1 ∷ 0 ∷ 0 ∷ 0
    ∷ 129 ∷ 1 ∷ 0 ∷ 0 ∷ 0 ∷ 386 ∷ 1 ∷ 0 ∷ 0 ∷ 0
    ∷ 257 ∷ 1 ∷ 0 ∷ 0 ∷ 0 ∷ 258 ∷ 1 ∷ 0 ∷ 0 ∷ 0 ∷ 385 ∷ 1 ∷ 0 ∷ 0 ∷ 0
    ∷ 130 ∷ 1 ∷ 0 ∷ 0 ∷ 0 ∷ 257 ∷ 1 ∷ 0 ∷ 0 ∷ 0 ∷ 385 ∷ 1 ∷ 0 ∷ 0 ∷ 0
    ∷ 129 ∷ 0 ∷ 0 ∷ 0 ∷ 0 ∷ 387 ∷ 1 ∷ 0 ∷ 0 ∷ 0
    ∷ 129 ∷ 1 ∷ 0 ∷ 0 ∷ 0 ∷ 131 ∷ 1 ∷ 0 ∷ 0 ∷ 0 ∷ 386 ∷ 1 ∷ 0 ∷ 0 ∷ 0
    ∷ 257 ∷ 0 ∷ 0 ∷ 0 ∷ 0 ∷ 258 ∷ 1 ∷ 0 ∷ 0 ∷ 0 ∷ 385 ∷ 0 ∷ 0 ∷ 0 ∷ 0 ∷ []

abbrev pub equal-later-spans : List ℕ
equal-later-spans = 0 ∷ 1 ∷ 1 ∷ 3 ∷ 4 ∷ 1 ∷ 5 ∷ 2 ∷ 7 ∷ 3 ∷ 10 ∷ 3 ∷ 13 ∷ 2 ∷ 15 ∷ 3 ∷ 18 ∷ 3 ∷ []

abbrev pub equal-later-edges : List ℕ
equal-later-edges =
    0 ∷ 2 ∷ 3 ∷ 0
    ∷ 0 ∷ 5 ∷ 4 ∷ 0
    ∷ 0 ∷ 6 ∷ 3 ∷ 0
    ∷ 0 ∷ 6 ∷ 7 ∷ 0
    ∷ 0 ∷ 9 ∷ 4 ∷ 0
    ∷ 0 ∷ 5 ∷ 8 ∷ 0
    ∷ 0 ∷ 6 ∷ 3 ∷ 0
    ∷ 0 ∷ 6 ∷ 7 ∷ 0
    ∷ 0 ∷ 5 ∷ 4 ∷ 0 ∷ []

-- ---- the list
-- what is counted: states, items and states before collection, records of both kinds, choices by precedence
abbrev pub counts : (states items before rr sr count : ℕ) → Counts
counts s i b r q c = record { states = s; items = i; before = b; rr = r; sr = q; count = c }

-- no record of reduce/reduce, and none of shift/reduce
abbrev pub no-rr : List ℕ
no-rr = 0 ∷ 0 ∷ 0 ∷ 0 ∷ []

abbrev pub no-sr : List ℕ
no-sr = 0 ∷ 0 ∷ 0 ∷ []

abbrev pub samples : List (Ask × Seen)
samples =
    -- * G1
    (whole g1 3 3, tables (counts 3 3 3 0 0 0) (9 ∷ 0 ∷ 0 ∷ 3 ∷ 0 ∷ 6 ∷ []) (0 ∷ 2 ∷ 0 ∷ 0 ∷ 0 ∷ 0 ∷ []))
    ∷ (run g1 3 3 (0 ∷ []) STEPS, ends Verdict.accept 1 3 (1 ∷ []))
    ∷ (run g1 3 3 [] STEPS, ends Verdict.reject 0 1 [])
    ∷ (run g1 3 3 (1 ∷ []) STEPS, refusal (13 ∷ 0 ∷ []))
    ∷ (whole g1-short 3 3, refusal (1 ∷ []))
    ∷ (whole g1-large 3 3, refusal (2 ∷ []))
    -- * G2, cell (4, minus): the action, the offered mark, the records
    ∷ (cell (g2 0 0) 5 7 4 0, word (counts 5 7 5 0 1 0) 13 1 no-rr (0 ∷ 1 ∷ 4 ∷ []))
    ∷ (cell (g2 5 5) 5 7 4 0, word (counts 5 7 5 0 0 1) 6 1 no-rr no-sr)
    ∷ (cell (g2 6 6) 5 7 4 0, word (counts 5 7 5 0 0 1) 13 1 no-rr no-sr)
    -- (nonassoc does not clear the mark)
    ∷ (cell (g2 7 7) 5 7 4 0, word (counts 5 7 5 0 0 1) 0 1 no-rr no-sr)
    ∷ (cell (g2 5 6) 5 7 4 0, refusal (12 ∷ 0 ∷ 1 ∷ 4 ∷ []))
    -- * accept and reduce: None, 1; then Some(0), 2 (None is 0, Some(r) is r + 1)
    ∷ (whole loop 3 4, refusal (11 ∷ 0 ∷ 1 ∷ []))
    ∷ (whole loop-first 3 4, refusal (11 ∷ 1 ∷ 2 ∷ []))
    -- 14 states, no conflict
    ∷ (count not-lalr 14 18, number (counts 14 18 14 0 0 0))
    -- S = 2, and step limits 3 and 2
    ∷ (whole g1 2 3, refusal (8 ∷ []))
    ∷ (run g1 3 3 (0 ∷ []) 3, ends Verdict.accept 1 3 (1 ∷ []))
    ∷ (run g1 3 3 (0 ∷ []) 2, ends (Verdict.stopped 16) 1 2 (1 ∷ []))
    -- weak compatibility is not tested before equality: else 8 states would be left
    ∷ (states equal-later 9 21, kernels (counts 9 21 9 0 0 0) equal-later-items equal-later-spans equal-later-edges)
    -- an item with an empty context is not dropped: else no shift, and no record
    ∷ (cell no-context 7 7 0 0, word (counts 7 7 7 0 1 0) 17 1 no-rr (0 ∷ 4 ∷ 0 ∷ []))
    ∷ []

-- ---- what is claimed: each sample shows what it must
abbrev pub ClaimSamples : Type 0
ClaimSamples = map (λ c. see c.0) samples ≡ map (λ c. c.1) samples
