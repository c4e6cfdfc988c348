-- What is expected of a build: its numbers, and its tables, marks and lists. Assumes nothing.
use Rattle.std.specs.Prelude.{List, [], ◌∷◌, ◌++◌, ℕ, zero, suc}
use Rattle.words.specs.Given.{as_part}
use Rattle.pager.specs.Lists.{Answer, is, refused}
use Rattle.statetable.specs.declared.call.Counts.{Counts}

-- a refusal: number a b c, then six zeros
abbrev pub refusal_numbers : (number a b c : ℕ) → List ℕ
refusal_numbers n a b c = n ∷ a ∷ b ∷ c ∷ 0 ∷ 0 ∷ 0 ∷ 0 ∷ 0 ∷ 0 ∷ []

-- 11 with Some(r): 1, r and the start production; 11 with None: 0, 0 and the reduce. 12: token, production, state
-- no other refusal has values; the other forms do not come
abbrev pub refused_numbers : List ℕ → List ℕ
refused_numbers [] = refusal_numbers 0 0 0 0
refused_numbers (n ∷ []) = refusal_numbers n 0 0 0
refused_numbers (n ∷ a ∷ []) = refusal_numbers n a 0 0
refused_numbers (n ∷ zero ∷ p ∷ []) = refusal_numbers n 0 0 p
refused_numbers (n ∷ suc r ∷ p ∷ []) = refusal_numbers n 1 r p
refused_numbers (n ∷ t ∷ p ∷ s ∷ more) = refusal_numbers n t p s

-- number a b c  states items before rr sr settled
abbrev pub made_numbers : Counts → List ℕ
made_numbers c = 0 ∷ 0 ∷ 0 ∷ 0 ∷ c.states ∷ c.items ∷ c.before ∷ c.rr ∷ c.sr ∷ c.count ∷ []

abbrev pub numbers : Answer Counts → List ℕ
numbers (is c) = made_numbers c
numbers (refused why) = refused_numbers why

-- [actions] [gotos] [offered] [shifts] [core-reduces] [reduce-only] [reduce/reduce list] [shift/reduce list]
abbrev pub table_parts : (actions gotos offered shifts cores only rr sr : List ℕ) → List ℕ
table_parts actions gotos offered shifts cores only rr sr =
    as_part actions
    ++ (as_part gotos ++ (as_part offered ++ (as_part shifts ++ (as_part cores ++ (as_part only ++ (as_part rr ++ as_part sr))))))
