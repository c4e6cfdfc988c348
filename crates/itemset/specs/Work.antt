-- The items with dot 0 of a closure at work: how one step changes them, and what is known of them while there is work. Assumes nothing.
use Rattle.std.specs.Prelude.{Bool, true, false, List, [], ◌⊎◌, ◌≡◌, ℕ, ◌*◌, ◌/◌, ◌%◌, ◌<◌, length, get_or}
use Rattle.knuth.specs.Closure.{Closed, Holds}
use Rattle.block.specs.Limits.{WORDS, DOTS, PRODS}
use Rattle.block.specs.Block.{prods, rule_of}
use Rattle.block.specs.Grammar.{grammar_of}
use Rattle.block.specs.Sets.{In, Fits, join}
use Rattle.block.specs.First.{Ahead, ahead_of, firsts_of}
use Rattle.itemset.specs.Rows.{Row, row}
use Rattle.itemset.specs.Kernel.{kernel_of}
use Rattle.itemset.specs.Close.{handed}
use Rattle.itemset.specs.Opens.{Opens, Done}
use Rattle.itemset.specs.Lay.{marks_of, contexts_of}
use Rattle.itemset.specs.Lent.{RowsIn}
use Rattle.itemset.specs.declared.closure.Closure.{Closure}

-- whether production q has still to be looked at
abbrev pub todo_of : Closure → ℕ → Bool
todo_of z q = get_or z.todo q false

pub record Sized (z : Closure) : Type 0 where
  pub todo : length z.todo ≡ PRODS
  pub here : length z.here ≡ PRODS
  pub contexts : length z.contexts ≡ PRODS

-- ---- a step from y to z, at production q
-- nothing has changed
pub record Same (y z : Closure) (q : ℕ) : Type 0 where
  pub todo : todo_of z q ≡ todo_of y q
  pub mark : marks_of z q ≡ marks_of y q
  pub set : contexts_of z q ≡ contexts_of y q

-- it is there, with the tokens of add too, and has to be looked at unless that is nothing new
pub record Took (add : List ℕ) (y z : Closure) (q : ℕ) : Type 0 where
  pub mark : marks_of z q ≡ true
  pub set : contexts_of z q ≡ join (contexts_of y q) add
  pub todo : (todo_of z q ≡ true) ⊎ ((todo_of z q ≡ todo_of y q) × (marks_of y q ≡ true) × (contexts_of z q ≡ contexts_of y q))

-- it has to be looked at only if it had to be before, was not there, or has another context now
abbrev pub Cause : Closure → Closure → ℕ → Type 0
Cause y z q = todo_of z q ≡ true → (todo_of y q ≡ true) ⊎ ((marks_of y q ≡ false) ⊎ (contexts_of z q ≡ contexts_of y q → ⊥))

-- production p took the tokens of add
pub record TookAt (p : ℕ) (add : List ℕ) (y z : Closure) : Type 0 where
  pub size : Sized z
  pub took : Took add y z p
  pub left : (q : ℕ) → (q ≡ p → ⊥) → Same y z q
  pub cause : Cause y z p

-- each production of the rule that is below n took the tokens of add
pub record Fed (b : List ℕ) (rule : ℕ) (add : List ℕ) (n : ℕ) (y z : Closure) : Type 0 where
  pub size : Sized z
  pub took : (q : ℕ) → q < n → rule_of b q ≡ rule → Took add y z q
  pub left : (q : ℕ) → (q < n → rule_of b q ≡ rule → ⊥) → Same y z q
  pub cause : (q : ℕ) → Cause y z q

-- each production that item i opens took what the item with the context s hands to it
pub record HandedOn (b : List ℕ) (F : List Ahead) (i : ℕ) (s : List ℕ) (y z : Closure) : Type 0 where
  pub size : Sized z
  pub took : (q : ℕ) (w : List ℕ) → Opens b i q w → Took (handed s (ahead_of F w)) y z q
  pub left : (q : ℕ) → ((w : List ℕ) → Opens b i q w → ⊥) → Same y z q
  pub cause : (q : ℕ) → Cause y z q

-- ---- what is known
-- item i of the kernel with the context s is in: itself if its dot is 0, else what it hands on
pub record Entered (b : List ℕ) (F : List Ahead) (here : ℕ → Bool) (ctx : ℕ → List ℕ) (i : ℕ) (s : List ℕ) : Type 0 where
  pub below : i / DOTS < prods b
  pub zero-mark : i % DOTS ≡ 0 → here (i / DOTS) ≡ true
  pub zero-set : i % DOTS ≡ 0 → (t : ℕ) → In s t → In (ctx (i / DOTS)) t
  pub more : (i % DOTS ≡ 0 → ⊥) → Done b F here ctx i s

-- The first n rows of the kernel K are in, and nothing but its closure is. Each production that is there has to be looked at, has handed
-- on what it has, or is h, the one in hand (prods b for none).
pub record Working (b : List ℕ) (F : List Ahead) (K : List Row) (n h : ℕ) (z : Closure) : Type 0 where
  pub size : Sized z
  pub sound : (q : ℕ) → q < prods b → marks_of z q ≡ true → Closed (grammar_of b) (kernel_of K) q 0
  pub held : (q : ℕ) → q < prods b → (t : ℕ) → In (contexts_of z q) t → Holds (grammar_of b) (kernel_of K) q 0 t
  pub fits : (q : ℕ) → q < prods b → Fits WORDS (contexts_of z q)
  pub marked : (q : ℕ) → q < prods b → todo_of z q ≡ true → marks_of z q ≡ true
  pub each : (p : ℕ) → p < prods b → marks_of z p ≡ true
      → (todo_of z p ≡ true) ⊎ (Done b F (marks_of z) (contexts_of z) (DOTS * p) (contexts_of z p) ⊎ (p ≡ h))
  pub rows : (k i : ℕ) (s : List ℕ) → k < n → get_or K k (row 0 []) ≡ row i s → Entered b F (marks_of z) (contexts_of z) i s

-- all rows of the kernel K are in, and none is in hand
abbrev pub Worked : List ℕ → List Row → Closure → Type 0
Worked b K z = Working b (firsts_of b) K (length K) (prods b) z

-- nothing is left to be looked at
abbrev pub NoneLeft : List ℕ → Closure → Type 0
NoneLeft b z = (q : ℕ) → q < prods b → todo_of z q ≡ false

-- to seed a closure: the rows of a kernel, none of which is in
pub record ForSeed (b ws : List ℕ) (K : List Row) (z : Closure) : Type 0 where
  pub kernel : RowsIn b ws K
  pub start : Working b (firsts_of b) K 0 (prods b) z
