-- What the calls that build the graph are lent, and what they leave. Assumes nothing.
use Rattle.std.specs.Prelude.{Result, Ok, Err, ◌≡◌, ℕ, ◌+◌, ◌*◌, ◌≤◌, ◌<◌, length, drop, replicate}
use mathlib.Core.List.{List, [], ◌∷◌, ◌++◌, Memᴰ}
use Rattle.block.specs.Limits.{ITEM}
use Rattle.block.specs.Block.{tokens, rules, prods, symbols}
use Rattle.block.specs.Refusal.{Good}
use Rattle.block.specs.First.{firsts_of}
use Rattle.itemset.specs.Rows.{Row, Rows, words_of}
use Rattle.itemset.specs.Close.{close_of}
use Rattle.itemset.specs.Goto.{sights_of}
use Rattle.pager.specs.Lists.{Answer, is, refused}
use Rattle.pager.specs.Place.{State}
use Rattle.pager.specs.Memory.{pad, mark_words}
use Rattle.pager.specs.Held.{Behind, Held, Fair, limits_of, count_of, number_of}
use Rattle.pager.specs.declared.room.Room.{Room}
use Rattle.pager.specs.declared.room.Count.{Count}
use Rattle.pager.specs.declared.refusal.GraphRefusal.{GraphRefusal}

-- room that a call may use as it likes: what stands behind its first n words stays
pub record Scratch (n : ℕ) (before after : List ℕ) : Type 0 where
  pub size : length after ≡ length before
  pub behind : drop n after ≡ drop n before

-- states are held, and the numbers go with them
pub record Counted (b : List ℕ) (room : Room) (ss : List State) (r : Count) (items spans edges marks : List ℕ) (z : Behind) : Type 0 where
  pub counts : r ≡ count_of ss
  pub held : Held b (limits_of room) ss z items spans edges marks

-- there was no room: the refusal that says so, and some states
pub record Stopped (b : List ℕ) (room : Room) (why : List ℕ) (e : GraphRefusal) (items spans edges marks : List ℕ) (z : Behind) : Type 0 where
  pub is : why ≡ number_of e ∷ []
  pub states : List State
  pub held : Held b (limits_of room) states z items spans edges marks

-- states where the answer is some, and a refusal where it is refused
abbrev pub BuiltBy : Answer (List State) → List ℕ → Room → Result Count GraphRefusal → List ℕ → List ℕ → List ℕ → List ℕ → Behind → Type 0
BuiltBy (is ss) b room (Ok r) items spans edges marks z = Counted b room ss r items spans edges marks z
BuiltBy (is ss) b room (Err e) items spans edges marks z = ⊥
BuiltBy (refused why) b room (Ok r) items spans edges marks z = ⊥
BuiltBy (refused why) b room (Err e) items spans edges marks z = Stopped b room why e items spans edges marks z

-- ---- the marks of the states ss, in front of z
pub record Marks (N : ℕ) (ss : List State) (z marks : List ℕ) : Type 0 where
  pub few : 2 * length ss ≤ N
  pub is : marks ≡ pad N (mark_words ss) ++ z

-- ---- the states, what stands behind them, and the kernel whose closure is gone through
pub record Site : Type 0 where
  pub states : List State
  pub behind : Behind
  pub kernel : List Row

-- state n is there, and the closed rows are those of the kernel
pub record ForGotos (b : List ℕ) (room : Room) (count : Count) (n : ℕ) (closed kernel items spans edges marks : List ℕ) (s : Site) : Type 0 where
  pub good : Good b
  pub fair : Fair (limits_of room)
  pub held : Held b (limits_of room) s.states s.behind items spans edges marks
  pub counts : count ≡ count_of s.states
  pub there : n < length s.states
  pub rows : Rows b s.kernel
  pub words : closed ≡ words_of (close_of b (firsts_of b) s.kernel)
  pub space : ITEM * symbols b ≤ length kernel

-- a symbol of them
pub record ForGoto (b : List ℕ) (room : Room) (count : Count) (n x : ℕ) (closed kernel items spans edges marks : List ℕ) (s : Site) : Type 0 where
  pub gotos : ForGotos b room count n closed kernel items spans edges marks s
  pub sighted : Memᴰ x (sights_of b (close_of b (firsts_of b) s.kernel))

-- state n is to be closed
pub record ForState (b : List ℕ) (room : Room) (count : Count) (n : ℕ) (closed kernel items spans edges marks : List ℕ) (ss : List State) (z : Behind) : Type 0 where
  pub good : Good b
  pub fair : Fair (limits_of room)
  pub held : Held b (limits_of room) ss z items spans edges marks
  pub counts : count ≡ count_of ss
  pub there : n < length ss
  pub room-closed : ITEM * (symbols b + prods b) ≤ length closed
  pub room-kernel : ITEM * symbols b ≤ length kernel

-- ---- all that is named is zero
pub record Cleared (b : List ℕ) (room : Room) (items spans edges marks closed kernel : List ℕ) (z : Behind) : Type 0 where
  pub good : Good b
  pub fair : Fair (limits_of room)
  pub some-states : 1 ≤ room.states
  pub some-items : 1 ≤ room.items
  pub items-is : items ≡ replicate (ITEM * room.items) 0 ++ z.items
  pub spans-is : spans ≡ replicate (2 * room.states) 0 ++ z.spans
  pub edges-is : edges ≡ replicate (room.states * (rules b + tokens b)) 0 ++ z.edges
  pub marks-is : marks ≡ replicate (2 * room.states) 0 ++ z.marks
  pub room-closed : ITEM * (symbols b + prods b) ≤ length closed
  pub room-kernel : ITEM * symbols b ≤ length kernel
