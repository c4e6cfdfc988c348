-- The four lent buffers hold the states, and what a call of `place` speaks of. Assumes nothing.
use Rattle.std.specs.Prelude.{Bool, ◌&&◌, eqb, Option, Some, None, Result, Ok, Err, List, [], ◌∷◌, ◌++◌, ◌≡◌, ℕ, suc, ◌+◌, ◌*◌, ◌≤◌, length}
use Rattle.std.proofs.Math.Option as math
use Rattle.std.proofs.Math.Option.{none, some}
use Rattle.block.specs.Limits.{ITEM}
use Rattle.block.specs.Block.{tokens, rules}
use Rattle.block.specs.Refused as block
use Rattle.itemset.specs.Rows.{Row, words_of}
use Rattle.pager.specs.Lists.{Answer, is, refused}
use Rattle.pager.specs.Place.{State, Limits, items, place_of}
use Rattle.pager.specs.Growing.{Arriving, Growing}
use Rattle.pager.specs.Memory.{pad, item_words, spans_from, edge_words, mark_words}
use Rattle.pager.specs.declared.room.Room.{Room}
use Rattle.pager.specs.declared.room.Count.{Count}
use Rattle.pager.specs.declared.place.Put.{Put}
use Rattle.pager.specs.declared.refusal.GraphRefusal.{GraphRefusal}
use Rattle.pager.specs.declared.refusal.GraphRefusal.TheVariants.{Block, RoomShort, StateRoom, ItemRoom}

-- most states and most kernel items that a caller may name
abbrev pub STATES : ℕ
STATES = 4096

abbrev pub ITEMS : ℕ
ITEMS = 65536

pub record Fair (m : Limits) : Type 0 where
  pub states : m.states ≤ STATES
  pub items : m.items ≤ ITEMS

abbrev pub limits_of : Room → Limits
limits_of room = record { states = room.states; items = room.items }

-- the numbers that go with states
abbrev pub count_of : List State → Count
count_of ss = record { states = length ss; items = items ss }

-- the number of a refusal
abbrev pub number_of : GraphRefusal → ℕ
number_of (Block e) = block.number_of e
number_of RoomShort = 7
number_of StateRoom = 8
number_of ItemRoom = 9

-- what stands behind the named parts
pub record Behind : Type 0 where
  pub items : List ℕ
  pub spans : List ℕ
  pub edges : List ℕ
  pub marks : List ℕ

-- the buffers hold the states ss, and behind them z
pub record Held (b : List ℕ) (m : Limits) (ss : List State) (z : Behind) (items spans edges marks : List ℕ) : Type 0 where
  pub growing : Growing b m ss
  pub items-is : items ≡ pad (ITEM * m.items) (item_words ss) ++ z.items
  pub spans-is : spans ≡ pad (2 * m.states) (spans_from 0 ss) ++ z.spans
  pub edges-is : edges ≡ pad (m.states * (rules b + tokens b)) (edge_words ss) ++ z.edges
  pub marks-is : marks ≡ pad (2 * m.states) (mark_words ss) ++ z.marks

-- ---- all that a call of `place` speaks of and is not lent
pub record View : Type 0 where
  pub block : List ℕ
  pub states : List State
  pub edges : List ℕ
  pub behind : Behind
  pub kernel : List Row
  pub symbol : ℕ

pub record Ready (room : Room) (count : Count) (made : ℕ) (kernel items spans marks : List ℕ) (v : View) : Type 0 where
  pub fair : Fair (limits_of room)
  pub held : Held v.block (limits_of room) v.states v.behind items spans v.edges marks
  pub arriving : Arriving v.block v.symbol v.kernel
  pub words : kernel ≡ words_of v.kernel
  pub symbol : made ≡ suc v.symbol
  pub counts : count ≡ count_of v.states

-- what a search looks for: a state made for m whose rows take the kernel in
abbrev pub sought : (List Row → List Row → Bool) → ℕ → List Row → State → Bool
sought takes m K st = eqb st.made m && takes st.rows K

-- the number that a search gives, n if there is none
abbrev pub found_or : ℕ → math.Option ℕ → ℕ
found_or n (some k) = k
found_or n none = n

-- what a search gives, as the code answers it
abbrev pub as_option : math.Option ℕ → Option ℕ
as_option (some k) = Some k
as_option none = None

-- the kernel has come to state n, and the states are then rr
pub record Came (room : Room) (n : ℕ) (rr : List State) (r : Put) (items spans marks : List ℕ) (v : View) : Type 0 where
  pub to : r.to ≡ n
  pub counts : r.count ≡ count_of rr
  pub held : Held v.block (limits_of room) rr v.behind items spans v.edges marks

-- there was no room for the kernel: the refusal that says so, and the states as they were
pub record Full (room : Room) (why : List ℕ) (e : GraphRefusal) (items spans marks : List ℕ) (v : View) : Type 0 where
  pub is : why ≡ number_of e ∷ []
  pub held : Held v.block (limits_of room) v.states v.behind items spans v.edges marks

-- a state where the answer is one, and a refusal where it is refused
abbrev pub PutBy : Answer (ℕ × List State) → Room → Result Put GraphRefusal → List ℕ → List ℕ → List ℕ → View → Type 0
PutBy (is p) room (Ok r) items spans marks v = Came room p.0 p.1 r items spans marks v
PutBy (is p) room (Err e) items spans marks v = ⊥
PutBy (refused why) room (Ok r) items spans marks v = ⊥
PutBy (refused why) room (Err e) items spans marks v = Full room why e items spans marks v

-- what `place` leaves, by what rule 5 says
abbrev pub PutIn : Room → Result Put GraphRefusal → List ℕ → List ℕ → List ℕ → View → Type 0
PutIn room r items spans marks v =
    PutBy (place_of v.block (limits_of room) v.states v.symbol v.kernel) room r items spans marks v
