-- A kernel is placed in the buffers: the tests of a search, a new state, a union, and rule 5 as a whole. Assumes nothing.
use mathlib.Core.Bool.{Bool, true, false, not, cond, ◌&&◌}
use mathlib.Core.List.{List, [], ◌∷◌, ◌++◌}
use mathlib.Core.Option.{Option, none, some}
use Rattle.std.specs.Prelude.{Result, Ok, Err, Some, None}
use mathlib.Core.Path.{◌≡◌, refl, sym, ap, ap₂, ◌∙◌, subst}
use Prim.Native.Nat.{ℕ, suc, ◌+◌, ◌*◌, ◌/◌, ◌<◌, ◌≤◌}
use native.Mathlib.Omega.{arith}
use lib.Dec.{eqb, leb}
use lib.ListN.{length, get_or, take, drop, set}
use lib.Seq.{paste}
use Rattle.std.proofs.lemmas.List.Edits.{paste_all}
use borrow.Author.Tests.{eqb-true, eq-eqb, ne_eqb, lt-ltb, le-ltb, le-leb, lt-leb}
use Rattle.block.specs.Limits.{ITEM}
use Rattle.block.specs.Lists.{change}
use Rattle.block.proofs.ListLaws.{and_both, change-size}
use Rattle.itemset.specs.Rows.{Row, same_rows}
use Rattle.pager.specs.Lists.{find, Answer, is, refused}
use Rattle.pager.specs.Weak.{compatible, union}
use Rattle.pager.specs.Place.{State, Limits, items, new, take_in, is_equal, is_weak, add_state, place_of}
use Rattle.pager.specs.Graph.{nowhere}
use Rattle.pager.specs.RowWords.{RowWords, RowsAt}
use Rattle.pager.specs.Held.{Held, View, Ready, PutBy, PutIn, limits_of, count_of, as_option, sought, STATES, ITEMS}
use Rattle.pager.specs.declared.room.Room.{Room}
use Rattle.pager.specs.declared.room.Count.{Count}
use Rattle.pager.specs.declared.place.Put.{Put}
use Rattle.pager.specs.declared.refusal.GraphRefusal.{GraphRefusal}
use Rattle.pager.specs.declared.refusal.GraphRefusal.TheVariants.{StateRoom, ItemRoom}
use Rattle.pager.proofs.Union.{union-length}
use Rattle.pager.proofs.Grown.{change-items, snoc-items, snoc-length}
use Rattle.pager.proofs.ByIndex.{some-is, none-is, some-at}
use Rattle.pager.proofs.RowTests.{rows-length, compatible-size}
use Rattle.pager.proofs.Held.{items-long, spans-long, marks-long, held_new, held-join, made-is, kernel-room, kernel-words, rows_at, before, behind, count-is}

-- the test that a search makes of state n
abbrev pub tested : (List Row → List Row → Bool) → View → ℕ → Bool
tested takes v n = sought takes (suc v.symbol) v.kernel (get_or v.states n nowhere)

-- the two passes look for what is equal, and for what is weakly compatible
pub equal-sought : (x : ℕ) (K : List Row) (ss : List State) → as_option (find (sought same_rows x K) 0 ss) ≡ as_option (find (is_equal x K) 0 ss)
unfolding is_equal
equal-sought x K ss = refl

pub weak-sought : (x : ℕ) (K : List Row) (ss : List State) → as_option (find (sought compatible x K) 0 ss) ≡ as_option (find (is_weak x K) 0 ss)
unfolding is_weak
weak-sought x K ss = refl

same_count : (a b a' b' : ℕ) → a ≡ a' → b ≡ b' → ◌≡◌ {A = Count} (record { states = a; items = b }) (record { states = a'; items = b' })
same_count a b a' b' p q = cc

-- ---- the three answers of add_state
module _ (b : List ℕ) (m : Limits) (ss : List State) (made : ℕ) (K : List Row) where
  abbrev chosen : Bool → Bool → Answer (ℕ × List State)
  chosen c d = elim c [ false ↦ refused (8 ∷ []) | true ↦ elim d [ false ↦ refused (9 ∷ []) | true ↦ is (length ss, ss ++ (new b made K ∷ [])) ] ]

  is-full : m.states ≤ length ss → add_state b m ss made K ≡ refused (8 ∷ [])
  unfolding add_state
  is-full h = ap (λ (t : Bool). chosen t (leb (items ss + length K) m.items)) (le-ltb (length ss) m.states h)

  is-over : length ss < m.states → m.items < items ss + length K → add_state b m ss made K ≡ refused (9 ∷ [])
  unfolding add_state
  is-over h l = ap₂ chosen (lt-ltb (length ss) m.states h) (lt-leb (items ss + length K) m.items l)

  is-new : length ss < m.states → items ss + length K ≤ m.items → add_state b m ss made K ≡ is (length ss, ss ++ (new b made K ∷ []))
  unfolding add_state
  is-new h l = ap₂ chosen (lt-ltb (length ss) m.states h) (le-leb (items ss + length K) m.items l)

  new-count : items (ss ++ (new b made K ∷ [])) ≡ items ss + length K
  unfolding new
  new-count = snoc-items ss (new b made K)

-- ---- the three ways of place_of
module _ (b : List ℕ) (m : Limits) (ss : List State) (x : ℕ) (K : List Row) where
  abbrev picked : Option ℕ → Option ℕ → Answer (ℕ × List State)
  picked o p = elim o [ some n ↦ is (n, ss) | none ↦ elim p [ some n ↦ is (n, change (take_in K) n ss) | none ↦ add_state b m ss (suc x) K ] ]

  placed-equal : (n : ℕ) → find (is_equal (suc x) K) 0 ss ≡ some n → place_of b m ss x K ≡ is (n, ss)
  unfolding place_of
  placed-equal n e = ap (λ (o : Option ℕ). picked o (find (is_weak (suc x) K) 0 ss)) e

  placed-weak : (n : ℕ) → find (is_equal (suc x) K) 0 ss ≡ none → find (is_weak (suc x) K) 0 ss ≡ some n → place_of b m ss x K ≡ is (n, change (take_in K) n ss)
  unfolding place_of
  placed-weak n e f = ap₂ picked e f

  placed-new : find (is_equal (suc x) K) 0 ss ≡ none → find (is_weak (suc x) K) 0 ss ≡ none → place_of b m ss x K ≡ add_state b m ss (suc x) K
  unfolding place_of
  placed-new e f = ap₂ picked e f

-- a union leaves the numbers as they were
taken-count : (K : List Row) (n : ℕ) (ss : List State) → count_of ss ≡ count_of (change (take_in K) n ss)
unfolding take_in
taken-count K n ss =
    same_count (length ss) (items ss) (length (change (take_in K) n ss)) (items (change (take_in K) n ss)) (sym (change-size (take_in K) n ss))
    (sym (change-items (take_in K) (λ st. union-length st.rows K) n ss))

-- the numbers fit, and the buffers are long enough for them
pub record Roomy (room : Room) (count : Count) (kernel i s k : List ℕ) : Type 0 where
  pub states : count.states ≤ room.states
  pub items : count.items ≤ room.items
  pub low-states : room.states ≤ STATES
  pub low-items : room.items ≤ ITEMS
  pub whole : length kernel ≡ ITEM * (length kernel / ITEM)
  pub items-long : ITEM * room.items ≤ length i
  pub spans-long : 2 * room.states ≤ length s
  pub marks-long : 2 * room.states ≤ length k

module _ {room : Room} {count : Count} {made : ℕ} {kernel i s k : List ℕ} {v : View} (R : Ready room count made kernel i s k v) where
  pub states-is : count.states ≡ length v.states
  states-is = ap (λ (c : Count). c.states) R.counts

  pub items-is : count.items ≡ items v.states
  items-is = ap (λ (c : Count). c.items) R.counts

  pub ready_words : RowWords kernel v.kernel
  ready_words = record { sets = R.arriving.rows.sets; words = R.words }

  pub kernel-rows : length kernel / ITEM ≡ length v.kernel
  kernel-rows = omega (arith, rows-length ready_words)

  -- ---- what a new state needs of the numbers
  pub roomy : Roomy room count kernel i s k
  roomy =
      record {
        states = let h = R.held.growing.few in omega (arith, states-is);
        items = let h = R.held.growing.fit in omega (arith, items-is);
        low-states = R.fair.states;
        low-items = R.fair.items;
        whole = omega (arith, rows-length ready_words, kernel-rows);
        items-long = items-long R.held;
        spans-long = spans-long R.held;
        marks-long = marks-long R.held;
      }

  -- ---- state n is within the buffers
  pub below : (n : ℕ) → n < count.states → n < length v.states
  below n l = omega (arith, states-is)

  pub low : (n : ℕ) → n < count.states → n < STATES
  low n l = let h = R.held.growing.few in let f = R.fair.states in omega (arith, states-is)

  pub marks-room : (n : ℕ) → n < count.states → 2 * n + 1 < length k
  marks-room n l = let h = R.held.growing.few in omega (arith, states-is, marks-long R.held)

  pub scan-room : (n : ℕ) → n < count.states → (2 * n + 1 < length s) × (ITEM * get_or s (2 * n) 0 + ITEM * get_or s (2 * n + 1) 0 ≤ length i)
  scan-room n l = kernel-room R.held n (below n l)

  pub states-room : (n : ℕ) → n < length v.states → (2 * n + 1 < length s) × (2 * n + 1 < length k)
  states-room n l = ((kernel-room R.held n l).0, marks-room n (omega (arith, states-is)))

  -- ---- the test of state n, as a search makes it
  module _ (takes : List Row → List Row → Bool) (n : ℕ) (l : n < length v.states) where
    pub test-other : (get_or k (2 * n) 0 ≡ made → ⊥) → tested takes v n ≡ false
    test-other h =
        ap (λ (t : Bool). t && takes (get_or v.states n nowhere).rows v.kernel)
        (ne_eqb (get_or v.states n nowhere).made (suc v.symbol) (λ e. h (made-is R.held n l ∙ e ∙ sym R.symbol)))

    pub test-is : get_or k (2 * n) 0 ≡ made → (ws : List ℕ) → ws ≡ take (ITEM * get_or s (2 * n + 1) 0) (drop (ITEM * get_or s (2 * n) 0) i) → (t : Bool)
        → ((K L : List Row) → RowWords ws K → RowWords kernel L → t ≡ takes K L) → tested takes v n ≡ t
    test-is e ws ew t h =
        ap₂ ◌&&◌ (eq-eqb (get_or v.states n nowhere).made (suc v.symbol) (sym (made-is R.held n l) ∙ e ∙ R.symbol))
        (sym (h (get_or v.states n nowhere).rows v.kernel
        (subst (λ us. RowWords us (get_or v.states n nowhere).rows) (sym ew) (kernel-words R.held n l)) ready_words))

  -- ---- a new state, if there is room
  abbrev Added : Result Put GraphRefusal → List ℕ → List ℕ → List ℕ → Type 0
  Added r i' s' k' = PutBy (add_state v.block (limits_of room) v.states (suc v.symbol) v.kernel) room r i' s' k' v

  pub add-full : room.states ≤ count.states → Added (Err StateRoom) i s k
  add-full h =
      subst (λ a. PutBy a room (Err StateRoom) i s k v)
      (sym (is-full v.block (limits_of room) v.states (suc v.symbol) v.kernel (omega (arith, states-is))))
      (record { is = refl; held = R.held })

  pub add-over : count.states < room.states → room.items < count.items + length kernel / ITEM
      → Added (Err ItemRoom) i s k
  add-over h l =
      subst (λ a. PutBy a room (Err ItemRoom) i s k v)
      (sym (is-over v.block (limits_of room) v.states (suc v.symbol) v.kernel (omega (arith, states-is)) (omega (arith, items-is, kernel-rows))))
      (record { is = refl; held = R.held })

  pub add_done : count.states < room.states → count.items + length kernel / ITEM ≤ room.items → (i' : List ℕ)
      → i' ≡ take (ITEM * count.items) i ++ (kernel ++ drop (ITEM * count.items + length kernel) i)
      → Added (Ok (record { to = count.states; count = record { states = count.states + 1; items = count.items + length kernel / ITEM } })) i'
      (set (set s (2 * count.states) count.items) (2 * count.states + 1) (length kernel / ITEM))
      (set (set k (2 * count.states) made) (2 * count.states + 1) 1)
  add_done h l i' e =
      let ss : List State = v.states in
      let K : List Row = v.kernel in
      let st : State = new v.block (suc v.symbol) K in
      let hs : length ss < room.states = omega (arith, states-is) in
      let hi : items ss + length K ≤ room.items = omega (arith, items-is, kernel-rows) in
      let put : i' ≡ paste i (ITEM * count.items) kernel (length kernel) = e ∙ sym (paste_all i (ITEM * count.items) kernel (length kernel) refl) in
      subst (λ a. PutBy a room (Ok (record { to = count.states; count = record { states = count.states + 1; items = count.items + length kernel / ITEM } })) i'
      (set (set s (2 * count.states) count.items) (2 * count.states + 1) (length kernel / ITEM))
      (set (set k (2 * count.states) made) (2 * count.states + 1) 1) v)
      (sym (is-new v.block (limits_of room) ss (suc v.symbol) K hs hi))
      (record {
        to = states-is;
        counts = same_count (count.states + 1) (count.items + length kernel / ITEM) (length (ss ++ (st ∷ []))) (items (ss ++ (st ∷ [])))
            (omega (arith, states-is, snoc-length ss st)) (omega (arith, items-is, kernel-rows, new-count v.block (limits_of room) ss (suc v.symbol) K));
        held = rw (put, states-is, items-is, kernel-rows, R.words, R.symbol) (held_new R.held v.symbol K R.arriving hs hi);
      })

  -- ---- a union: state n takes the kernel in
  module _ (n : ℕ) (l : n < length v.states) (e : is_weak (suc v.symbol) v.kernel (get_or v.states n nowhere) ≡ true) where
    weak-both : ((get_or v.states n nowhere).made ≡ suc v.symbol) × (compatible (get_or v.states n nowhere).rows v.kernel ≡ true)
    unfolding is_weak
    weak-both =
        let h = and_both (eqb (get_or v.states n nowhere).made (suc v.symbol)) (compatible (get_or v.states n nowhere).rows v.kernel) e in
        (eqb-true (get_or v.states n nowhere).made (suc v.symbol) h.0, h.1)

    weak-size : length (get_or v.states n nowhere).rows ≡ length v.kernel
    weak-size = compatible-size (get_or v.states n nowhere).rows v.kernel weak-both.1

    pub join-room : ITEM * get_or s (2 * n) 0 + length kernel ≤ length i
    join-room = omega (arith, kernel-room R.held n l, count-is R.held n l, weak-size, rows-length ready_words)

    -- by whether it grew
    module _ (i' : List ℕ) (r : Bool)
        (h : (before : List ℕ) (K : List Row) (behind : List ℕ) (L : List Row) → RowsAt (get_or s (2 * n) 0) before K behind i → RowWords kernel L → length K ≡ length L
        → RowsAt (get_or s (2 * n) 0) before (union K L) behind i' × (r ≡ not (same_rows (union K L) K))) where
      joined : (k' : List ℕ) → k' ≡ cond r (set k (2 * n + 1) 1) k
          → Held v.block (limits_of room) (change (take_in v.kernel) n v.states) v.behind i' s v.edges k'
      joined k' q =
          let o = h (before R.held n l) (get_or v.states n nowhere).rows (behind R.held n l) v.kernel (rows_at R.held n l) ready_words weak-size in
          held-join R.held n l v.symbol v.kernel R.arriving weak-both.0 weak-both.1 i' k' r o.0 o.1 q

      pub joined-grew : r ≡ true → Held v.block (limits_of room) (change (take_in v.kernel) n v.states) v.behind i' s v.edges (set k (2 * n + 1) 1)
      joined-grew q = joined (set k (2 * n + 1) 1) (sym (ap (λ (t : Bool). cond t (set k (2 * n + 1) 1) k) q))

      pub joined_same : r ≡ false → Held v.block (limits_of room) (change (take_in v.kernel) n v.states) v.behind i' s v.edges k
      joined_same q = joined k (sym (ap (λ (t : Bool). cond t (set k (2 * n + 1) 1) k) q))

  -- ---- rule 5
  pub put-equal : (e : ℕ) → Some e ≡ as_option (find (is_equal (suc v.symbol) v.kernel) 0 v.states) → PutIn room (Ok (record { to = e; count = count })) i s k v
  put-equal e q =
      subst (λ a. PutBy a room (Ok (record { to = e; count = count })) i s k v)
      (sym (placed-equal v.block (limits_of room) v.states v.symbol v.kernel e (some-is e (find (is_equal (suc v.symbol) v.kernel) 0 v.states) q)))
      (record { to = refl; counts = R.counts; held = R.held })

  module _ (h : None ≡ as_option (find (is_equal (suc v.symbol) v.kernel) 0 v.states)) where
    pub put-weak : (f : ℕ) → Some f ≡ as_option (find (is_weak (suc v.symbol) v.kernel) 0 v.states) → (i' k' : List ℕ)
        → Held v.block (limits_of room) (change (take_in v.kernel) f v.states) v.behind i' s v.edges k'
        → PutIn room (Ok (record { to = f; count = count })) i' s k' v
    put-weak f q i' k' H =
        subst (λ a. PutBy a room (Ok (record { to = f; count = count })) i' s k' v)
        (sym (placed-weak v.block (limits_of room) v.states v.symbol v.kernel f (none-is (find (is_equal (suc v.symbol) v.kernel) 0 v.states) h) (some-is f (find (is_weak (suc v.symbol) v.kernel) 0 v.states) q)))
        (record { to = refl; counts = R.counts ∙ taken-count v.kernel f v.states; held = H })

    pub put-new : None ≡ as_option (find (is_weak (suc v.symbol) v.kernel) 0 v.states) → (r : Result Put GraphRefusal) (i' s' k' : List ℕ) → Added r i' s' k'
        → PutIn room r i' s' k' v
    put-new q r i' s' k' a =
        subst (λ a. PutBy a room r i' s' k' v) (sym (placed-new v.block (limits_of room) v.states v.symbol v.kernel (none-is (find (is_equal (suc v.symbol) v.kernel) 0 v.states) h) (none-is (find (is_weak (suc v.symbol) v.kernel) 0 v.states) q))) a

  -- the state found is one that may take the kernel in
  pub weak-here : (f : ℕ) → Some f ≡ as_option (find (is_weak (suc v.symbol) v.kernel) 0 v.states)
      → (f < length v.states) × (is_weak (suc v.symbol) v.kernel (get_or v.states f nowhere) ≡ true)
  weak-here f q = some-at (is_weak (suc v.symbol) v.kernel) nowhere v.states f q
