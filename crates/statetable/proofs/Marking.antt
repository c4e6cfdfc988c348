-- Core-reduce and reduce-only marks, state by state. Assumes nothing.
use mathlib.Core.List.{List, [], ◌∷◌, ◌++◌, map, append-nil}
use mathlib.Core.Path.{◌≡◌, refl, sym, ap, ap₂, ◌∙◌, subst}
use Prim.Native.Nat.{ℕ, ◌+◌, ◌-◌, ◌*◌, ◌/◌, ◌%◌, ◌≤◌, ◌<◌}
use native.Mathlib.Omega.{arith}
use lib.ListN.{length, get_or, take, drop, set, replicate, length-replicate}
use lib.Seq.{take_all}
use Rattle.std.proofs.lemmas.List.{take_more_set, map_more}
use Rattle.block.specs.Limits.{TOKENS, PRODS}
use Rattle.block.specs.Block.{tokens, prods}
use Rattle.block.proofs.Good.{placed}
use Rattle.pager.specs.Lists.{each}
use Rattle.pager.specs.Held.{STATES}
use Rattle.statetable.specs.Marks.{core_marks, reduce_only}
use Rattle.statetable.specs.Laid.{AllIn}
use Rattle.statetable.specs.ForTables.{flat, ForMarks}
use Rattle.statetable.proofs.Writing.{RowsTo, rows_start, row_room, row-behind, rows_next, rows-done}
use Rattle.statetable.proofs.CoreMarks.{core-length, reduce-in}
use Rattle.statetable.proofs.Parts.{part-most, row-part, row_inside, zeros-part}

-- ---- the marks of the first s states by now
pub record Marking (b cores : List ℕ) (rs : List (List ℕ)) (s : ℕ) (cores' only' : List ℕ) : Type 0 where
  pub rows : RowsTo (core_marks (prods b)) (prods b) cores rs s cores'
  pub words : take s only' ≡ map (reduce_only (prods b)) (take s rs)

-- what the turn of state s reads and writes lies in tables of so many words
abbrev pub MarkRooms : (t p s actions cores only : ℕ) → Type 0
MarkRooms t p s actions cores only =
    (t ≤ TOKENS)
    × (p ≤ PRODS)
    × (s * t ≤ STATES * PRODS)
    × (s * p ≤ STATES * PRODS)
    × (s * t + t ≤ actions)
    × (s * p + p ≤ cores)
    × (s < only)
    × (s < STATES)

module _ {b actions cores only : List ℕ} {n : ℕ} {rs : List (List ℕ)} (H : ForMarks b n actions cores only rs) where
  marks-wide : (k : ℕ) → k < length rs → length (core_marks (prods b) (get_or rs k [])) ≡ prods b
  marks-wide k l = core-length (prods b) (get_or rs k [])

  cores-size : length cores ≡ length rs * prods b
  cores-size = ap length H.cores-are ∙ length-replicate {A = ℕ} (n * prods b) 0 ∙ ap (λ (k : ℕ). k * prods b) (sym H.rows.number)

  pub marking-start : Marking b cores rs 0 cores only
  marking-start = record { rows = rows_start (core_marks (prods b)) (prods b) [] cores rs; words = refl }

  module _ (s : ℕ) (cores' only' : List ℕ) (M : Marking b cores rs s cores' only') where
    pub marking-done : n ≤ s → length only' ≡ length only → (cores' ≡ each (core_marks (prods b)) rs) × (only' ≡ map (reduce_only (prods b)) rs)
    marking-done l k = (
      rows-done (core_marks (prods b)) (prods b) [] cores rs marks-wide cores-size s cores' M.rows (omega (arith, H.rows.number)),
      sym (take_all s only' (omega (arith, H.room))) ∙ M.words ∙ ap (map (reduce_only (prods b))) (take_all s rs (omega (arith, H.rows.number))),
    )

    -- of t tokens and p productions
    module _ (t : ℕ) (e : t ≡ tokens b) (p : ℕ) (f : p ≡ prods b) (l : s < n) where
      at_row : s < length rs
      at_row = omega (arith, H.rows.number)

      wide : (k : ℕ) → k < length rs → length (get_or rs k []) ≡ tokens b
      wide k m = H.rows.width k (omega (arith, H.rows.number))

      whole : actions ≡ flat rs ++ []
      whole = H.actions-are ∙ sym (append-nil (flat rs))

      abbrev part : List ℕ
      part = take (s * t + t - s * t) (drop (s * t) actions)

      marked-cells : part ≡ get_or rs s []
      marked-cells =
          row-part (λ r. r) (tokens b) [] rs wide s at_row actions [] whole (s * t) (s * t + t) (ap (λ (k : ℕ). s * k) e)
          (ap (λ (k : ℕ). s * t + k) e)

      pub marked_all : AllIn b part
      marked_all = subst (λ (u : List ℕ). AllIn b u) (sym marked-cells) (H.rows.actions s l)

      at-cores : s * prods b + prods b ≤ length cores
      at-cores = row_room (core_marks (prods b)) (prods b) [] cores rs marks-wide cores-size s cores' M.rows at_row

      pub marked-zero : take (s * p + p - s * p) (drop (s * p) cores') ≡ replicate (prods b) 0
      marked-zero =
          let k : s * p + p - s * p ≡ prods b = omega (arith, f) in
          ap₂ (λ (j m : ℕ). take j (drop m cores')) k (ap (λ (k : ℕ). s * k) f)
          ∙ ap (λ (u : List ℕ). take (prods b) u)
          (row-behind (core_marks (prods b)) (prods b) [] cores rs marks-wide cores-size s cores' M.rows at_row ∙ ap (λ (u : List ℕ). drop (s * prods b) u) H.cores-are)
          ∙ zeros-part (s * prods b) (prods b) (n * prods b) (omega (arith, ap length H.cores-are, at-cores, length-replicate {A = ℕ} (n * prods b) 0))

      abbrev room : List ℕ
      room = take (s * p + p - s * p) (drop (s * p) cores')

      room-length : length room ≡ prods b
      room-length = ap length marked-zero ∙ length-replicate {A = ℕ} (prods b) 0

      -- what the marks of one state ask for
      pub marked-inside : (i : ℕ) → i < length part → get_or part i 0 % 4 ≡ 2 → get_or part i 0 / 4 < length room
      marked-inside i k d = omega (arith, reduce-in b part marked_all i k d, room-length)

      pub marked-clear : room ≡ replicate (length room) 0
      marked-clear = marked-zero ∙ ap (λ (k : ℕ). replicate k 0) (sym room-length)

      pub marked-few : length room ≤ PRODS
      marked-few = let q = placed H.good in omega (arith, room-length, q.prods-most)

      pub marked-rooms : length cores' ≡ length cores → length only' ≡ length only → MarkRooms t p s (length actions) (length cores') (length only')
      marked-rooms g h =
          let q = placed H.good in
          let few = H.few in
          let m = part-most H.good s (omega arith) in (
            omega (arith, e, q.tokens-most),
            omega (arith, f, q.prods-most),
            omega (arith, ap (λ (k : ℕ). s * k) e, m.0),
            omega (arith, ap (λ (k : ℕ). s * k) f, m.2),
            omega (arith, ap (λ (k : ℕ). s * k + k) e, row_inside (λ r. r) (tokens b) [] rs wide s at_row actions [] whole),
            omega (arith, ap (λ (k : ℕ). s * k + k) f, at-cores, g),
            omega (arith, h, H.room),
            omega arith,
          )

      pub marking-next : (ys : List ℕ) (v : ℕ) → ys ≡ core_marks (length room) part → v ≡ reduce_only (length room) part → length only' ≡ length only
          → Marking b cores rs (s + 1)
          (take (s * p) cores' ++ (ys ++ drop (s * p + p - s * p) (drop (s * p) cores'))) (set only' s v)
      marking-next ys v x y h =
          record {
            rows =
                rows_next (core_marks (prods b)) (prods b) [] cores rs marks-wide cores-size s cores' M.rows at_row (s * p) (s * p + p - s * p)
                (ap (λ (k : ℕ). s * k) f) (omega (arith, f)) ys (x ∙ ap₂ core_marks room-length marked-cells);
            words =
                take_more_set only' s v (omega (arith, h, H.room))
                ∙ ap₂ (λ (u : List ℕ) (k : ℕ). u ++ (k ∷ [])) M.words (y ∙ ap₂ reduce_only room-length marked-cells)
                ∙ sym (map_more (reduce_only (prods b)) rs s [] at_row);
          }
