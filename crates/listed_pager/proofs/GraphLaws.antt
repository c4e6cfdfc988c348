-- When the lines of the list of graphs hold, question after question. Assumes nothing.
use mathlib.Core.Bool.{Bool, true, false}
use mathlib.Core.List.{List, [], ◌++◌}
use mathlib.Core.Logic.{◌↔◌}
use mathlib.Core.Path.{◌≡◌, refl, sym, ap, subst, ◌∙◌}
use Prim.Native.Nat.{ℕ, ◌^◌, ◌<◌, ◌≤◌, min}
use native.Mathlib.Omega.{arith}
use lib.ListN.{length, get_or, take, drop, replicate, length-append}
use lib.Seq.{drop-append_seam}
use Rattle.listed_block.specs.Rooms.{ROOM, bounded_of}
use Rattle.pager.specs.Place.{Limits}
use Rattle.pager.specs.Call.{Buffers, lent, named, graph_call, counted, leaves}
use Rattle.listed_pager.specs.Work.{lent_of, work_of}
use Rattle.listed_pager.specs.declared.work.Work.{Work}
use Rattle.listed_pager.specs.Cases.{numbers, graph_parts, lent_for, WorkIn, GraphSeen, LentCase, AskedCase}
use Rattle.words.proofs.Answers.{says-no}
use Rattle.listed_block.proofs.Front.{take-replicate}
use Rattle.listed_pager.proofs.ThreeWords.{three-words}

-- ---- what the call answered and left: its numbers and the buffers
module _ (b : List ℕ) (m : Limits) (fill : ℕ) (l : Buffers) (expected ns : List ℕ) (left : Buffers)
    (count : 4 ≡ length ns) (answered : ns ≡ numbers (counted (graph_call b m l))) (wrote : left ≡ leaves b m l) where
  words_of : GraphSeen b m fill l expected → expected ≡ ns ++ graph_parts left []
  words_of s = s.0 ∙ rw (answered, wrote) refl

  behind-numbers : GraphSeen b m fill l expected → drop (length ns) expected ≡ graph_parts left []
  behind-numbers s = ap (drop (length ns)) (words_of s) ∙ drop-append_seam ns (graph_parts left [])

  pub few_words : length expected < 4 → (false ≡ true) ↔ GraphSeen b m fill l expected
  few_words h = says-no (λ s. omega (arith, h, count, ap length (words_of s), length-append ns (graph_parts left [])))

  pub other-numbers : (expected ≡ ns ++ drop (length ns) expected → ⊥) → (false ≡ true) ↔ GraphSeen b m fill l expected
  other-numbers n = says-no (λ s. n (words_of s ∙ ap (λ t. ns ++ t) (sym (behind-numbers s))))

  -- what stands behind the numbers
  module _ (rest : List ℕ) (q : rest ≡ drop 4 expected) where
    pub other-buffers : (rest ≡ graph_parts left [] → ⊥) → (false ≡ true) ↔ GraphSeen b m fill l expected
    other-buffers n = says-no (λ s. n (q ∙ ap (λ k. drop k expected) count ∙ behind-numbers s))

    pub by-work : {r : Bool} (work : Work) → work ≡ work_of b m.states → expected ≡ ns ++ drop (length ns) expected → rest ≡ graph_parts left []
        → (r ≡ true) ↔ WorkIn (get_or expected 0 0) work fill left → (r ≡ true) ↔ GraphSeen b m fill l expected
    by-work work w e d i = (
      λ t. (
        e ∙ ap (λ t. ns ++ t) (ap (λ k. drop k expected) (sym count) ∙ sym q ∙ d) ∙ rw (answered, wrote) refl,
        subst (λ x. WorkIn (get_or expected 0 0) x fill (leaves b m l)) w (rw (sym wrote) (i.0 t)),
      ),
      λ s. i.1 (subst (λ x. WorkIn (get_or expected 0 0) x fill left) (sym w) (rw wrote s.1)),
    )

-- ---- the lengths of the buffers
module _ (b : List ℕ) (m : Limits) (fill : ℕ) (rest : List ℕ) where
  pub no_lengths : length rest < 3 → (false ≡ true) ↔ LentCase b m fill rest
  no_lengths h = says-no (λ k. omega (arith, h, ap length k.words))

  pub no_room : (work : Work) → work ≡ work_of b m.states → ROOM < work.closed → (false ≡ true) ↔ LentCase b m fill rest
  no_room work w h = says-no (λ k. omega (arith, h, ap (λ x. x.closed) w, k.room))

  -- the buffers are fronts of rooms full of one word, as long as the words say
  module _ (work : Work) (w : work ≡ work_of b m.states) (room : List ℕ) (full : room ≡ replicate ROOM fill) (items spans edges marks closed kernel : ℕ)
      (items-is : items ≡ bounded_of (get_or rest 0 0)) (spans-is : spans ≡ bounded_of (get_or rest 1 0)) (edges-is : edges ≡ bounded_of (get_or rest 2 0))
      (marks-is : marks ≡ lent_of work.marks) (closed_is : closed ≡ lent_of work.closed) (kernel-is : kernel ≡ lent_of work.kernel) where
    abbrev fronts : Buffers
    fronts = lent (take items room) (take spans room) (take edges room) (take marks room) (take closed room) (take kernel room)

    front : (n k : ℕ) → n ≡ min k ROOM → take n room ≡ replicate (min k ROOM) fill
    front n k e = ap (take n) full ∙ take-replicate n ROOM fill (omega (arith, e)) ∙ ap (λ x. replicate x fill) e

    lent-are : fronts ≡ lent_for work fill (get_or rest 0 0) (get_or rest 1 0) (get_or rest 2 0)
    lent-are = rw (front items _ items-is, front spans _ spans-is, front edges _ edges-is, front marks _ marks-is, front closed _ closed_is, front kernel _ kernel-is) refl

    fronts-are : fronts ≡ lent_for (work_of b m.states) fill (get_or rest 0 0) (get_or rest 1 0) (get_or rest 2 0)
    fronts-are = lent-are ∙ ap (λ x. lent_for x fill (get_or rest 0 0) (get_or rest 1 0) (get_or rest 2 0)) w

    pub by_lengths : {r : Bool} → 3 ≤ length rest → work.closed ≤ ROOM → (expected : List ℕ) → expected ≡ drop 3 rest
        → (r ≡ true) ↔ GraphSeen b m fill fronts expected → (r ≡ true) ↔ LentCase b m fill rest
    by_lengths h closed-most expected q i = (
      λ t. record {
        items = get_or rest 0 0;
        spans = get_or rest 1 0;
        edges = get_or rest 2 0;
        expected = drop 3 rest;
        words = three-words rest h;
        room = subst (λ x. x.closed ≤ ROOM) w closed-most;
        seen = subst (λ x. GraphSeen b m fill x (drop 3 rest)) fronts-are (subst (GraphSeen b m fill fronts) q (i.0 t));
      },
      λ k. i.1 (subst (GraphSeen b m fill fronts) (sym q) (subst (λ x. GraphSeen b m fill x (drop 3 rest)) (sym fronts-are) (rw k.words k.seen))),
    )

-- ---- the named sizes and the fill
module _ (b rest : List ℕ) where
  pub not-asked : length rest < 3 → AskedCase b rest → ⊥
  not-asked h k = omega (arith, h, ap length k.words)

  pub wide-fill : 2 ^ 32 ≤ get_or rest 2 0 → AskedCase b rest → ⊥
  wide-fill h k = omega (arith, h, k.narrow, ap (λ l. get_or l 2 0) k.words)

  pub by-asked : {r : Bool} → 3 ≤ length rest → (states most fill : ℕ) (lengths : List ℕ)
      → states ≡ get_or rest 0 0 → most ≡ get_or rest 1 0 → fill ≡ get_or rest 2 0 → lengths ≡ drop 3 rest → fill < 2 ^ 32
      → (r ≡ true) ↔ LentCase b (named states most) fill lengths → (r ≡ true) ↔ AskedCase b rest
  by-asked h states most fill lengths s m f l w i = (
    λ t. record {
      states = states;
      most = most;
      fill = fill;
      lengths = lengths;
      words = rw (s, m, f, l) (three-words rest h);
      narrow = w;
      lent = i.0 t;
    },
    λ k. i.1 (rw (s, m, f, l, k.words) k.lent),
  )
