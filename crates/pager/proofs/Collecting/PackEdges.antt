-- The edges of the kept states, moved down state by state, each to the new number of its target. Assumes nothing.
use mathlib.Core.Bool.{Bool, true, false}
use mathlib.Core.List.{List, [], ◌∷◌, ◌++◌, map}
use mathlib.Core.Path.{◌≡◌, refl, sym, ap, ap₂, ◌∙◌}
use Prim.Native.Nat.{ℕ, zero, suc, ◌+◌, ◌*◌, ◌/◌, ◌≤◌, ◌<◌}
use native.Mathlib.Omega.{arith}
use native.Mathlib.Numerals.{add-one}
use lib.ListN.{length, get_or, take, drop, length-append, length-drop, length-map}
use lib.Seq.{paste, get_or-take, get_or-drop}
use Rattle.pager.specs.Lists.{each}
use Rattle.pager.specs.Place.{State}
use Rattle.pager.specs.Graph.{nowhere}
use Rattle.pager.specs.Collect.{renumber, kept}
use Rattle.pager.specs.Memory.{pad, edge_words}
use Rattle.pager.specs.Collecting.{flags_of, Shaped, EdgePart, Numbers, number_in, Numbered, kept_by}
use Rattle.pager.proofs.Ranks.{renumbered}
use Rattle.pager.proofs.Memory.{edges_more}
use Rattle.pager.proofs.Collecting.Flags.{flags-length, flag_true, flag-false}
use Rattle.pager.proofs.Collecting.StateWords.{edges_le, edges-before, edges-row, edges-inside}
use Rattle.pager.proofs.Collecting.Over.{over, over-length, over-drop, over-paste, over-pad}
use Rattle.pager.proofs.Collecting.Kept.{kept_to, kept-marked, kept-unmarked, kept-all, kept_to-edges}

-- ---- the words of a row
take-map : (f : ℕ → ℕ) (n : ℕ) (ws : List ℕ) → take n (map f ws) ≡ map f (take n ws)
take-map f zero ws = refl
take-map f (suc n) [] = refl
take-map f (suc n) (w ∷ ws) = ap {B = List ℕ} (λ l. f w ∷ l) (take-map f n ws)

map-agree : (f g : ℕ → ℕ) (ws : List ℕ) → ((i : ℕ) → f (get_or ws i 0) ≡ g (get_or ws i 0)) → map f ws ≡ map g ws
map-agree f g [] h = refl
map-agree f g (w ∷ ws) h = ap₂ {C = List ℕ} (λ v l. v ∷ l) (h 0) (map-agree f g ws (λ i. h (suc i)))

word-new : (ms : List Bool) (marks : List ℕ) → Numbers ms marks → (w : ℕ) → ((t : ℕ) → w ≡ suc t → get_or ms t false ≡ true)
    → number_in marks w ≡ renumber ms w
unfolding number_in renumber
word-new ms marks N zero h = refl
word-new ms marks N (suc t) h = N t (h t refl)

-- ---- the first s states are done, and their edges end at `to`
pub record EdgePacking (ms : List Bool) (ss : List State) (edges : List ℕ) (to s : ℕ) : Type 0 where
  pub edges_are : edges ≡ over (edge_words (kept_to ms ms ss s)) (edge_words ss)
  pub to_is : to ≡ length (edge_words (kept_to ms ms ss s))

pub link-none : (ms : List Bool) (ss : List State) (edges : List ℕ) → edges ≡ edge_words ss → EdgePacking ms ss edges 0 0
unfolding edge_words each kept
link-none ms ss edges e = record { edges_are = e; to_is = refl }

module _ {w : ℕ} {ss : List State} {edges₀ marks : List ℕ} (E : EdgePart w ss edges₀ marks) {edges : List ℕ} {to s : ℕ}
    (P : EdgePacking (flags_of marks) ss edges to s) (end : s ≤ length marks / 2) where
  abbrev ms : List Bool
  ms = flags_of marks

  abbrev S : Shaped w ss
  S = E.shaped

  abbrev rr : List State
  rr = kept_to ms ms ss s

  low : s ≤ length ss
  low = omega (arith, E.marks-long)

  fit : length (edge_words rr) ≤ length (edge_words ss)
  fit = omega (arith, kept_to-edges ms ms ss s low, edges_le s ss)

  same : length edges ≡ length (edge_words ss)
  same = over-length (edge_words rr) (edge_words ss) edges P.edges_are fit

  pub edges_room : to ≤ length edges
  edges_room = omega (arith, same, fit, P.to_is)

  -- the end: what is left behind is made zero
  pub linked-edges : length marks / 2 ≤ s → {edges' : List ℕ} → edges' ≡ pad (length edges) (take to edges)
      → edges' ≡ pad (length edges₀) (edge_words (kept_by marks ss))
  linked-edges all q =
      rw (E.edges-is, ← kept-all ms ms ss s (omega (arith, E.marks-long)) (flags-length marks (length ss) E.marks-long))
      (q ∙ over-pad (edge_words rr) (edge_words ss) edges P.edges_are fit to (sym P.to_is))

  module _ (before : s < length marks / 2) where
    l : s < length ss
    l = omega (arith, E.marks-long)

    abbrev row : List ℕ
    row = (get_or ss s nowhere).edges

    to_low : to ≤ s * w
    to_low = omega (arith, P.to_is, kept_to-edges ms ms ss s low, edges-before S s l)

    rest : drop (s * w) edges ≡ drop (s * w) (edge_words ss)
    rest = over-drop (edge_words rr) (edge_words ss) edges P.edges_are fit (s * w) (omega (arith, to_low, P.to_is))

    row_is : take w (drop (s * w) edges) ≡ row
    row_is = ap (take w) rest ∙ edges-row S s l

    row_in : s * w + w ≤ length edges
    row_in = omega (arith, same, edges-inside S s l)

    pub edges-movable : (to ≤ s * w) × (s * w + w ≤ length edges) × ((i : ℕ) → i < w → 2 * get_or edges (s * w + i) 0 ≤ length marks)
    edges-movable = (to_low, row_in, λ i h. word i h)
      where
        read : (i : ℕ) → i < w → get_or edges (s * w + i) 0 ≡ get_or row i 0
        read i h = sym (get_or-drop (s * w) edges i 0) ∙ sym (get_or-take w (drop (s * w) edges) i 0 h) ∙ ap (λ q. get_or q i 0) row_is

        word : (i : ℕ) → i < w → 2 * get_or edges (s * w + i) 0 ≤ length marks
        word i h = omega (arith, read i h, S.low s i, E.marks-long)

    pub link-marked : Numbered ss marks → (get_or marks (2 * s) 0 ≡ 0 → ⊥) → {edges' : List ℕ}
        → edges' ≡ paste edges to (map (number_in marks) (drop (s * w) edges)) w → EdgePacking ms ss edges' (to + w) (s + 1)
    link-marked N n q =
        let e : get_or ms s false ≡ true = flag_true marks s (omega arith) n in
        let z : kept_to ms ms ss (s + 1) ≡ rr ++ (renumbered ms (get_or ss s nowhere) ∷ []) = rw add-one (kept-marked ms ms ss s l e) in
        record {
          edges_are = rw z (q ∙ moved ∙ ap (λ ws. over ws (edge_words ss)) (sym (edges_more rr (renumbered ms (get_or ss s nowhere)))));
          to_is = rw z
              (omega (
                arith,
                P.to_is,
                ap length (edges_more rr (renumbered ms (get_or ss s nowhere))),
                length-append (edge_words rr) (map (renumber ms) row),
                length-map row (renumber ms),
                S.wide s l,
              ));
        }
      where
        new : take w (map (number_in marks) (drop (s * w) edges)) ≡ map (renumber ms) row
        new =
            take-map (number_in marks) w (drop (s * w) edges)
            ∙ ap (map (number_in marks)) row_is
            ∙ map-agree (number_in marks) (renumber ms) row (λ i. word-new ms marks N.numbers (get_or row i 0) (λ t h. N.closed s i t (flag_true marks s (omega arith) n) h))

        moved : paste edges to (map (number_in marks) (drop (s * w) edges)) w ≡ over (edge_words rr ++ map (renumber ms) row) (edge_words ss)
        moved =
            over-paste (edge_words rr) (edge_words ss) edges P.edges_are fit to (sym P.to_is) (map (number_in marks) (drop (s * w) edges)) w
            (omega (arith, length-map (drop (s * w) edges) (number_in marks), length-drop (s * w) edges, row_in))
            ∙ ap (λ ws. over (edge_words rr ++ ws) (edge_words ss)) new

    pub link-unmarked : get_or marks (2 * s) 0 ≡ 0 → EdgePacking ms ss edges to (s + 1)
    link-unmarked e =
        let z : kept_to ms ms ss (s + 1) ≡ rr = rw add-one (kept-unmarked ms ms ss s l (flag-false marks s (omega arith) e)) in
        record { edges_are = rw z P.edges_are; to_is = rw z P.to_is }
