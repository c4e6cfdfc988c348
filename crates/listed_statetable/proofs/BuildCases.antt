-- A case of a build, read from the front: five numbers, eleven lengths, and what is expected. Assumes nothing.
use mathlib.Core.Bool.{Bool, true}
use mathlib.Core.List.{List, [], ◌∷◌}
use mathlib.Core.Logic.{◌↔◌}
use mathlib.Core.Path.{◌≡◌, refl, sym, ap, ◌∙◌, subst}
use Prim.Native.Nat.{ℕ, ◌^◌, ◌<◌, ◌≤◌}
use native.Mathlib.Omega.{arith}
use lib.ListN.{length, get_or, take, drop, length-append, take-append-drop}
use lib.Seq.{length-take-le, take_at, drop_at}
use Rattle.words.proofs.PartLaws.{part-tail}
use Rattle.statetable.specs.declared.call.Named.{Named}
use Rattle.listed_block.specs.Rooms.{ROOM}
use Rattle.listed_pager.specs.Work.{work_of}
use Rattle.listed_statetable.specs.Builds.{lent_all_for, BuildSeen, LentCase, AskedCase}
use Rattle.listed_statetable.proofs.Tails.{from}

-- ---- eleven lengths, and what is expected
module _ (b : List ℕ) (n : Named) (fill : ℕ) (rest : List ℕ) where
  pub lent-enough : LentCase b n fill rest → 11 ≤ length rest
  lent-enough g = omega (arith, g.eleven, ap length g.words, length-append g.lengths g.expected)

  -- what is seen of a call with these lengths
  abbrev SeenOf : List ℕ → List ℕ → Type 0
  SeenOf lengths expected = BuildSeen b n fill (lent_all_for (work_of b n.states) fill lengths) expected

  pub lent_by : {r : Bool} → fill < 2 ^ 32 → 11 ≤ length rest → (work_of b n.states).closed ≤ ROOM
      → (r ≡ true) ↔ SeenOf (take 11 rest) (from 11 rest) → (r ≡ true) ↔ ((fill < 2 ^ 32) × LentCase b n fill rest)
  lent_by f h m i = (
    λ t. (
      f,
      record {
        lengths = take 11 rest;
        expected = from 11 rest;
        eleven = length-take-le 11 rest h;
        words = rw (part-tail 11 rest) (sym (take-append-drop 11 rest));
        room = m;
        seen = i.0 t;
      },
    ),
    λ g.
        let c = g.1 in
        let l : c.lengths ≡ take 11 rest = sym (ap (take 11) c.words ∙ take_at c.lengths c.expected 11 c.eleven) in
        let e : c.expected ≡ from 11 rest = sym (part-tail 11 rest ∙ ap (drop 11) c.words ∙ drop_at c.lengths c.expected 11 c.eleven) in
        i.1 (subst (λ x. SeenOf (take 11 rest) x) e (subst (λ x. SeenOf x c.expected) l c.seen)),
  )

-- ---- five numbers before them
five : (l : List ℕ) → 5 ≤ length l → l ≡ get_or l 0 0 ∷ get_or l 1 0 ∷ get_or l 2 0 ∷ get_or l 3 0 ∷ get_or l 4 0 ∷ drop 5 l
five [] h = absurd (omega arith)
five (a ∷ []) h = absurd (omega arith)
five (a ∷ b ∷ []) h = absurd (omega arith)
five (a ∷ b ∷ c ∷ []) h = absurd (omega arith)
five (a ∷ b ∷ c ∷ d ∷ []) h = absurd (omega arith)
five (a ∷ b ∷ c ∷ d ∷ e ∷ l) h = refl

module _ (b rest : List ℕ) where
  pub asked-enough : AskedCase b rest → 5 ≤ length rest
  asked-enough g = rw g.words (omega arith)

  pub asked_by : {r : Bool} {s i x y : ℕ} → s ≡ get_or rest 0 0 → i ≡ get_or rest 1 0 → x ≡ get_or rest 2 0 → y ≡ get_or rest 3 0 → 5 ≤ length rest
      → (r ≡ true) ↔ ((get_or rest 4 0 < 2 ^ 32) × LentCase b (record { states = s; items = i; rr = x; sr = y }) (get_or rest 4 0) (from 5 rest))
      → (r ≡ true) ↔ AskedCase b rest
  asked_by {s = s} {i = i} {x = x} {y = y} es ei ex ey h f = (
    λ t. record {
      named = record { states = s; items = i; rr = x; sr = y };
      fill = get_or rest 4 0;
      lengths = from 5 rest;
      words = rw (es, ei, ex, ey, part-tail 5 rest) (five rest h);
      narrow = (f.0 t).0;
      lent = (f.0 t).1;
    },
    λ g.
        let m = g.named in
        let a : m.states ≡ s = sym (es ∙ ap (λ l. get_or l 0 0) g.words) in
        let c : m.items ≡ i = sym (ei ∙ ap (λ l. get_or l 1 0) g.words) in
        let d : m.rr ≡ x = sym (ex ∙ ap (λ l. get_or l 2 0) g.words) in
        let e : m.sr ≡ y = sym (ey ∙ ap (λ l. get_or l 3 0) g.words) in
        let n : g.named ≡ record { states = s; items = i; rr = x; sr = y } = rw (sym a, sym c, sym d, sym e) refl in
        let w : g.fill ≡ get_or rest 4 0 = sym (ap (λ l. get_or l 4 0) g.words) in
        let k : g.lengths ≡ from 5 rest = sym (part-tail 5 rest ∙ ap (drop 5) g.words) in
        f.1 (
          subst (λ z. z < 2 ^ 32) w g.narrow,
          subst (λ z. LentCase b (record { states = s; items = i; rr = x; sr = y }) (get_or rest 4 0) z) k
              (subst (λ z. LentCase b (record { states = s; items = i; rr = x; sr = y }) z g.lengths) w (subst (λ z. LentCase b z g.fill g.lengths) n g.lent)),
        ),
  )
