-- Lines of which the first word is read: a count of states, or the kind of a query. Assumes nothing.
use mathlib.Core.Bool.{Bool, true, false}
use mathlib.Core.List.{List, [], ◌∷◌}
use mathlib.Core.Logic.{◌↔◌}
use mathlib.Core.Path.{◌≡◌, sym, ap, ◌∙◌, subst}
use Prim.Native.Nat.{ℕ, ◌≤◌}
use native.Mathlib.Omega.{arith}
use lib.ListN.{length, get_or, drop}
use Rattle.words.specs.Given.{Given}
use Rattle.words.proofs.Answers.{says-no}
use Rattle.words.proofs.PartLaws.{part-tail}
use Rattle.listed_block.specs.Rooms.{BLOCK}
use Rattle.listed_statetable.specs.Queries.{WordCase, TableCase, QueryCase}
use Rattle.listed_statetable.proofs.Tails.{from}

head_tail : (l : List ℕ) → 1 ≤ length l → l ≡ get_or l 0 0 ∷ from 1 l
head_tail [] h = absurd (omega arith)
head_tail (x ∷ l) h = ap (λ t. x ∷ t) (sym (part-tail 1 (x ∷ l)))

module _ (kind : ℕ) (b rest : List ℕ) where
  pub table-some : TableCase kind b rest → 1 ≤ length rest
  table-some g = rw g.words (omega arith)

  pub table-by : {r : Bool} (states : ℕ) → states ≡ get_or rest 0 0 → 1 ≤ length rest
      → (r ≡ true) ↔ Given BLOCK (WordCase kind b states) (from 1 rest) → (r ≡ true) ↔ TableCase kind b rest
  table-by states e h i = (
    λ t. record { states = states; more = from 1 rest; words = rw e (head_tail rest h); holds = i.0 t },
    λ g.
        let s : g.states ≡ states = sym (e ∙ ap (λ l. get_or l 0 0) g.words) in
        let m : g.more ≡ from 1 rest = sym (part-tail 1 rest ∙ ap (drop 1) g.words) in
        i.1 (subst (λ l. Given BLOCK (WordCase kind b states) l) m (subst (λ n. Given BLOCK (WordCase kind b n) g.more) s g.holds)),
  )

module _ (line : List ℕ) where
  pub query-not : (1 ≤ length line → get_or line 0 0 ≤ 5 → ⊥) → (false ≡ true) ↔ QueryCase line
  query-not f = says-no (λ g. f (rw g.words (omega arith)) (rw g.words g.known))

  pub query-by : {r : Bool} → 1 ≤ length line → get_or line 0 0 ≤ 5 → (r ≡ true) ↔ Given BLOCK (TableCase (get_or line 0 0)) (from 1 line)
      → (r ≡ true) ↔ QueryCase line
  query-by h k i = (
    λ t. record { kind = get_or line 0 0; more = from 1 line; words = head_tail line h; known = k; holds = i.0 t },
    λ g.
        let s : g.kind ≡ get_or line 0 0 = sym (ap (λ l. get_or l 0 0) g.words) in
        let m : g.more ≡ from 1 line = sym (part-tail 1 line ∙ ap (drop 1) g.words) in
        i.1 (subst (λ l. Given BLOCK (TableCase (get_or line 0 0)) l) m (subst (λ n. Given BLOCK (TableCase n) g.more) s g.holds)),
  )
