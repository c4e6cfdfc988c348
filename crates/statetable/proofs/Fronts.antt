-- Gotos and marks in the first words of rooms that were cleared. Assumes nothing.
use mathlib.Core.List.{List, [], ◌++◌, map, append_assoc}
use mathlib.Core.Path.{◌≡◌, sym, ap, ◌∙◌, subst}
use Prim.Native.Nat.{ℕ, ◌+◌, ◌-◌, ◌*◌, ◌≤◌}
use native.Mathlib.Nat.{mul-le-mul_right}
use native.Mathlib.Omega.{arith}
use lib.ListN.{length, take, drop, replicate, length-replicate, replicate-append-replicate}
use lib.Seq.{take_at, drop_at}
use Rattle.block.specs.Block.{tokens, rules, prods}
use Rattle.pager.specs.Lists.{each}
use Rattle.pager.specs.Place.{State}
use Rattle.pager.specs.Memory.{pad}
use Rattle.pager.specs.Held.{STATES}
use Rattle.pager.specs.Call.{zeroed}
use Rattle.pager.proofs.Each.{each-length}
use Rattle.statetable.specs.Marks.{shift_mark, core_marks, reduce_only}
use Rattle.statetable.specs.ForTables.{flat, goto_words, ForGotos, ForMarks, ForDerived, Derived}

-- ---- the first k of n words that are zero
module _ (n k : ℕ) (before cleared : List ℕ) (e : cleared ≡ zeroed n before) (room : n ≤ length before) (l : k ≤ n) where
  abbrev zeros : ℕ → List ℕ
  zeros m = replicate m 0

  split : cleared ≡ zeros k ++ (zeros (n - k) ++ drop n before)
  split =
      let q : n ≡ k + (n - k) = omega arith in
      e
      ∙ ap (λ (m : ℕ). zeros m ++ drop n before) q
      ∙ ap (λ (t : List ℕ). t ++ drop n before) (sym (replicate-append-replicate k (n - k) 0))
      ∙ append_assoc (zeros k) (zeros (n - k)) (drop n before)

  pub front-zero : take k cleared ≡ replicate k 0
  front-zero = ap (λ (t : List ℕ). take k t) split ∙ take_at (zeros k) (zeros (n - k) ++ drop n before) k (length-replicate {A = ℕ} k 0)

  pub front_length : length (take k cleared) ≡ k
  front_length = ap length front-zero ∙ length-replicate {A = ℕ} k 0

  -- that many words there, and zero behind them
  pub front-pad : (ws : List ℕ) → length ws ≡ length (take k cleared) → (vs : List ℕ) → ws ≡ vs → ws ++ drop k cleared ≡ pad n vs ++ drop n before
  unfolding pad
  front-pad ws h vs q =
      let j : k ≡ length ws = sym (h ∙ front_length) in
      ap (λ (t : List ℕ). ws ++ t) (ap (λ (t : List ℕ). drop k t) split ∙ drop_at (zeros k) (zeros (n - k) ++ drop n before) k (length-replicate {A = ℕ} k 0))
      ∙ sym (append_assoc ws (zeros (n - k)) (drop n before))
      ∙ ap (λ (m : ℕ). (ws ++ zeros (n - m)) ++ drop n before) j
      ∙ ap (λ (t : List ℕ). (t ++ zeros (n - length t)) ++ drop n before) q

-- ---- the four rooms
module _ {b edges actions gotos shifts cores only : List ℕ} {most n : ℕ} {ss : List State} {rs : List (List ℕ)}
    (H : ForDerived b most n edges actions gotos shifts cores only ss rs) (t : ℕ) (t-is : t ≡ tokens b) (r : ℕ) (r-is : r ≡ rules b) (p : ℕ) (p-is : p ≡ prods b) where
  pub few-states : n ≤ STATES
  few-states = let f = H.fit in let g = H.fair in omega arith

  -- not more than was cleared
  pub gotos-fit : n * r ≤ most * rules b
  gotos-fit = subst (λ (k : ℕ). n * k ≤ most * rules b) (sym r-is) (mul-le-mul_right {m = n} {n = most} (rules b) H.fit)

  pub shifts_fit : n * t ≤ most * tokens b
  shifts_fit = subst (λ (k : ℕ). n * k ≤ most * tokens b) (sym t-is) (mul-le-mul_right {m = n} {n = most} (tokens b) H.fit)

  pub cores-fit : n * p ≤ most * prods b
  cores-fit = subst (λ (k : ℕ). n * k ≤ most * prods b) (sym p-is) (mul-le-mul_right {m = n} {n = most} (prods b) H.fit)

  -- the cells
  flat-length : length (flat rs) ≡ n * tokens b
  flat-length =
      each-length (λ r. r) [] (tokens b) rs (λ k m. H.rows.width k (omega (arith, H.rows.number)))
      ∙ ap (λ (k : ℕ). k * tokens b) H.rows.number

  cells_are : take (n * t) actions ≡ flat rs
  cells_are =
      ap (λ (k : ℕ). take (n * k) actions) t-is
      ∙ ap (λ (u : List ℕ). take (n * tokens b) u) H.actions-are
      ∙ take_at (flat rs) H.actions-behind (n * tokens b) flat-length

  pub cells-length : length (take (n * t) actions) ≡ n * t
  cells-length = ap length cells_are ∙ flat-length ∙ ap (λ (k : ℕ). n * k) (sym t-is)

  module _ (gotos₁ : List ℕ) (g : gotos₁ ≡ zeroed (most * rules b) gotos) where
    pub gotos-asked : ForGotos b n edges (take (n * r) gotos₁) ss
    gotos-asked =
        record {
          good = H.good;
          number = H.number;
          few = few-states;
          widths = H.widths;
          edges-behind = H.edges-behind;
          edges_are = H.edges_are;
          room = front_length (most * rules b) (n * r) gotos gotos₁ g H.gotos-room gotos-fit ∙ ap (λ (k : ℕ). n * k) r-is;
        }

  module _ (cores₁ : List ℕ) (c : cores₁ ≡ zeroed (most * prods b) cores) (only₁ : List ℕ) (o : only₁ ≡ zeroed most only) where
    pub marks-asked : ForMarks b n (take (n * t) actions) (take (n * p) cores₁) (take n only₁) rs
    marks-asked =
        record {
          good = H.good;
          few = few-states;
          rows = H.rows;
          actions-are = cells_are;
          cores-are = front-zero (most * prods b) (n * p) cores cores₁ c H.cores-room cores-fit ∙ ap (λ (k : ℕ). replicate (n * k) 0) p-is;
          room = front_length most n only only₁ o H.only-room H.fit;
        }

  module _ (gotos₁ shifts₁ cores₁ only₁ : List ℕ) (g : gotos₁ ≡ zeroed (most * rules b) gotos) (s : shifts₁ ≡ zeroed (most * tokens b) shifts)
      (c : cores₁ ≡ zeroed (most * prods b) cores) (o : only₁ ≡ zeroed most only) (gotos₂ shifts₂ cores₂ only₂ : List ℕ)
      (g-size : length gotos₂ ≡ length (take (n * r) gotos₁)) (s-size : length shifts₂ ≡ length (take (n * t) shifts₁))
      (c-size : length cores₂ ≡ length (take (n * p) cores₁)) (o-size : length only₂ ≡ length (take n only₁)) where
    pub derived : gotos₂ ≡ goto_words b ss → shifts₂ ≡ map shift_mark (take (n * t) actions) → cores₂ ≡ each (core_marks (prods b)) rs → only₂ ≡ map (reduce_only (prods b)) rs
        → Derived b most ss rs gotos shifts cores only (gotos₂ ++ drop (n * r) gotos₁) (shifts₂ ++ drop (n * t) shifts₁)
        (cores₂ ++ drop (n * p) cores₁) (only₂ ++ drop n only₁)
    derived gs ss' cs os =
        record {
          gotos-are = front-pad (most * rules b) (n * r) gotos gotos₁ g H.gotos-room gotos-fit gotos₂ g-size (goto_words b ss) gs;
          shifts-are =
              front-pad (most * tokens b) (n * t) shifts shifts₁ s H.shifts-room shifts_fit shifts₂ s-size (map shift_mark (flat rs)) (ss' ∙ ap (map shift_mark) cells_are);
          cores-are = front-pad (most * prods b) (n * p) cores cores₁ c H.cores-room cores-fit cores₂ c-size (each (core_marks (prods b)) rs) cs;
          only-are = front-pad most n only only₁ o H.only-room H.fit only₂ o-size (map (reduce_only (prods b)) rs) os;
        }
