-- The states filled in order: the rows of the first states are done, and the room of the others is still zero. Assumes nothing.
use mathlib.Core.List.{List, [], ◌∷◌, ◌++◌, append-nil}
use mathlib.Core.Path.{◌≡◌, refl, sym, ap, ap₂, ◌∙◌, subst}
use Prim.Native.Nat.{ℕ, suc, ◌+◌, ◌-◌, ◌*◌, ◌^◌, ◌<◌, ◌≤◌}
use native.Mathlib.Nat.{mul-le-mul_right, suc-mul}
use native.Mathlib.Omega.{arith}
use native.Mathlib.Decide.{dec_lt}
use lib.ListN.{length, get_or, take, drop, replicate, length-append, length-replicate, get_or-append}
use lib.Seq.{take_all, get_or-append_seam}
use Rattle.std.specs.Prelude.{Ok, Err}
use Rattle.block.specs.Limits.{ITEM, TOKENS, RULES}
use Rattle.block.specs.Block.{tokens, rules}
use Rattle.block.specs.First.{firsts_of}
use Rattle.pager.specs.Lists.{each, Answer, is, refused, walk}
use Rattle.pager.specs.Place.{State}
use Rattle.pager.specs.Graph.{nowhere}
use Rattle.pager.specs.Memory.{pad}
use Rattle.pager.specs.Held.{STATES}
use Rattle.block.proofs.Good.{placed}
use Rattle.pager.proofs.Each.{each_more, each-length}
use Rattle.pager.proofs.CallLaws.{edge-part}
use Rattle.pager.proofs.Walking.{walk-next, walk-stuck}
use Rattle.statetable.specs.Limits.{RR, SR}
use Rattle.statetable.specs.Cells.{Fill, fill_state, Rows, row_added, added, fill_next, no_rows, cells_of}
use Rattle.statetable.specs.Laid.{tally_of, Listed, AllIn, Laid, LeftBy}
use Rattle.statetable.specs.ForFilling.{ForState}
use Rattle.statetable.specs.ForTables.{flat, TableRows, ForStates, FilledBy}
use Rattle.statetable.specs.declared.records.Caps.{Caps}
use Rattle.statetable.specs.declared.records.Tally.{Tally}
use Rattle.statetable.specs.declared.refusal.BuildRefusal.{BuildRefusal}
use Rattle.statetable.proofs.Rooms.{kernel-room, kernel-words, edges_room, edges-row, row-empty, row_put}

-- ---- the first s of so many states are done
pub record RowsDone (b : List ℕ) (m : Caps) (states s : ℕ) (d : Rows) (n : Tally) (actions offered rr sr : List ℕ) : Type 0 where
  pub rows : TableRows b s d.cells
  pub marks : length (flat d.offered) ≡ s * tokens b
  pub listed : Listed m d.told n rr sr
  pub count : d.told.count ≤ s * tokens b
  pub actions-are : actions ≡ flat d.cells ++ replicate ((states - s) * tokens b) 0
  pub offered-are : offered ≡ flat d.offered ++ replicate ((states - s) * tokens b) 0

-- ---- rows
pub rows-length : {b : List ℕ} {s : ℕ} {rs : List (List ℕ)} → TableRows b s rs → length (flat rs) ≡ s * tokens b
rows-length {b = b} {s = s} {rs = rs} T =
    let e = T.number in
    each-length (λ r. r) [] (tokens b) rs (λ i l. T.width i (omega arith)) ∙ ap (λ (k : ℕ). k * tokens b) e

-- what holds of the rows there, and of one more
one_more : (P : List ℕ → Type 0) (rs : List (List ℕ)) (r : List ℕ) (s : ℕ) → length rs ≡ s → ((i : ℕ) → i < s → P (get_or rs i [])) → P r
    → (i : ℕ) → i < suc s → P (get_or (rs ++ (r ∷ [])) i [])
one_more P rs r s e h p i l =
    elim (dec_lt i s) [
      | yes k ↦ subst P (sym (get_or-append rs (r ∷ []) [] i (omega arith))) (h i k)
      | no g ↦ let q : length rs ≡ i = omega arith in subst P (sym (ap (λ (j : ℕ). get_or (rs ++ (r ∷ [])) j []) (sym q) ∙ get_or-append_seam rs r [] [])) p
    ]

rows_more : {b : List ℕ} {s : ℕ} {rs : List (List ℕ)} → TableRows b s rs → (r : List ℕ) → length r ≡ tokens b → AllIn b r → TableRows b (suc s) (rs ++ (r ∷ []))
rows_more {b = b} {s = s} {rs = rs} T r w a =
    record {
      number = let e = T.number in omega (arith, length-append rs (r ∷ []));
      width = one_more (λ t. length t ≡ tokens b) rs r s T.number T.width w;
      actions = one_more (λ t. AllIn b t) rs r s T.number T.actions a;
    }

-- the words of the rows to come: those of the next, and the rest
rest : (states s w : ℕ) → s < states → (states - s) * w ≡ w + (states - suc s) * w
rest states s w l = let e : states - s ≡ suc (states - suc s) = omega arith in ap (λ (k : ℕ). k * w) e ∙ omega (arith, suc-mul (states - suc s) w)

-- ---- places of a row that is small are numbers of the machine
module _ (a k : ℕ) (h : a + k ≤ STATES * (RULES + TOKENS)) where
  pub from-fits : a < 2 ^ 64
  from-fits = omega arith

  pub to-fits : a + k < 2 ^ 64
  to-fits = omega arith

  pub bytes_fit : a * 4 < 2 ^ 64
  bytes_fit = omega arith

pub row_up : (a k : ℕ) → a ≤ a + k
row_up a k = omega arith

pub row-width : (a : ℕ) {k w : ℕ} → k ≡ w → a + k - a ≡ w
row-width a e = omega arith

pub less-left : (n s : ℕ) → s < n → n - (s + 1) < n - s
less-left n s l = omega arith

-- ---- the fold over the first s states, and the room then
pub record Upto (b : List ℕ) (m : Caps) (states : ℕ) (ss : List State) (s : ℕ) (n : Tally) (actions offered rr sr : List ℕ) : Type 0 where
  pub within : s ≤ states
  pub rows : Rows
  pub are : walk (fill_next b (firsts_of b) m) no_rows (take s ss) ≡ is rows
  pub done : RowsDone b m states s rows n actions offered rr sr

-- ---- at the end all states are done
pub filled-all : {b : List ℕ} {m : Caps} {states : ℕ} {ss : List State} {s : ℕ} {n : Tally} {actions offered rr sr : List ℕ}
    → Upto b m states ss s n actions offered rr sr → states ≡ length ss → states ≤ s
    → FilledBy (cells_of b (firsts_of b) m ss) b m states (Ok n) actions offered rr sr
unfolding cells_of
filled-all {b} {m} {states} {ss} {s} {n} {actions} {offered} {rr} {sr} U q l =
    subst (λ (x : Answer Rows). FilledBy x b m states (Ok n) actions offered rr sr) (sym all-are)
    (record {
      rows = subst (λ (k : ℕ). TableRows b k U.rows.cells) all D.rows;
      listed = D.listed;
      actions-are = D.actions-are ∙ whole (flat U.rows.cells);
      offered-are = D.offered-are ∙ whole (flat U.rows.offered);
    })
  where
    D : RowsDone b m states s U.rows n actions offered rr sr
    D = U.done

    all : s ≡ states
    all = let w = U.within in omega arith

    all-are : walk (fill_next b (firsts_of b) m) no_rows ss ≡ is U.rows
    all-are = ap (λ (t : List State). walk (fill_next b (firsts_of b) m) no_rows t) (sym (take_all s ss (omega arith))) ∙ U.are

    whole : (xs : List ℕ) → xs ++ replicate ((states - s) * tokens b) 0 ≡ xs
    whole xs = let e : states - s ≡ 0 = omega arith in ap (λ (k : ℕ). xs ++ replicate (k * tokens b) 0) e ∙ nothing
      where
        nothing : xs ++ replicate (0 * tokens b) 0 ≡ xs
        nothing = let e : 0 * tokens b ≡ 0 = omega arith in ap (λ (k : ℕ). xs ++ replicate k 0) e ∙ append-nil xs

module _ {b : List ℕ} {m : Caps} {states : ℕ} {items spans edges closed actions₀ offered₀ rr₀ sr₀ : List ℕ} {ss : List State}
    (S : ForStates b m states items spans edges closed actions₀ offered₀ rr₀ sr₀ ss) where
  -- ---- before the first state
  pub done_none : Upto b m states ss 0 (tally_of no_rows.told) actions₀ offered₀ rr₀ sr₀
  unfolding walk each pad
  done_none =
      record {
        within = omega arith;
        rows = no_rows;
        are = refl;
        done =
            record {
              rows = record { number = refl; width = λ i l. absurd (omega arith); actions = λ i l. absurd (omega arith) };
              marks = omega arith;
              listed =
                  record {
                    reduces = record { fair = S.rr-fair; few = omega arith; is = S.rr-are ∙ ap (λ (k : ℕ). replicate k 0) (minus-zero (RR * m.rr)) };
                    shifts = record { fair = S.sr-fair; few = omega arith; is = S.sr-are ∙ ap (λ (k : ℕ). replicate k 0) (minus-zero (SR * m.sr)) };
                    counts = refl;
                  };
              count = omega arith;
              actions-are = S.actions-are ∙ ap (λ (k : ℕ). replicate (k * tokens b) 0) (minus-zero states);
              offered-are = S.offered-are ∙ ap (λ (k : ℕ). replicate (k * tokens b) 0) (minus-zero states);
            };
      }
    where
      minus-zero : (k : ℕ) → k ≡ k - 0
      minus-zero k = omega arith

  -- ---- state s: its row is in the room, and its edges are there
  module _ (s : ℕ) (l : s < states) (t : ℕ) (t-is : t ≡ tokens b) where
    long : (room : List ℕ) → length room ≡ states * tokens b → s * t + t ≤ length room
    long room q =
        omega (
          arith,
          ap (λ (k : ℕ). s * k) t-is,
          suc-mul s (tokens b),
          mul-le-mul_right {m = suc s} {n = states} (tokens b) l,
        )

    pub actions-in : (room : List ℕ) → length room ≡ length actions₀ → s * t + t ≤ length room
    actions-in room q = long room (q ∙ ap length S.actions-are ∙ length-replicate {A = ℕ} (states * tokens b) 0)

    pub offered-in : (room : List ℕ) → length room ≡ length offered₀ → s * t + t ≤ length room
    offered-in room q = long room (q ∙ ap length S.offered-are ∙ length-replicate {A = ℕ} (states * tokens b) 0)

    pub wide_fits : (r : ℕ) → r ≡ rules b → s * (r + t) + (r + t) ≤ STATES * (RULES + TOKENS)
    wide_fits r r-is =
        let p = placed S.good in
        let w : ℕ = r + t in
        omega (arith, suc-mul s w, edge-part (suc s) w (let f = S.graph.few in let q = S.number in omega arith) (omega (arith, p.rules-most, p.tokens-most)))

    pub row_fits : s * t + t ≤ STATES * (RULES + TOKENS)
    row_fits =
        let p = placed S.good in
        omega (arith, suc-mul s t, edge-part (suc s) t (let f = S.graph.few in let q = S.number in omega arith) (omega (arith, p.tokens-most)))

    pub next_fits : s + 1 < 2 ^ 64
    next_fits = let f = S.graph.few in let q = S.number in omega arith

    pub edges-in : (r : ℕ) → r ≡ rules b → s * (r + t) + (r + t) ≤ length edges
    edges-in r r-is =
        let e : r + t ≡ rules b + tokens b = omega arith in
        omega (arith, ap (λ (k : ℕ). s * k) e, edges_room S.graph s (let q = S.number in omega arith))

  pub kernel-in : (s : ℕ) → s < states
      → (2 * s + 1 < length spans) × (ITEM * get_or spans (2 * s) 0 + ITEM * get_or spans (2 * s + 1) 0 ≤ length items)
  kernel-in s l = kernel-room S.graph s (let q = S.number in omega arith)

  -- ---- state s is filled, or refused
  module _ {s : ℕ} {n : Tally} {actions offered rr sr : List ℕ} (T : Upto b m states ss s n actions offered rr sr) (l : s < states) where
    there : s < length ss
    there = let q = S.number in omega arith

    stepped : walk (fill_next b (firsts_of b) m) no_rows (take (suc s) ss) ≡ added T.rows (fill_state b (firsts_of b) m s T.rows.told (get_or ss s nowhere))
    unfolding fill_next
    stepped =
        walk-next (fill_next b (firsts_of b) m) ss s nowhere there no_rows
        ∙ ap (λ (x : Answer Rows). elim x [ is c ↦ fill_next b (firsts_of b) m c (get_or ss s nowhere) | refused e ↦ refused e ]) T.are
        ∙ ap (λ (k : ℕ). added T.rows (fill_state b (firsts_of b) m k T.rows.told (get_or ss s nowhere))) T.done.rows.number

    -- state s is refused
    pub filled-stop : (e : BuildRefusal) (c : ℕ) (cells marks rr' sr' : List ℕ)
        → LeftBy (fill_state b (firsts_of b) m s T.rows.told (get_or ss s nowhere)) b m s c (Err e) cells marks rr' sr'
        → (actions' offered' rr'' sr'' : List ℕ) → FilledBy (cells_of b (firsts_of b) m ss) b m states (Err e) actions' offered' rr'' sr''
    unfolding cells_of
    filled-stop e c cells marks rr' sr' L actions' offered' rr'' sr'' = go (fill_state b (firsts_of b) m s T.rows.told (get_or ss s nowhere)) refl L
      where
        go : (x : Answer Fill) → fill_state b (firsts_of b) m s T.rows.told (get_or ss s nowhere) ≡ x
            → LeftBy x b m s c (Err e) cells marks rr' sr' → FilledBy (walk (fill_next b (firsts_of b) m) no_rows ss) b m states (Err e) actions' offered' rr'' sr''
        go (is g) q L = absurd L
        go (refused why) q L =
            subst (λ (x : Answer Rows). FilledBy x b m states (Err e) actions' offered' rr'' sr'')
            (sym (walk-stuck (fill_next b (firsts_of b) m) ss (suc s) why no_rows (stepped ∙ ap (added T.rows) q))) L

  -- ---- state s: what it is lent, and what it leaves
  module _ {s : ℕ} {n : Tally} {actions offered rr sr : List ℕ} (T : Upto b m states ss s n actions offered rr sr) (l : s < states)
      (at w : ℕ) (at-is : at ≡ s * tokens b) (w-is : w ≡ tokens b) where
    left : ℕ
    left = (states - suc s) * tokens b

    module _ (done room : List ℕ) (size : length done ≡ s * tokens b) (q : room ≡ done ++ replicate ((states - s) * tokens b) 0) where
      with_rest : room ≡ done ++ replicate (w + left) 0
      unfolding left
      with_rest = q ∙ ap (λ (k : ℕ). done ++ replicate k 0) (rest states s (tokens b) l ∙ ap (λ (k : ℕ). k + left) (sym w-is))

      empty : take w (drop at room) ≡ replicate (tokens b) 0
      empty = row-empty done room at w left (size ∙ sym at-is) with_rest ∙ ap (λ (k : ℕ). replicate k 0) w-is

      put : (row : List ℕ) → take at room ++ (row ++ drop w (drop at room)) ≡ (done ++ row) ++ replicate ((states - suc s) * tokens b) 0
      unfolding left
      put row = row_put done room at w left (size ∙ sym at-is) with_rest row

    pub for-one : (from wide : ℕ) → from ≡ s * (rules b + tokens b) → wide ≡ rules b + tokens b
        → (kernel : List ℕ) → kernel ≡ take (ITEM * get_or spans (2 * s + 1) 0) (drop (ITEM * get_or spans (2 * s) 0) items)
        → (closed' : List ℕ) → length closed' ≡ length closed
        → ForState b m s kernel (take wide (drop from edges)) closed' n (take w (drop at actions)) (take w (drop at offered)) rr sr
        (get_or ss s nowhere) T.rows.told
    for-one from wide from_is wide_is kernel kernel-is closed' same =
        let D = T.done in
        record {
          good = S.good;
          state = let f = S.graph.few in let q = S.number in omega arith;
          fillable = S.graph.fillable s (there T l);
          words = kernel-is ∙ kernel-words S.graph s (there T l);
          edges_are = ap₂ (λ (i j : ℕ). take i (drop j edges)) wide_is from_is ∙ edges-row S.graph s (there T l);
          room = let r = S.room in omega arith;
          cells_are = empty (flat T.rows.cells) actions (rows-length D.rows) D.actions-are;
          offered-are = empty (flat T.rows.offered) offered D.marks D.offered-are;
          listed = D.listed;
          count = D.count;
        }

    module _ (n' : Tally) (cells marks rr' sr' : List ℕ) where
      abbrev actions' : List ℕ
      actions' = take at actions ++ (cells ++ drop w (drop at actions))

      abbrev offered' : List ℕ
      offered' = take at offered ++ (marks ++ drop w (drop at offered))

      row_done : (g : Fill) → Laid b m s (s * tokens b + tokens b) g n' cells marks rr' sr' → RowsDone b m states (suc s) (row_added T.rows g) n' actions' offered' rr' sr'
      row_done g L =
          let D = T.done in
          record {
            rows = rows_more D.rows g.cells L.width L.actions;
            marks =
                let e = L.marks in
                let f = D.marks in
                ap length (each_more (λ r. r) T.rows.offered g.offered) ∙ omega (arith, length-append (flat T.rows.offered) g.offered, suc-mul s (tokens b));
            listed = L.listed;
            count = let c = L.count in omega (arith, suc-mul s (tokens b));
            actions-are =
                put (flat T.rows.cells) actions (rows-length D.rows) D.actions-are cells
                ∙ ap (λ (t : List ℕ). t ++ replicate ((states - suc s) * tokens b) 0)
                (ap (λ (t : List ℕ). flat T.rows.cells ++ t) L.cells_are ∙ sym (each_more (λ r. r) T.rows.cells g.cells));
            offered-are =
                put (flat T.rows.offered) offered D.marks D.offered-are marks
                ∙ ap (λ (t : List ℕ). t ++ replicate ((states - suc s) * tokens b) 0)
                (ap (λ (t : List ℕ). flat T.rows.offered ++ t) L.offered-are ∙ sym (each_more (λ r. r) T.rows.offered g.offered));
          }

      pub done_next : LeftBy (fill_state b (firsts_of b) m s T.rows.told (get_or ss s nowhere)) b m s (s * tokens b + tokens b) (Ok n') cells marks rr' sr'
          → (s' : ℕ) → s' ≡ suc s → Upto b m states ss s' n' actions' offered' rr' sr'
      done_next L s' q = subst (λ (k : ℕ). Upto b m states ss k n' actions' offered' rr' sr') (sym q) (go (fill_state b (firsts_of b) m s T.rows.told (get_or ss s nowhere)) refl L)
        where
          go : (x : Answer Fill) → fill_state b (firsts_of b) m s T.rows.told (get_or ss s nowhere) ≡ x
              → LeftBy x b m s (s * tokens b + tokens b) (Ok n') cells marks rr' sr' → Upto b m states ss (suc s) n' actions' offered' rr' sr'
          go (is g) e L = record { within = l; rows = row_added T.rows g; are = stepped T l ∙ ap (added T.rows) e; done = row_done g L }
          go (refused why) e L = absurd L
