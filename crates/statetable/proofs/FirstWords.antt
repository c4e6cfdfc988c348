-- The first words of lent rooms: zero before, then the tables, then zero behind them. Assumes nothing.
use mathlib.Core.Bool.{true, false, true≢false}
use mathlib.Core.List.{List, ◌++◌, append_assoc}
use mathlib.Core.Path.{◌≡◌, sym, ap, ◌∙◌}
use Prim.Native.Nat.{ℕ, ◌+◌, ◌-◌, ◌*◌, ◌≤◌}
use native.Mathlib.Nat.{mul-le-mul_right}
use native.Mathlib.Omega.{arith}
use lib.ListN.{length, take, drop, replicate, length-append, length-drop, length-replicate, replicate-append-replicate}
use lib.Seq.{take_at, drop_at, drop-drop, length-take-le, length_front}
use Rattle.std.specs.Prelude.{Result, Ok, Err, is_err}
use Rattle.block.specs.Block.{tokens}
use Rattle.block.specs.First.{firsts_of}
use Rattle.pager.specs.Lists.{each, Answer, is, refused}
use Rattle.pager.specs.Place.{State}
use Rattle.pager.specs.Memory.{pad}
use Rattle.pager.specs.Building.{Scratch}
use Rattle.pager.specs.Call.{closed_part, zeroed}
use Rattle.statetable.specs.Limits.{RR, SR}
use Rattle.statetable.specs.Cells.{Rows, cells_of}
use Rattle.statetable.specs.Laid.{words_rr, words_sr}
use Rattle.statetable.specs.ForTables.{flat, ForStates, FilledBy, ForNamed, NamedBy, ForTables, TablesFilled}
use Rattle.statetable.specs.declared.records.Caps.{Caps}
use Rattle.statetable.specs.declared.records.Tally.{Tally}
use Rattle.statetable.specs.declared.refusal.BuildRefusal.{BuildRefusal}
use Rattle.statetable.proofs.RowByRow.{rows-length}

-- ---- room whose first N words are zero
module _ (N : ℕ) (xs : List ℕ) {ys : List ℕ} (e : ys ≡ zeroed N xs) where
  zeroed-front : take N ys ≡ replicate N 0
  zeroed-front = ap (λ (t : List ℕ). take N t) e ∙ take_at (replicate N 0) (drop N xs) N (length-replicate {A = ℕ} N 0)

  zeroed-behind : drop N ys ≡ drop N xs
  zeroed-behind = ap (λ (t : List ℕ). drop N t) e ∙ drop_at (replicate N 0) (drop N xs) N (length-replicate {A = ℕ} N 0)

  zeroed-long : N ≤ length ys
  zeroed-long = omega (arith, ap length e, length-append (replicate N 0) (drop N xs), length-replicate {A = ℕ} N 0)

  -- and so are fewer
  module _ (k : ℕ) (h : k ≤ N) where
    split : ys ≡ replicate k 0 ++ (replicate (N - k) 0 ++ drop N xs)
    split =
        let q : N ≡ k + (N - k) = omega arith in
        e
        ∙ ap (λ (j : ℕ). replicate j 0 ++ drop N xs) q
        ∙ ap (λ (t : List ℕ). t ++ drop N xs) (sym (replicate-append-replicate k (N - k) 0))
        ∙ append_assoc (replicate k 0) (replicate (N - k) 0) (drop N xs)

    zeroed_rest : drop k ys ≡ replicate (N - k) 0 ++ drop N xs
    zeroed_rest =
        ap (λ (t : List ℕ). drop k t) split ∙ drop_at (replicate k 0) (replicate (N - k) 0 ++ drop N xs) k (length-replicate {A = ℕ} k 0)

    zeroed-less : ys ≡ zeroed k ys
    zeroed-less = split ∙ ap (λ (t : List ℕ). replicate k 0 ++ t) (sym zeroed_rest)

    -- k words written there are padded with zeros
    zeroed-pad : (ws : List ℕ) → length ws ≡ k → ws ++ drop k ys ≡ pad N ws ++ drop N xs
    unfolding pad
    zeroed-pad ws q =
        ap (λ (t : List ℕ). ws ++ t) zeroed_rest
        ∙ sym (append_assoc ws (replicate (N - k) 0) (drop N xs))
        ∙ ap (λ (j : ℕ). (ws ++ replicate (N - j) 0) ++ drop N xs) (sym q)

    -- whatever was done to them, they are zero again
    zeroed-again : {zs ws : List ℕ} → Scratch k ys zs → ws ≡ zeroed N zs → ws ≡ zeroed N xs
    zeroed-again {zs = zs} S f =
        let q : N ≡ k + (N - k) = omega arith in
        f
        ∙ ap (λ (t : List ℕ). replicate N 0 ++ t)
        (ap (λ (j : ℕ). drop j zs) q
        ∙ sym (drop-drop (N - k) k zs)
        ∙ ap (λ (t : List ℕ). drop (N - k) t) S.behind
        ∙ drop-drop (N - k) k ys
        ∙ ap (λ (j : ℕ). drop j ys) (sym q)
        ∙ zeroed-behind)

-- other words in front
module _ (N : ℕ) (xs ws : List ℕ) (l : N ≤ length xs) (q : length ws ≡ length (take N xs)) where
  front-behind : drop N (ws ++ drop N xs) ≡ drop N xs
  front-behind = drop_at ws (drop N xs) N (q ∙ length-take-le N xs l)

  front-scratch : Scratch N xs (ws ++ drop N xs)
  front-scratch = record { size = length_front xs ws N q; behind = front-behind }

  pub front_long : N ≤ length (ws ++ drop N xs)
  front_long = omega (arith, length_front xs ws N q)

  pub front-zeroed : (ys : List ℕ) → ys ≡ zeroed N (ws ++ drop N xs) → ys ≡ zeroed N xs
  front-zeroed ys e = e ∙ ap (λ (t : List ℕ). replicate N 0 ++ t) front-behind

-- the words in front, when those behind are the old ones and the room is as long as it was
front_length : (N : ℕ) (xs ws ys : List ℕ) → N ≤ length xs → ys ≡ ws ++ drop N xs → length ys ≡ length xs → length ws ≡ N
front_length N xs ws ys l e q = omega (arith, ap length e, length-append ws (drop N xs), length-drop N xs)

-- ---- fill_named: its rooms are those of the filling
module _ {b : List ℕ} {m : Caps} {n : ℕ} {items spans edges closed actions offered rr sr : List ℕ} {ss : List State}
    (S : ForNamed b m n items spans edges closed actions offered rr sr ss) where
  pub actions-long : n * tokens b ≤ length actions
  actions-long = zeroed-long (n * tokens b) actions S.actions-are

  pub offered-long : n * tokens b ≤ length offered
  offered-long = zeroed-long (n * tokens b) offered S.offered-are

  pub rr-long : RR * m.rr ≤ length rr
  rr-long = zeroed-long (RR * m.rr) rr S.rr-are

  pub sr-long : SR * m.sr ≤ length sr
  sr-long = zeroed-long (SR * m.sr) sr S.sr-are

  pub named-states : ForStates b m n items spans edges (take (closed_part b) closed) (take (n * tokens b) actions) (take (n * tokens b) offered)
      (take (RR * m.rr) rr) (take (SR * m.sr) sr) ss
  named-states =
      record {
        good = S.good;
        graph = S.graph;
        number = S.number;
        room = omega (arith, length-take-le (closed_part b) closed S.closed-room);
        rr-fair = S.rr-fair;
        sr-fair = S.sr-fair;
        actions-are = zeroed-front (n * tokens b) actions S.actions-are;
        offered-are = zeroed-front (n * tokens b) offered S.offered-are;
        rr-are = zeroed-front (RR * m.rr) rr S.rr-are;
        sr-are = zeroed-front (SR * m.sr) sr S.sr-are;
      }

  pub named_by : (a : Answer Rows) (r : Result Tally BuildRefusal) (actions' offered' rr' sr' : List ℕ) → FilledBy a b m n r actions' offered' rr' sr'
      → length actions' ≡ length (take (n * tokens b) actions) → length offered' ≡ length (take (n * tokens b) offered)
      → length rr' ≡ length (take (RR * m.rr) rr) → length sr' ≡ length (take (SR * m.sr) sr)
      → NamedBy a b m n r actions offered rr sr (actions' ++ drop (n * tokens b) actions) (offered' ++ drop (n * tokens b) offered)
      (rr' ++ drop (RR * m.rr) rr) (sr' ++ drop (SR * m.sr) sr)
  named_by (is d) (Err e) actions' offered' rr' sr' F p q u v = absurd F
  named_by (is d) (Ok k) actions' offered' rr' sr' F p q u v =
      record {
        tally = F.listed.counts;
        rows = F.rows;
        actions-are = ap (λ (t : List ℕ). t ++ drop (n * tokens b) actions) F.actions-are;
        offered-are = ap (λ (t : List ℕ). t ++ drop (n * tokens b) offered) F.offered-are;
        rr-are = ap (λ (t : List ℕ). t ++ drop (RR * m.rr) rr) F.listed.reduces.is;
        sr-are = ap (λ (t : List ℕ). t ++ drop (SR * m.sr) sr) F.listed.shifts.is;
      }
  named_by (refused why) r actions' offered' rr' sr' F p q u v =
      record {
        stopped = F;
        actions-behind = front-scratch (n * tokens b) actions actions' actions-long p;
        offered-behind = front-scratch (n * tokens b) offered offered' offered-long q;
        rr-behind = front-scratch (RR * m.rr) rr rr' rr-long u;
        sr-behind = front-scratch (SR * m.sr) sr sr' sr-long v;
      }

  -- ---- by the sizes that the code reads
  module _ (t w : ℕ) (t-is : t ≡ tokens b) (w-is : w ≡ closed_part b) where
    pub closed_in : w ≤ length closed
    closed_in = omega (arith, S.closed-room)

    pub states-of : ForStates b m n items spans edges (take w closed) (take (n * t) actions) (take (n * t) offered) (take (RR * m.rr) rr) (take (SR * m.sr) sr) ss
    states-of = rw (t-is, w-is) named-states

    pub named-of : (r : Result Tally BuildRefusal) (actions' offered' rr' sr' : List ℕ) → FilledBy (cells_of b (firsts_of b) m ss) b m n r actions' offered' rr' sr'
        → length actions' ≡ length (take (n * t) actions) → length offered' ≡ length (take (n * t) offered)
        → length rr' ≡ length (take (RR * m.rr) rr) → length sr' ≡ length (take (SR * m.sr) sr)
        → NamedBy (cells_of b (firsts_of b) m ss) b m n r actions offered rr sr (actions' ++ drop (n * t) actions) (offered' ++ drop (n * t) offered)
        (rr' ++ drop (RR * m.rr) rr) (sr' ++ drop (SR * m.sr) sr)
    named-of r actions' offered' rr' sr' F = rw t-is (named_by (cells_of b (firsts_of b) m ss) r actions' offered' rr' sr' F)

    pub closed-zeroed : (ws ys : List ℕ) → length ws ≡ length (take w closed) → ys ≡ zeroed w (ws ++ drop w closed) → ys ≡ zeroed (closed_part b) closed
    closed-zeroed ws ys q f = front-zeroed w closed ws closed_in q ys f ∙ ap (λ (k : ℕ). zeroed k closed) w-is

-- ---- fill_tables
pub at_named : (c N : ℕ) (xs : List ℕ) {ys : List ℕ} → c ≡ N → ys ≡ zeroed c xs → ys ≡ zeroed N xs
at_named c N xs q e = e ∙ ap (λ (k : ℕ). zeroed k xs) q

module _ {b : List ℕ} {m : Caps} {most n : ℕ} {items spans edges closed actions offered rr sr : List ℕ} {ss : List State}
    (S : ForTables b m most n items spans edges closed actions offered rr sr ss) where
  fewer : n * tokens b ≤ most * tokens b
  fewer = mul-le-mul_right {m = n} {n = most} (tokens b) S.fit

  -- the rooms are cleared
  module _ {actions₁ offered₁ rr₁ sr₁ : List ℕ} (ea : actions₁ ≡ zeroed (most * tokens b) actions) (eo : offered₁ ≡ zeroed (most * tokens b) offered)
      (er : rr₁ ≡ zeroed (RR * m.rr) rr) (es : sr₁ ≡ zeroed (SR * m.sr) sr) where
    pub tables-named : ForNamed b m n items spans edges closed actions₁ offered₁ rr₁ sr₁ ss
    tables-named =
        record {
          good = S.good;
          graph = S.graph;
          number = S.number;
          rr-fair = S.rr-fair;
          sr-fair = S.sr-fair;
          closed-room = S.closed-room;
          actions-are = zeroed-less (most * tokens b) actions ea (n * tokens b) fewer;
          offered-are = zeroed-less (most * tokens b) offered eo (n * tokens b) fewer;
          rr-are = zeroed-less (RR * m.rr) rr er (RR * m.rr) (omega arith);
          sr-are = zeroed-less (SR * m.sr) sr es (SR * m.sr) (omega arith);
        }

    module _ (actions' offered' rr' sr' : List ℕ) where
      -- all states are filled
      pub tables-all : (a : Answer Rows) (r : Result Tally BuildRefusal) → NamedBy a b m n r actions₁ offered₁ rr₁ sr₁ actions' offered' rr' sr'
          → length offered' ≡ length offered₁ → is_err r ≡ false → TablesFilled a b m most n r actions offered rr sr actions' offered' rr' sr'
      tables-all (is d) (Ok k) N q z =
          record {
            tally = N.tally;
            rows = N.rows;
            actions-are = N.actions-are ∙ zeroed-pad (most * tokens b) actions ea (n * tokens b) fewer (flat d.cells) (rows-length N.rows);
            offered-are =
                N.offered-are
                ∙ zeroed-pad (most * tokens b) offered eo (n * tokens b) fewer (flat d.offered)
                (front_length (n * tokens b) offered₁ (flat d.offered) offered' (zeroed-long (n * tokens b) offered₁ tables-named.offered-are) N.offered-are q);
            rr-are = N.rr-are ∙ ap (λ (t : List ℕ). pad (RR * m.rr) (each words_rr d.told.rr) ++ t) (zeroed-behind (RR * m.rr) rr er);
            sr-are = N.sr-are ∙ ap (λ (t : List ℕ). pad (SR * m.sr) (each words_sr d.told.sr) ++ t) (zeroed-behind (SR * m.sr) sr es);
          }
      tables-all (is d) (Err e) N q z = absurd N
      tables-all (refused why) (Ok k) N q z = absurd N.stopped
      tables-all (refused why) (Err e) N q z = absurd (true≢false z)

      -- it had to stop, and all is cleared again
      module _ (actions'' offered'' rr'' sr'' : List ℕ) (fa : actions'' ≡ zeroed (most * tokens b) actions') (fo : offered'' ≡ zeroed (most * tokens b) offered')
          (fr : rr'' ≡ zeroed (RR * m.rr) rr') (fs : sr'' ≡ zeroed (SR * m.sr) sr') where
        pub tables-stop : (a : Answer Rows) (r : Result Tally BuildRefusal) → NamedBy a b m n r actions₁ offered₁ rr₁ sr₁ actions' offered' rr' sr'
            → is_err r ≡ true → TablesFilled a b m most n r actions offered rr sr actions'' offered'' rr'' sr''
        tables-stop (is d) (Ok k) N z = absurd (true≢false (sym z))
        tables-stop (is d) (Err e) N z = absurd N
        tables-stop (refused why) r N z =
            record {
              tally = N.stopped;
              rows = tt;
              actions-are = zeroed-again (most * tokens b) actions ea (n * tokens b) fewer N.actions-behind fa;
              offered-are = zeroed-again (most * tokens b) offered eo (n * tokens b) fewer N.offered-behind fo;
              rr-are = zeroed-again (RR * m.rr) rr er (RR * m.rr) (omega arith) N.rr-behind fr;
              sr-are = zeroed-again (SR * m.sr) sr es (SR * m.sr) (omega arith) N.sr-behind fs;
            }
