-- States only grow: in number, and of each the tokens of its items; and one state changed or one more. Assumes nothing.
use mathlib.Core.List.{List, [], ◌∷◌, ◌++◌}
use mathlib.Core.Path.{◌≡◌, refl, sym, ap, ◌∙◌, subst}
use Prim.Native.Nat.{ℕ, zero, suc, ◌+◌, ◌*◌, ◌<◌}
use native.Mathlib.Decide.{ℕ_discrete, dec_lt}
use native.Mathlib.Omega.{arith}
use lib.ListN.{length, get_or, length-append, get_or-append}
use lib.Seq.{get_or-append_seam}
use Rattle.knuth.specs.Kernel.{◌⊑◌, ◌⊆◌}
use Rattle.block.specs.Limits.{DOTS}
use Rattle.block.specs.Lists.{change}
use Rattle.block.proofs.ListLaws.{change-at, change-other, change-size}
use Rattle.itemset.specs.Rows.{Row}
use Rattle.itemset.specs.Kernel.{kernel_of}
use Rattle.pager.specs.Place.{State, Limits, items, new, take_in}
use Rattle.pager.specs.Graph.{nowhere, edge_to, mark}
use Rattle.pager.specs.Growing.{Grown, Grows}
use Rattle.pager.proofs.Union.{union-present, present-union, token-union-left, union-length}
use Rattle.pager.proofs.Places.{Placing}

-- ---- one state changed
pub change-get {ℓ} : (P : State → Type ℓ) (f : State → State) (n : ℕ) (ss : List State) (r : ℕ) → n < length ss → (r ≡ n → P (f (get_or ss n nowhere)))
    → ((r ≡ n → ⊥) → P (get_or ss r nowhere)) → P (get_or (change f n ss) r nowhere)
change-get P f n ss r l here other =
    elim (ℕ_discrete r n) [
      | yes e ↦ subst P (sym (ap (λ i. get_or (change f n ss) i nowhere) e ∙ change-at f nowhere n ss l)) (here e)
      | no d ↦ subst P (sym (change-other f nowhere n ss r d)) (other d)
    ]

pub change-items : (f : State → State) → ((st : State) → length (f st).rows ≡ length st.rows) → (n : ℕ) (ss : List State)
    → items (change f n ss) ≡ items ss
unfolding change items
change-items f h n [] = refl
change-items f h zero (st ∷ ss) = let e = h st in omega arith
change-items f h (suc n) (st ∷ ss) = let e = change-items f h n ss in omega arith

-- ---- one state more
pub snoc-items : (ss : List State) (st : State) → items (ss ++ (st ∷ [])) ≡ items ss + length st.rows
unfolding items
snoc-items [] st = omega arith
snoc-items (x ∷ ss) st = let h = snoc-items ss st in omega arith

pub snoc-length : (ss : List State) (st : State) → length (ss ++ (st ∷ [])) ≡ suc (length ss)
snoc-length ss st = omega (arith, length-append ss (st ∷ []))

pub snoc-get {ℓ} : (P : State → Type ℓ) (ss : List State) (st : State) (r : ℕ) → r < suc (length ss) → (r < length ss → P (get_or ss r nowhere))
    → (r ≡ length ss → P st)
    → P (get_or (ss ++ (st ∷ [])) r nowhere)
snoc-get P ss st r l old here =
    elim (dec_lt r (length ss)) [
      | yes h ↦ subst P (sym (get_or-append ss (st ∷ []) nowhere r h)) (old h)
      | no d ↦
          let e : r ≡ length ss = omega arith in
          subst P (sym (ap (λ i. get_or (ss ++ (st ∷ [])) i nowhere) e ∙ get_or-append_seam ss st [] nowhere)) (here e)
    ]

-- ---- of one state
pub grown-refl : (st : State) → Grown st st
grown-refl st = record { made = refl; size = refl; items = λ k m. m; only = λ k m. m; tokens = λ k t m. m }

pub grown-trans : (q r s : State) → Grown q r → Grown r s → Grown q s
grown-trans q r s g h =
    record {
      made = h.made ∙ g.made;
      size = h.size ∙ g.size;
      items = λ k m. h.items k (g.items k m);
      only = λ k m. g.only k (h.only k m);
      tokens = λ k t m. h.tokens k t (g.tokens k t m);
    }

pub grown-take : (K : List Row) (st : State) → Grown st (take_in K st)
unfolding take_in
grown-take K st =
    record {
      made = refl;
      size = union-length st.rows K;
      items = λ k m. present-union k st.rows K m;
      only = λ k m. union-present k st.rows K m;
      tokens = λ k t m. token-union-left k t st.rows K m;
    }

pub grown-edge : (b : List ℕ) (x t : ℕ) (st : State) → Grown st (edge_to b x t st)
unfolding edge_to
grown-edge b x t st = record { made = refl; size = refl; items = λ k m. m; only = λ k m. m; tokens = λ k t m. m }

pub grown-mark : (st : State) → Grown st (mark st)
unfolding mark
grown-mark st = record { made = refl; size = refl; items = λ k m. m; only = λ k m. m; tokens = λ k t m. m }

-- the same of kernels
pub grown-under : (st rt : State) → Grown st rt → kernel_of st.rows ⊑ kernel_of rt.rows
grown-under st rt g =
    record {
      items = λ p d m. (m.0, g.items (DOTS * p + d) m.1);
      tokens = λ p d t m. (m.0, g.tokens (DOTS * p + d) t m.1);
    }

pub grown-back : (st rt : State) → Grown st rt → kernel_of rt.rows ⊆ kernel_of st.rows
grown-back st rt g p d m = (m.0, g.only (DOTS * p + d) m.1)

-- ---- of all
pub grows-refl : (ss : List State) → Grows ss ss
grows-refl ss = record { more = omega arith; state = λ n l. grown-refl (get_or ss n nowhere) }

pub grows-trans : (qq rr ss : List State) → Grows qq rr → Grows rr ss → Grows qq ss
grows-trans qq rr ss g h =
    record {
      more = let a = g.more in let c = h.more in omega arith;
      state = λ n l.
          let a = g.more in
          grown-trans (get_or qq n nowhere) (get_or rr n nowhere) (get_or ss n nowhere) (g.state n l) (h.state n (omega arith));
    }

pub grows-change : (f : State → State) → ((st : State) → Grown st (f st)) → (n : ℕ) (ss : List State) → n < length ss → Grows ss (change f n ss)
grows-change f g n ss l =
    record {
      more = omega (arith, change-size f n ss);
      state = λ r k.
          change-get (λ st. Grown (get_or ss r nowhere) st) f n ss r l
          (λ e. subst (λ i. Grown (get_or ss i nowhere) (f (get_or ss n nowhere))) (sym e) (g (get_or ss n nowhere)))
          (λ d. grown-refl (get_or ss r nowhere));
    }

pub grows-snoc : (ss : List State) (st : State) → Grows ss (ss ++ (st ∷ []))
grows-snoc ss st =
    record {
      more = omega (arith, snoc-length ss st);
      state = λ r k. subst (λ rt. Grown (get_or ss r nowhere) rt) (sym (get_or-append ss (st ∷ []) nowhere r k)) (grown-refl (get_or ss r nowhere));
    }

pub grows-place : (b : List ℕ) (m : Limits) (x : ℕ) (K : List Row) (ss : List State) (t : ℕ) (rr : List State) → Placing b m x K ss t rr → Grows ss rr
grows-place b m x K ss t rr (Placing.equal n l e r) = grows-refl ss
grows-place b m x K ss t rr (Placing.weak n l e r) = grows-change (take_in K) (grown-take K) n ss l
grows-place b m x K ss t rr (Placing.fresh l e) = grows-snoc ss (new b (suc x) K)
