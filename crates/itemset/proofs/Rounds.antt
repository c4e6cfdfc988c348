-- A round of rule 2, and all rounds: what every `put` keeps they keep, and what a row hands on comes in. Assumes nothing.
use mathlib.Core.List.{List, [], ◌∷◌, foldl}
use mathlib.Core.Logic.{inl, inr}
use mathlib.Core.Path.{◌≡◌, subst}
use Prim.Native.Nat.{ℕ, ◌+◌, ◌*◌, ◌^◌}
use Rattle.block.specs.Limits.{WORDS, DOTS}
use Rattle.block.specs.Block.{prods}
use Rattle.block.specs.Sets.{In}
use Rattle.block.specs.First.{Ahead, ahead_of}
use Rattle.block.proofs.Settle.{settle-keeps}
use Rattle.itemset.specs.Rows.{Row, row, Present, Token, same_rows}
use Rattle.itemset.specs.Close.{put, handed, give, close_of}
use Rattle.itemset.specs.Opens.{Opens}
use Rattle.itemset.proofs.Put.{put_has, put-tok, put_keeps, put-keeps-tok}
use Rattle.itemset.proofs.Has.{Has}
use Rattle.itemset.proofs.Opening.{give-keeps, give-gives}

module _ (b : List ℕ) (F : List Ahead) where
  abbrev pub round : List Row → List Row
  round rs = foldl (give b F) rs rs

  -- a round keeps what every `put` keeps
  pub round_keeps : (P : List Row → Type 0) → ((i : ℕ) (s : List ℕ) (a : List Row) → P a → P (put i s a))
      → (xs : List Row) (rs : List Row) → P rs → P (foldl (give b F) rs xs)
  round_keeps P keeps [] rs h = h
  round_keeps P keeps (row i s ∷ xs) rs h =
      round_keeps P keeps xs (give b F rs (row i s))
      (give-keeps P b F rs i s (λ q w a o k. keeps (DOTS * q) (handed s (ahead_of F w)) a k) h)

  -- what every round keeps, the closure keeps
  pub close-ind : (P : List Row → Type 0) → ((rs : List Row) → P rs → P (round rs)) → (K : List Row) → P K → P (close_of b F K)
  unfolding close_of
  close-ind P keeps K h = settle-keeps same_rows round P keeps (DOTS * prods b * (WORDS * 2 ^ 64 + 1)) K h

  pub close-keeps : (P : List Row → Type 0) → ((i : ℕ) (s : List ℕ) (a : List Row) → P a → P (put i s a)) → (K : List Row) → P K
      → P (close_of b F K)
  close-keeps P keeps K h = close-ind P (λ rs k. round_keeps P keeps rs rs k) K h

  pub close-has : (K : List Row) (k : ℕ) → Present k K → Present k (close_of b F K)
  close-has K k h = close-keeps (λ rs. Present k rs) (λ i s a m. put_keeps k i s a m) K h

  pub close-has-tok : (K : List Row) (k t : ℕ) → Token k t K → Token k t (close_of b F K)
  close-has-tok K k t h = close-keeps (λ rs. Token k t rs) (λ i s a m. put-keeps-tok k t i s a m) K h

  -- ---- a row of i gives each production that i opens what it hands on
  module _ (i q : ℕ) (w : List ℕ) (o : Opens b i q w) where
    round-gives : (P : List Row → Type 0) → ((j : ℕ) (s : List ℕ) (a : List Row) → P a → P (put j s a))
        → (s : List ℕ) → ((a : List Row) → P (put (DOTS * q) (handed s (ahead_of F w)) a))
        → (j : ℕ) → i ≡ j → (xs : List Row) (rs : List Row) → P (foldl (give b F) (give b F rs (row j s)) xs)
    round-gives P keeps s gives j h xs rs =
        subst (λ n. P (foldl (give b F) (give b F rs (row n s)) xs)) h
        (round_keeps P keeps xs (give b F rs (row i s))
        (give-gives P b F rs i s q w o gives (λ j a m. keeps j (handed s (ahead_of F w)) a m)))

    pub round-item : (s : List ℕ) (xs : List Row) → Has i s xs → (rs : List Row) → Present (DOTS * q) (foldl (give b F) rs xs)
    round-item s [] m rs = absurd m
    round-item s (row j u ∷ xs) (inl h) rs =
        round-gives (λ a. Present (DOTS * q) a) (λ j s a m. put_keeps (DOTS * q) j s a m) u (λ a. put_has (DOTS * q) (handed u (ahead_of F w)) a) j h.0 xs rs
    round-item s (row j u ∷ xs) (inr m) rs = round-item s xs m (give b F rs (row j u))

    pub round-token : (s : List ℕ) (t : ℕ) → In (handed s (ahead_of F w)) t → (xs : List Row) → Has i s xs → (rs : List Row)
        → Token (DOTS * q) t (foldl (give b F) rs xs)
    round-token s t f [] m rs = absurd m
    round-token s t f (row j u ∷ xs) (inl h) rs =
        round-gives (λ a. Token (DOTS * q) t a) (λ j s a m. put-keeps-tok (DOTS * q) t j s a m) u
        (λ a. put-tok t (DOTS * q) (handed u (ahead_of F w)) a (subst (λ v. In (handed v (ahead_of F w)) t) h.1 f)) j h.0 xs rs
    round-token s t f (row j u ∷ xs) (inr m) rs = round-token s t f xs m (give b F rs (row j u))
