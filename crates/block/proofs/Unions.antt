-- The union of sets is associative, and has the empty set as its unit. Assumes nothing.
use mathlib.Core.List.{List, [], ◌∷◌}
use mathlib.Core.Path.{◌≡◌, refl, ap, ap₂}
use Prim.Native.Nat.{ℕ, zero, suc, ◌+◌, ◌*◌, ◌/◌, ◌%◌, ◌^◌, ◌<◌}
use native.Mathlib.Nat.{pow-suc}
use native.Mathlib.Omega.{arith}
use lib.Bits.{bit_or, or_zero_l, or_zero_r, or_lt}
use lib.ListN.{length, get_or, set, replicate}
use lib.Pow.{pow_mono}
use Rattle.block.specs.Limits.{WORDS}
use Rattle.block.specs.Sets.{join, empty, with}
use Rattle.block.proofs.Bits.{bit-or, bit-ext}

below-pow : (n : ℕ) → n < 2 ^ n
below-pow zero = omega arith
below-pow (suc n) = let e : 2 ^ suc n ≡ 2 ^ n * 2 = pow-suc 2 n in let l = below-pow n in omega arith

pub or_assoc : (x y z : ℕ) → bit_or (bit_or x y) z ≡ bit_or x (bit_or y z)
or_assoc x y z =
    bit-ext n (bit_or (bit_or x y) z) (bit_or x (bit_or y z)) (or_lt n (bit_or x y) z (or_lt n x y hx hy) hz) (or_lt n x (bit_or y z) hx (or_lt n y z hy hz))
    (λ k l. omega (arith, bit-or (bit_or x y) z k, bit-or x y k, bit-or x (bit_or y z) k, bit-or y z k))
  where
    n : ℕ
    n = x + y + z

    hx : x < 2 ^ n
    hx = omega (arith, below-pow x, pow_mono {i = x} {j = n} (omega arith))

    hy : y < 2 ^ n
    hy = omega (arith, below-pow y, pow_mono {i = y} {j = n} (omega arith))

    hz : z < 2 ^ n
    hz = omega (arith, below-pow z, pow_mono {i = z} {j = n} (omega arith))

pub join-assoc : (a b c : List ℕ) → join (join a b) c ≡ join a (join b c)
unfolding join
join-assoc [] b c = refl
join-assoc (x ∷ a) [] c = refl
join-assoc (x ∷ a) (y ∷ b) [] = refl
join-assoc (x ∷ a) (y ∷ b) (z ∷ c) = ap₂ {C = List ℕ} (λ u us. u ∷ us) (or_assoc x y z) (join-assoc a b c)

zeros-join : (n : ℕ) (s : List ℕ) → length s ≡ n → join (replicate n 0) s ≡ s
unfolding join
zeros-join zero s e = refl
zeros-join (suc n) [] e = absurd (omega arith)
zeros-join (suc n) (x ∷ s) e = ap₂ {C = List ℕ} (λ u us. u ∷ us) (or_zero_l x) (zeros-join n s (omega arith))

join-zeros : (n : ℕ) (s : List ℕ) → length s ≡ n → join s (replicate n 0) ≡ s
unfolding join
join-zeros zero [] e = refl
join-zeros zero (x ∷ s) e = refl
join-zeros (suc n) [] e = absurd (omega arith)
join-zeros (suc n) (x ∷ s) e = ap₂ {C = List ℕ} (λ u us. u ∷ us) (or_zero_r x) (join-zeros n s (omega arith))

zeros-with : (n : ℕ) (s : List ℕ) (i v : ℕ) → length s ≡ n → join s (set (replicate n 0) i (bit_or (get_or (replicate n 0) i 0) v)) ≡ set s i (bit_or (get_or s i 0) v)
unfolding join
zeros-with zero [] i v e = refl
zeros-with zero (x ∷ s) i v e = absurd (omega arith)
zeros-with (suc n) [] i v e = absurd (omega arith)
zeros-with (suc n) (x ∷ s) zero v e = ap₂ {C = List ℕ} (λ u us. u ∷ us) (ap (bit_or x) (or_zero_l v)) (join-zeros n s (omega arith))
zeros-with (suc n) (x ∷ s) (suc i) v e = ap₂ {C = List ℕ} (λ u us. u ∷ us) (or_zero_r x) (zeros-with n s i v (omega arith))

pub empty-join : (s : List ℕ) → length s ≡ WORDS → join empty s ≡ s
unfolding empty
empty-join s e = zeros-join WORDS s e

pub join-empty : (s : List ℕ) → length s ≡ WORDS → join s empty ≡ s
unfolding empty
join-empty s e = join-zeros WORDS s e

-- one token more is the union with that token alone
pub join-single : (s : List ℕ) (t : ℕ) → length s ≡ WORDS → join s (with empty t) ≡ with s t
unfolding empty with
join-single s t e = zeros-with WORDS s (t / 64) (2 ^ (t % 64)) e
