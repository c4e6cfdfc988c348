-- Rows as a kernel of knuth. Assumes nothing.
use Rattle.std.specs.Prelude.{List, [], ◌∷◌, ℕ, ◌+◌, ◌*◌, ◌<◌}
use Rattle.std.proofs.Common.{inl, inr}
use Rattle.knuth.specs.Kernel.{Kernel}
use Rattle.block.specs.Limits.{DOTS}
use Rattle.itemset.specs.Rows.{Row, row, Present, Token}

pub token-present : (k t : ℕ) (rs : List Row) → Token k t rs → Present k rs
token-present k t [] m = m
token-present k t (row i s ∷ rs) (inl e) = inl e.0
token-present k t (row i s ∷ rs) (inr m) = inr (token-present k t rs m)

abbrev pub kernel_of : List Row → Kernel
kernel_of rs =
    record {
      has = λ p d. (d < DOTS) × Present (DOTS * p + d) rs;
      tok = λ p d t. (d < DOTS) × Token (DOTS * p + d) t rs;
      tok-has = λ {p} {d} {t} m. (m.0, token-present (DOTS * p + d) t rs m.1);
    }
