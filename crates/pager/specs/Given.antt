-- What holds of an answer, if it is no refusal. Assumes nothing.
use Rattle.pager.specs.Lists.{Answer, is, refused}

abbrev pub Given {ℓ} : {A : Type 0} → Answer A → (A → Type ℓ) → Type ℓ
Given (is a) P = P a
Given (refused e) P = Unit {ℓ}
