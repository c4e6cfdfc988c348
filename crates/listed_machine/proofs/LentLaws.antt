-- Four numbers and what is expected of the call with them. Assumes nothing.
use mathlib.Core.Bool.{Bool, true, false}
use mathlib.Core.Logic.{◌↔◌}
use mathlib.Core.List.{List, [], ◌∷◌}
use mathlib.Core.Path.{◌≡◌, refl, sym, ap, ◌∙◌}
use Prim.Native.Nat.{ℕ, ◌^◌, ◌-◌, ◌<◌, ◌≤◌}
use native.Mathlib.Omega.{arith}
use lib.ListN.{length, get_or, take, drop, replicate}
use Rattle.words.proofs.PartLaws.{part-tail}
use Rattle.words.proofs.Answers.{says-no}
use Rattle.machine.specs.Call.{Call, called}
use Rattle.listed_block.specs.Rooms.{bounded_of}
use Rattle.listed_machine.specs.Cases.{run_words, LentCase}
use Rattle.listed_block.proofs.Front.{take-replicate}

module _ (b : List ℕ) (states : ℕ) (actions gotos input : List ℕ) where
  -- the call that the four numbers ask for
  abbrev pub asked : (limit fill stack output : ℕ) → Call
  asked limit fill stack output =
      called b states actions gotos input limit (replicate (bounded_of stack) fill) (replicate (bounded_of output) fill)

  module _ (rest : List ℕ) where
    pub lent-short : length rest < 4 → (false ≡ true) ↔ LentCase b states actions gotos input rest
    lent-short h = says-no (λ q. omega (arith, h, ap length q.words))

    pub lent-wide : 4294967295 < get_or rest 1 0 → (false ≡ true) ↔ LentCase b states actions gotos input rest
    lent-wide h = says-no (λ q. omega (arith, h, q.narrow, ap (λ l. get_or l 1 0) q.words))

  by : {r : Bool} (limit fill stack output : ℕ) (ws : List ℕ) → fill < 2 ^ 32
      → (r ≡ true) ↔ (ws ≡ run_words (asked limit fill stack output))
      → (r ≡ true) ↔ LentCase b states actions gotos input (limit ∷ fill ∷ stack ∷ output ∷ ws)
  by limit fill stack output ws h i = (
    λ t. record { limit = limit; fill = fill; stack = stack; output = output; narrow = h; words = ap (λ l. limit ∷ fill ∷ stack ∷ output ∷ l) (i.0 t) },
    λ q.
        let l = ap (λ x. get_or x 0 0) q.words in
        let f = ap (λ x. get_or x 1 0) q.words in
        let s = ap (λ x. get_or x 2 0) q.words in
        let o = ap (λ x. get_or x 3 0) q.words in
        i.1 (ap (drop 4) q.words ∙ rw (l, f, s, o) refl),
  )

  called_same : {l m : ℕ} {s t o q : List ℕ} → l ≡ m → s ≡ t → o ≡ q
      → called b states actions gotos input l s o ≡ called b states actions gotos input m t q
  called_same e f g = rw (e, f, g) refl

  -- the call decides, lent the fronts of two filled rooms
  pub lent_by : {r : Bool} (rest : List ℕ) (limit n m room : ℕ)
      → 4 ≤ length rest → get_or rest 1 0 < 2 ^ 32
      → limit ≡ get_or rest 0 0 → n ≡ bounded_of (get_or rest 2 0) → n ≤ room → m ≡ bounded_of (get_or rest 3 0) → m ≤ room
      → (r ≡ true) ↔ (take (length rest - 4) (drop 4 rest) ≡ run_words (called b states actions gotos input limit (take n (replicate room (get_or rest 1 0))) (take m (replicate room (get_or rest 1 0)))))
      → (r ≡ true) ↔ LentCase b states actions gotos input rest
  lent_by [] limit n m room h w x y y' z z' i = absurd (omega arith)
  lent_by (l ∷ []) limit n m room h w x y y' z z' i = absurd (omega arith)
  lent_by (l ∷ f ∷ []) limit n m room h w x y y' z z' i = absurd (omega arith)
  lent_by (l ∷ f ∷ s ∷ []) limit n m room h w x y y' z z' i = absurd (omega arith)
  lent_by (l ∷ f ∷ s ∷ o ∷ ws) limit n m room h w x y y' z z' i =
      let t = part-tail 4 (l ∷ f ∷ s ∷ o ∷ ws) in
      let same = ap run_words (called_same x (take-replicate n room f y' ∙ ap (λ k. replicate k f) y) (take-replicate m room f z' ∙ ap (λ k. replicate k f) z)) in
      by l f s o ws w (λ p. sym t ∙ i.0 p ∙ same, λ e. i.1 (t ∙ e ∙ sym same))
