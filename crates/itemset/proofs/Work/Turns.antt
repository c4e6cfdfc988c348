-- One turn of the work list: a production is taken off it and hands on what it has. Assumes nothing.
use mathlib.Core.Bool.{true, false}
use mathlib.Core.List.{List}
use mathlib.Core.Path.{◌≡◌, sym, ◌∙◌}
use Prim.Native.Nat.{ℕ, ◌*◌, ◌≤◌, ◌<◌}
use native.Mathlib.Omega.{arith}
use lib.ListN.{length, take}
use lib.Seq.{get_or-take}
use Rattle.std.proofs.lemmas.List.{length-take-le}
use Rattle.std.specs.Prelude.{Some, None}
use Rattle.std.specs.List.{position, position_or_len}
use Rattle.std.proofs.lemmas.Grind.{common_steps}
use Rattle.std.proofs.lemmas.List.Quantifiers.{position-Some}
use Rattle.std.proofs.lemmas.List.Sums.{fails_before_first}
use Rattle.block.specs.Limits.{DOTS, PRODS}
use Rattle.block.specs.Block.{prods}
use Rattle.block.specs.Refusal.{Good}
use Rattle.block.specs.First.{firsts_of}
use Rattle.block.proofs.Good.{placed}
use Rattle.itemset.specs.declared.closure.Closure.{Closure}
use Rattle.itemset.specs.Rows.{Row, Item}
use Rattle.itemset.specs.Kernel.{kernel_of}
use Rattle.itemset.specs.Lay.{contexts_of}
use Rattle.itemset.specs.Work.{todo_of, Sized, HandedOn, Working}
use Rattle.itemset.proofs.GoodReady.{good-ready}
use Rattle.itemset.proofs.Inside.{Sound, zero-sound}
use Rattle.itemset.proofs.Work.Cells.{unmark}
use Rattle.itemset.proofs.Work.Steps.{handed-change, handed-work, handed-done, hand-work, off-work}
use Rattle.itemset.proofs.Work.Weight.{weight, weight-step, weight-take}

module _ (b : List ℕ) (g : Good b) (p : ℕ) (l : p < prods b) where
  pub turn-item : Item b (DOTS * p)
  turn-item = record { prod = omega arith; dot = omega arith }

  pub turn_low : p < PRODS
  turn_low = let m = (placed g).prods-most in omega arith

  module _ (K : List Row) (n : ℕ) (y : Closure) (T : Working b (firsts_of b) K n (prods b) y) (t : todo_of y p ≡ true) where
    abbrev taken : Closure
    taken = unmark y T.size p turn_low

    hand : Working b (firsts_of b) K n p taken
    hand = hand-work b (firsts_of b) K n y T p turn_low t

    sound : Sound b (kernel_of K) (DOTS * p) (contexts_of y p)
    sound = zero-sound b (kernel_of K) p (contexts_of y p) l (T.sound p l (T.marked p l t)) (T.held p l)

    module _ (z : Closure) (H : HandedOn b (firsts_of b) (DOTS * p) (contexts_of y p) (unmark y T.size p turn_low) z) where
      work : Working b (firsts_of b) K n p z
      work = handed-work b (firsts_of b) K n p (good-ready g) taken z hand (DOTS * p) (contexts_of y p) sound (T.fits p l) H

      pub turn-work : Working b (firsts_of b) K n (prods b) z
      turn-work =
          off-work b (firsts_of b) K n p taken z work
          (handed-change b (firsts_of b) K n p (good-ready g) taken z hand (DOTS * p) (contexts_of y p) sound (T.fits p l) H p l)
          (handed-done b (firsts_of b) K n p (good-ready g) taken z hand (DOTS * p) (contexts_of y p) sound (T.fits p l) H)

      pub turn-less : weight b z < weight b y
      turn-less =
          let a =
          weight-step b (firsts_of b) K n p taken z work
          (handed-change b (firsts_of b) K n p (good-ready g) taken z hand (DOTS * p) (contexts_of y p) sound (T.fits p l) H) H.cause in
          let c = weight-take b y T.size p turn_low l t in
          omega arith

-- ---- the first production below n that has to be looked at
module _ (z : Closure) (S : Sized z) (n : ℕ) (m : n ≤ PRODS) where
  pub next-found : (p : ℕ) → position (λ mark. mark) (take n z.todo) ≡ Some p → (p < n) × (todo_of z p ≡ true)
  next-found p e =
      let f = position-Some (λ mark. mark) (take n z.todo) p false e in
      let h = length-take-le n z.todo (omega (arith, m, S.todo)) in
      let k : p < n = omega (arith, f.0, h) in
      (k, sym (get_or-take n z.todo p false k) ∙ f.1)

  pub next-none : position (λ mark. mark) (take n z.todo) ≡ None → (q : ℕ) → q < n → todo_of z q ≡ false
  next-none e q l =
      let h = length-take-le n z.todo (omega (arith, m, S.todo)) in
      let all : length (take n z.todo) ≤ position_or_len (λ mark. mark) (take n z.todo) = grind (arith, common_steps) in
      sym (get_or-take n z.todo q false l) ∙ fails_before_first (λ mark. mark) (take n z.todo) q false (omega (arith, all, h, l))
