-- The words in front of the padding: taken out, and put back as fewer. Assumes nothing.
use mathlib.Core.List.{List, ◌++◌, append_assoc}
use mathlib.Core.Path.{◌≡◌, refl, sym, ap, ◌∙◌}
use Prim.Native.Nat.{ℕ, ◌+◌, ◌-◌, ◌≤◌}
use native.Mathlib.Omega.{arith}
use lib.ListN.{length, take, drop, replicate, length-append, replicate-append-replicate}
use lib.Seq.{take_at, drop_at, length-take-le}
use Rattle.pager.specs.Memory.{pad}

module _ (n k : ℕ) (ws z xs : List ℕ) (e : xs ≡ pad n ws ++ z) (size : length ws ≡ k) where
  whole : xs ≡ ws ++ (replicate (n - length ws) 0 ++ z)
  unfolding pad
  whole = e ∙ append_assoc ws (replicate (n - length ws) 0) z

  pub prefix-in : k ≤ length xs
  prefix-in = omega (arith, ap length whole, length-append ws (replicate (n - length ws) 0 ++ z))

  pub prefix-is : take k xs ≡ ws
  prefix-is = rw whole (take_at ws (replicate (n - length ws) 0 ++ z) k size)

  behind : drop k xs ≡ replicate (n - k) 0 ++ z
  behind = rw (whole, drop_at ws (replicate (n - length ws) 0 ++ z) k size, size) refl

  -- the part comes back with the words us, and zeros behind them
  pub prefix_back : k ≤ n → (us ys : List ℕ) → length us ≤ k → ys ≡ pad (length (take k xs)) us → ys ++ drop k xs ≡ pad n us ++ z
  unfolding pad
  prefix_back fit us ys few q =
      let a : length (take k xs) ≡ k = length-take-le k xs prefix-in in
      let c : k - length us + (n - k) ≡ n - length us = omega arith in
      rw (q, a, behind)
      (sym (append_assoc (us ++ replicate (k - length us) 0) (replicate (n - k) 0) z)
      ∙ ap (λ l. l ++ z)
      (append_assoc us (replicate (k - length us) 0) (replicate (n - k) 0)
      ∙ ap (λ l. us ++ l) (replicate-append-replicate (k - length us) (n - k) 0 ∙ ap (λ i. replicate i 0) c)))
